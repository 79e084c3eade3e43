-- The whole write, refused and not: its stores are those of the start's steps.
use mathlib.Core.Path.{◌≡◌, refl, sym}
use mathlib.Core.List.{List}
use Rattle.std.proofs.Common.{Ok, Err}
use Prim.Native.Nat.{ℕ}
use native.Mathlib.Omega.{arith}
use lib.ListN.{length}
use Rattle.machine.specs.declared.refusal.Refusal.{Refusal}
use Rattle.machine.specs.state.Answer.{refusal_number}
use Rattle.machine.proofs.Refusals.{not_zero}
use Rattle.machine.specs.state.Flog.{map_block}
use Rattle.machine.specs.state.Handle.{Handle, with, lane_at, laid_out}
use Rattle.machine.specs.state.Lane.{started_lane, finished_lane, write_stores}
use Rattle.machine.specs.calls.Writing.{start_of, write_number, write_of}
use Rattle.machine.specs.declared.lane.Lane.{Lane}
use Rattle.machine.specs.declared.handle.Handle as bare
use Rattle.machine.proofs.calls.Accepted.{StartFound, start_found, write_found}
use Rattle.machine.proofs.calls.Whole.{steps_all, begun_ok}
use Rattle.stores.specs.Record.{with_stores, RecordFit}
use Rattle.seen.specs.declared.Seen.{Seen}
use Rattle.seen.specs.Seen.{seen_of, moved}
use Rattle.seen.proofs.Laws.{seen_own}
use Rattle.writing.proofs.Rules.{record_fit}

-- a whole write of a table of which that is seen, refused and not
module _ (a : List ℕ) (h : bare.Handle) (t : List Lane) (l s : ℕ) (seen : Seen) (e : seen ≡ seen_of h t l s) (buffer : List ℕ) where
  abbrev k : Handle
  k = with h t

  pub write_refused : (r : Refusal) → refusal_number r ≡ write_number a k l s buffer → moved k l (Err r) a ≡ write_of a k l s buffer
  unfolding write_of
  write_refused r given = rw (← given, not_zero r)

  module _ (given : 0 ≡ write_number a k l s buffer) where
    -- the lane's record with the write begun
    abbrev begun : Lane
    begun = started_lane seen.own s (map_block (laid_out k) a s)

    accepted : write_number a k l s buffer ≡ 0
    accepted = sym given

    -- what an accepted write found: what a start finds, and a buffer that fits
    pub write_found_start : StartFound a k l s
    write_found_start = start_found a k l s (write_found a k l s buffer accepted).start

    pub write_found_size : length buffer ≡ h.figures.size
    write_found_size = (write_found a k l s buffer accepted).size

    -- what its stores ask
    pub begun_fit : RecordFit h.figures l begun 0
    begun_fit =
        let found = write_found_start in
        rw (seen_own a h t l s seen e)
        (record_fit a k found.judged l 0 _ found.lane (begun_ok a k l s found) (omega arith))

    pub write_done :
        moved k l (Ok (finished_lane begun))
        (with_stores h.distance h.figures l begun buffer (write_stores (laid_out k)) a)
        ≡ write_of a k l s buffer
    unfolding write_of start_of
    write_done =
        let found = write_found_start in
        let first : Lane = started_lane (lane_at t l) s (map_block (laid_out k) a s) in
        rw (
          seen_own a h t l s seen e,
          accepted,
          (write_found a k l s buffer accepted).start,
          steps_all a k l first buffer found.judged found.lane refl (begun_ok a k l s found) write_found_size,
        )
