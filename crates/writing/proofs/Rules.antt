-- What a table that rules 16 and 21 let pass gives a write, and what a judged start or step gives, refused and not.
use mathlib.Core.Path.{◌≡◌, sym, ◌∙◌}
use Rattle.std.proofs.Common.{Ok, Err}
use mathlib.Core.Logic.{⊎_elim}
use mathlib.Core.Bool.{true}
use mathlib.Core.List.{List}
use Prim.Native.Nat.{ℕ, ◌+◌, ◌/◌, ◌<◌}
use native.Mathlib.Omega.{arith}
use lib.Dec.{eqb}
use lib.ListN.{length, replicate, length-replicate}
use borrow.Author.Tests.{eq-eqb}
use Rattle.layout.specs.Place.{layout_of}
use Rattle.machine.specs.Rules.{answer}
use Rattle.machine.specs.declared.refusal.Refusal.{Refusal}
use Rattle.machine.specs.state.Answer.{refusal_number}
use Rattle.machine.proofs.Refusals.{not_zero}
use Rattle.machine.specs.state.Flog.{map_block}
use Rattle.machine.specs.state.Handle.{Handle, with, lane_at, laid_out}
use Rattle.machine.specs.state.Lane.{started_lane}
use Rattle.machine.specs.state.Stores.{stored}
use Rattle.machine.specs.words.Running.{LaneOk}
use Rattle.machine.specs.calls.Judging.{call_number}
use Rattle.machine.specs.calls.Writing.{start_number, start_of, step_number, step_of, write_number, store_at, plan_of, lane_stored}
use Rattle.machine.specs.declared.lane.Lane.{Lane}
use Rattle.machine.specs.declared.handle.Handle as bare
use Rattle.machine.proofs.calls.Accepted.{Judged, StartFound, start_found, StepFound, step_found}
use Rattle.machine.proofs.calls.Running.{records_ok, handle_fit}
use Rattle.stores.specs.Record.{RecordFit}
use Rattle.seen.specs.declared.Seen.{Seen}
use Rattle.seen.specs.Seen.{seen_of, moved}
use Rattle.seen.proofs.Laws.{seen_own}
use Rattle.writing.specs.Gave.{WriteGives}

-- ---- what rules 16 and 21 give

module _ (a : List ℕ) (h : Handle) (judged : Judged a h) where
  -- a record in range can make any store of a write
  pub record_fit : (l k : ℕ) (r : Lane) → l < h.figures.lanes → LaneOk (laid_out h) r → k < h.figures.size / 4 + 5
      → RecordFit h.figures l r k
  unfolding layout_of
  record_fit l k r u o v =
      let f = handle_fit h (length a) judged.handle in
      record {
        lane = u;
        block = o.block;
        half = ⊎_elim (λ x. omega arith) (λ x. omega arith) o.half;
        sector = o.sector;
        store = v;
        size = f.size;
        blocks = f.ok.small;
      }

  -- so can a lane's record its next one
  pub next_fit : (l : ℕ) → l < h.figures.lanes → (r : Lane) → r ≡ lane_at h.table l → RecordFit h.figures l r r.made
  unfolding layout_of
  next_fit l u r f =
      let o : LaneOk (laid_out h) r = rw f (records_ok h judged.records l u) in
      record_fit l r.made r u o o.made

-- ---- what a judged call gives of a table of which that is seen

-- a write whose buffer fits is judged as a start
write_start : (a : List ℕ) (h : Handle) (l s : ℕ) (buffer : List ℕ) → eqb (length buffer) h.figures.size ≡ true
    → write_number a h l s buffer ≡ start_number a h l s
unfolding call_number answer
write_start a h l s buffer e = rw e

module _ (a : List ℕ) (h : bare.Handle) (t : List Lane) (l s : ℕ) (seen : Seen) (e : seen ≡ seen_of h t l s) where
  abbrev k : Handle
  k = with h t

  -- the number of a start that is judged as a write whose buffer fits
  judged : (n : ℕ) → WriteGives a k l s true n → n ≡ start_number a k l s
  judged n given =
      let z = replicate {A = ℕ} h.figures.size 0 in
      let f = eq-eqb (length z) h.figures.size (length-replicate h.figures.size 0) in
      given z (sym f) ∙ write_start a k l s z f

  pub start_refused : (r : Refusal) → WriteGives a k l s true (refusal_number r) → moved k l (Err r) a ≡ start_of a k l s
  unfolding start_of
  start_refused r given = rw (← judged (refusal_number r) given, not_zero r)

  module _ (given : WriteGives a k l s true 0) where
    number : start_number a k l s ≡ 0
    number = sym (judged 0 given)

    pub start_done : moved k l (Ok (started_lane seen.own s (map_block (laid_out k) a s))) a ≡ start_of a k l s
    unfolding start_of
    start_done = rw (number, seen_own a h t l s seen e)

    pub start_passed : StartFound a k l s
    start_passed = start_found a k l s number

  -- a step
  module _ (buffer : List ℕ) where
    pub step_refused : (r : Refusal) → refusal_number r ≡ step_number a k l buffer → moved k l (Err r) a ≡ step_of a k l buffer
    unfolding step_of
    step_refused r given = rw (← given, not_zero r)

    module _ (given : 0 ≡ step_number a k l buffer) where
      pub step_passed : StepFound a k l buffer
      step_passed = step_found a k l buffer (sym given)

      pub step_done :
          moved k l (Ok (lane_stored (laid_out k) seen.own))
          (stored (laid_out k) (store_at (laid_out k) (plan_of l seen.own) buffer seen.own.made) a)
          ≡ step_of a k l buffer
      unfolding step_of
      step_done = rw (← given, seen_own a h t l s seen e)

      pub own_fit : RecordFit h.figures l seen.own seen.own.made
      own_fit = next_fit a k step_passed.judged l step_passed.lane seen.own (seen_own a h t l s seen e)
