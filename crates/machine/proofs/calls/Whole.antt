-- The steps of a whole write from its start: k of them make the first k stores and leave the record with k made, and the last finishes it.
-- Each step is accepted, since a record in range with another count is in range.
use mathlib.Core.Path.{◌≡◌, refl, ap, ◌∙◌}
use mathlib.Core.Logic.{inr}
use mathlib.Core.Bool.{true, not, false}
use mathlib.Core.List.{List}
use Prim.Native.Nat.{ℕ, zero, suc, ◌+◌, ◌<◌}
use native.Mathlib.Omega.{arith}
use native.Mathlib.Decide.{ℕ_discrete}
use native.Mathlib.Numerals.{add-one}
use lib.ListN.{length, set, length-set}
use lib.Seq.{set-set}
use borrow.Author.Tests.{eq-eqb, lt-leb, le-ltb}
use Rattle.format.proofs.MapWord.{block-in}
use Rattle.layout.specs.Place.{Layout, layout_of}
use Rattle.machine.specs.declared.lane.Lane.{Lane}
use Rattle.machine.specs.state.Flog.{map_word, map_block}
use Rattle.machine.specs.state.Handle.{Handle, bare_of, lane_at, laid_out, handle_allowed, table_short, records_allowed, with_lane}
use Rattle.machine.specs.state.Lane.{is_busy, started_lane, lane_after, finished_lane, write_stores}
use Rattle.machine.specs.state.Stores.{put_all}
use Rattle.machine.specs.words.Running.{LaneOk}
use Rattle.machine.specs.calls.Order.{step}
use Rattle.machine.specs.calls.Writing.{Outcome, plan_of, first_stores, lane_stored, step_number, step_of, steps_of}
use Rattle.machine.proofs.rules.Rules.{pass, through}
use Rattle.machine.proofs.rules.Running.{call_walk}
use Rattle.machine.proofs.calls.Accepted.{Judged, StartFound}
use Rattle.machine.proofs.invariant.Inv.{lane_same, lane_other}
use Rattle.machine.proofs.calls.Running.{records_ok, ok_records, handle_fit}
use Rattle.machine.proofs.invariant.Steps.{stored_more, stored_last}
use Rattle.machine.proofs.stores.Stores.{put_all-length}
use Rattle.machine.proofs.stores.Kinds.{first_more}

-- rule 16 lets records pass of which one is replaced by one in range
records_with : (h : Handle) (l : ℕ) (r : Lane) → records_allowed h ≡ true → l < length h.table → LaneOk (laid_out h) r
    → records_allowed (with_lane h l r) ≡ true
records_with h l r e u k = ok_records (with_lane h l r) (λ j v. lane j v (ℕ_discrete j l))
  where
    lane : (j : ℕ) → j < h.figures.lanes → Dec (j ≡ l) → LaneOk (laid_out h) (lane_at (set h.table l r) j)
    lane j v (yes d) = rw (d, lane_same h.table l r u) k
    lane j v (no d) = rw (lane_other h.table l r j d) (records_ok h e j v)

-- the write of a busy record in range, from its first store
module _ (a : List ℕ) (h : Handle) (l : ℕ) (r : Lane) (buffer : List ℕ) (allowed : Judged a h)
    (lane : l < h.figures.lanes) (busy : is_busy r ≡ true) (range : LaneOk (laid_out h) r)
    (size : length buffer ≡ h.figures.size) where
  abbrev g : Layout
  g = laid_out h

  held : l < length h.table
  held = omega (arith, allowed.long)

  -- the arena with the first k stores
  abbrev made : ℕ → List ℕ
  made k = put_all g (first_stores g (plan_of l r) buffer k) a

  after-ok : (k : ℕ) → k < write_stores g → LaneOk g (lane_after r k)
  after-ok k u = record {
    busy = range.busy;
    block = range.block;
    old = range.old;
    half = range.half;
    sequence_least = range.sequence_least;
    sequence_most = range.sequence_most;
    sector = range.sector;
    made = u;
  }

  accepted : (k : ℕ) → k < write_stores g → 0 ≡ step_number (made k) (with_lane h l (lane_after r k)) l buffer
  accepted k u =
      let n = put_all-length g (first_stores g (plan_of l r) buffer k) a in
      let v : handle_allowed (bare_of h) (length (made k)) ≡ true = rw n allowed.handle in
      let w : table_short (with_lane h l (lane_after r k)) ≡ false =
      unfold table_short in (rw (length-set h.table l (lane_after r k)) (le-ltb _ _ allowed.long)) in
      let x = records_with h l (lane_after r k) allowed.records held (after-ok k u) in
      let b = ap (λ (x : Lane). not (is_busy x)) (lane_same h.table l (lane_after r k) held) ∙ ap not busy in
      call_walk (made k) (with_lane h l (lane_after r k)) (step l buffer)
      (pass (ap not v) (pass w (pass (ap not x) (pass (lt-leb _ _ lane) (pass b (pass (ap not (eq-eqb _ _ size)) through))))))

  one : (k : ℕ) → k < write_stores g
      → step_of (made k) (with_lane h l (lane_after r k)) l buffer
      ≡ record { number = 0; arena = made (suc k); handle = with_lane h l (lane_stored g (lane_after r k)) }
  unfolding step_of
  one k u =
      rw (← accepted k u, lane_same h.table l (lane_after r k) held, set-set, first_more)

  steps_some : (k : ℕ) → k < write_stores g
      → steps_of k a (with_lane h l (lane_after r 0)) l buffer ≡ record { number = 0; arena = made k; handle = with_lane h l (lane_after r k) }
  unfolding steps_of first_stores put_all
  steps_some zero u = refl
  steps_some (suc k) u =
      ap (λ (o : Outcome). step_of o.arena o.handle l buffer) (steps_some k (omega arith)) ∙ one k (omega arith)
      ∙ rw (stored_more g (lane_after r k) (λ e. omega arith), add-one)

  pub steps_accepted : (k : ℕ) → k < write_stores g → (steps_of (suc k) a (with_lane h l (lane_after r 0)) l buffer).number ≡ 0
  unfolding steps_of
  steps_accepted k u =
      ap (λ (o : Outcome). o.number)
      (ap (λ (o : Outcome). step_of o.arena o.handle l buffer) (steps_some k u) ∙ one k u)

  pub steps_all :
      steps_of (write_stores g) a (with_lane h l (lane_after r 0)) l buffer
      ≡ record { number = 0; arena = made (write_stores g); handle = with_lane h l (finished_lane r) }
  unfolding steps_of
  steps_all = let e : write_stores g ≡ suc (g.W + 4) = omega arith in
      rw e
      (ap (λ (o : Outcome). step_of o.arena o.handle l buffer) (steps_some (g.W + 4) (omega arith))
      ∙ one (g.W + 4) (omega arith)
      ∙ rw (stored_last g (lane_after r (g.W + 4)) (omega arith)))

-- a start leaves a record in range
pub begun_ok : (a : List ℕ) (h : Handle) (l s : ℕ) → StartFound a h l s
    → LaneOk (laid_out h) (started_lane (lane_at h.table l) s (map_block (laid_out h) a s))
unfolding layout_of
begun_ok a h l s found =
    let o = records_ok h found.judged.records l found.lane in
    let ok = (handle_fit h (length a) found.judged.handle).ok in
    record {
      busy = inr refl;
      block = o.block;
      old = block-in h.figures.blocks s (map_word (laid_out h) a s) (omega (arith, ok.blocks, found.sector)) found.word found.clean;
      half = o.half;
      sequence_least = o.sequence_least;
      sequence_most = o.sequence_most;
      sector = found.sector;
      made = omega arith;
    }
