-- The claim about the table that is lent with a handle. A call leaves the handle as it is, or with the record of its own lane replaced, and that lane
-- is one that there is; an opening puts in the records of the lanes.
use mathlib.Core.Path.{◌≡◌, refl, sym, ap, ◌∙◌, subst}
use mathlib.Core.Logic.{◌≢◌}
use mathlib.Core.List.{List, [], ◌∷◌}
use Prim.Native.Nat.{ℕ, ◌≤◌, ◌<◌}
use native.Mathlib.Omega.{arith}
use lib.Dec.{eqb}
use lib.ListN.{length, length-set}
use borrow.Author.Tests.{eqb-true, ne_eqb}
use Rattle.format.proofs.Tests.{by_bool}
use Rattle.layout.specs.Place.{layout_of}
use Rattle.layout.specs.Told.{alone}
use Rattle.layout.specs.declared.Told.{Told}
use Rattle.machine.specs.declared.handle.Handle as bare
use Rattle.machine.specs.declared.lane.Lane.{Lane}
use Rattle.machine.specs.state.Handle.{Handle, bare_of, lane_at, laid_out, with_lane}
use Rattle.machine.specs.state.Lane.{started_lane, finished_lane}
use Rattle.machine.specs.state.Flog.{map_block}
use Rattle.machine.specs.calls.Order.{Call, read, start, step, write}
use Rattle.machine.specs.calls.Opening.{Room, extent_of, figures_in, layout_in, handle_for, open_number, open_of, cut_open_of}
use Rattle.machine.specs.calls.Writing.{lane_stored, start_number, start_of, step_number, step_of, write_number, write_of}
use Rattle.machine.specs.calls.History.{runs, State, after, run}
use Rattle.machine.specs.claims.Lent.{OnLane, TableAfter, TableClaim}
use Rattle.machine.proofs.invariant.Inv.{lane_other}
use Rattle.machine.proofs.invariant.Lanes.{filled_past, filled-length}
use Rattle.machine.proofs.opening.Opens.{open_zero}
use Rattle.machine.proofs.calls.Accepted.{start_found, step_found, write_found}
use Rattle.machine.proofs.calls.Whole.{steps_all, begun_ok}

-- ---- the calls

module _ (a : List ℕ) (h : Handle) where
  -- what holds of the handle, and of it with the record of the call's lane replaced, holds of the handle after the call
  table_cases : (c : Call) (P : Handle → Type 0) → P h → ((l : ℕ) (r : Lane) → OnLane c l → l < h.figures.lanes → P (with_lane h l r))
      → P (after (record { arena = a; handle = h }) c).handle
  table_cases (read s buffer) P p q = p
  table_cases (start l s) P p q = unfold start_of in (by_bool (eqb (start_number a h l s) 0) _
      (λ t. rw t (q l (started_lane (lane_at h.table l) s (map_block (laid_out h) a s)) refl (start_found a h l s (eqb-true _ _ t)).lane))
      (λ t. rw t p))
  table_cases (step l buffer) P p q = unfold step_of in (by_bool (eqb (step_number a h l buffer) 0) _
      (λ t. rw t (q l (lane_stored (laid_out h) (lane_at h.table l)) refl (step_found a h l buffer (eqb-true _ _ t)).lane))
      (λ t. rw t p))
  table_cases (write l s buffer) P p q = unfold write_of start_of in (by_bool (eqb (write_number a h l s buffer) 0) _
      (λ t. let w = write_found a h l s buffer (eqb-true _ _ t) in
      let found = start_found a h l s w.start in
      let begun = started_lane (lane_at h.table l) s (map_block (laid_out h) a s) in
      rw (t, w.start, steps_all a h l begun buffer found.judged found.lane refl (begun_ok a h l s found) w.size)
      (q l (finished_lane begun) refl found.lane))
      (λ t. rw t p))

  table-after : (c : Call) → TableAfter a h c
  table-after c = record {
    size = table_cases c (λ k. length k.table ≡ length h.table) refl (λ l r _ _. length-set h.table l r);
    others = λ l no. table_cases c (λ k. lane_at k.table l ≡ lane_at h.table l) refl
        (λ j r o _. lane_other h.table j r l (λ e. no (subst (OnLane c) (sym e) o)));
    past = λ l u. table_cases c (λ k. lane_at k.table l ≡ lane_at h.table l) refl (λ j r _ v. lane_other h.table j r l (λ e. omega arith));
    handle = table_cases c (λ k. bare_of k ≡ bare_of h) refl (λ _ _ _ _. refl);
  }

-- ---- lists of calls

list_size : (x : State) (cs : List Call) → length (run x cs).handle.table ≡ length x.handle.table
unfolding runs
list_size x [] = refl
list_size x (c ∷ cs) = list_size (after x c) cs ∙ (table-after x.arena x.handle c).size

list_past : (x : State) (cs : List Call) (l : ℕ) → x.handle.figures.lanes ≤ l → lane_at (run x cs).handle.table l ≡ lane_at x.handle.table l
unfolding runs
list_past x [] l u = refl
list_past x (c ∷ cs) l u =
    let t = table-after x.arena x.handle c in
    let e = ap (λ (b : bare.Handle). b.figures.lanes) t.handle in
    list_past (after x c) cs l (omega arith) ∙ t.past l u

-- ---- openings

module _ (τ : Told) (a : List ℕ) (room : Room) where
  pub opening_past : (l : ℕ) → (figures_in a).lanes ≤ l → lane_at (open_of τ a room).handle.table l ≡ lane_at room.table l
  unfolding open_of handle_for layout_of
  opening_past l u = by_bool (eqb (open_number τ a (extent_of room)) 0) _ (λ t. rw t (filled_past (layout_in τ a) a room.table l u)) (λ t. rw t)

  pub opening_size : length (open_of τ a room).handle.table ≡ length room.table
  unfolding open_of handle_for
  opening_size = by_bool (eqb (open_number τ a (extent_of room)) 0) _
      (λ t. rw t (filled-length (layout_in τ a) a room.table (open_zero τ a (extent_of room) (eqb-true _ _ t)).1.records))
      (λ t. rw t)

  refused : (open_of τ a room).number ≢ 0 → (open_of τ a room).handle.table ≡ room.table
  unfolding open_of
  refused n = rw (ne_eqb (open_number τ a (extent_of room)) 0 n)

  cut_opening : (k : ℕ) → (cut_open_of τ a room k).handle.table ≡ room.table
  unfolding cut_open_of
  cut_opening k = refl

pub table_claim : TableClaim
table_claim = record {
  calls = table-after;
  list_size = list_size;
  list_past = list_past;
  opening = λ d. opening_past (alone d);
  opening_size = λ d. opening_size (alone d);
  refused = λ d. refused (alone d);
  cut_opening = λ d. cut_opening (alone d);
}
