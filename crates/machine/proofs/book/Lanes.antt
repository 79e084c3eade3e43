-- The lanes of a book: the record of a lane whose write was started goes by the write's tally alone, and every other is as opening finds
-- it in the first arena.
use mathlib.Core.Path.{◌≡◌, refl, sym, ap, ◌∙◌}
use mathlib.Core.Logic.{◌≢◌}
use mathlib.Core.List.{List, [], ◌∷◌, Memᴰ}
use mathlib.Core.Bool.{true, false, cond, ◌&&◌, and-true}
use Prim.Native.Nat.{ℕ, ◌+◌, ◌-◌, ◌<◌}
use native.Mathlib.Omega.{arith}
use native.Mathlib.Decide.{ℕ_discrete}
use lib.Dec.{eqb, leb}
use borrow.Author.Tests.{lt-ltb, le-ltb}
use Rattle.format.specs.Tests.{some}
use Rattle.format.specs.Sequence.{successor}
use Rattle.format.proofs.Tests.{by_bool, and_elim, some_intro, some-found}
use Rattle.machine.specs.declared.lane.Lane.{Lane}
use Rattle.machine.specs.state.Lane.{idle_lane, started_lane, lane_after, write_stores, is_busy}
use Rattle.machine.specs.state.Handle.{lane_at}
use Rattle.machine.specs.state.Flog.{map_block}
use Rattle.machine.specs.calls.Opening.{layout_in, found_lane}
use Rattle.machine.specs.calls.Judging.{in_flight}
use Rattle.machine.specs.calls.Writing.{lane_stored}
use Rattle.machine.specs.models.Book.{Entry, in_flight_yet, lane_flies, sector_flies, plan_in}
use Rattle.machine.specs.claims.DemandThree.{Differ}
use Rattle.machine.proofs.invariant.Steps.{stored_more, stored_last}
use Rattle.machine.proofs.book.Entries.{entry_of, same_entry, any_some, any_false, lane-none, lane_test, retally}
use Rattle.machine.proofs.book.FirstArena.{AsFound}
use Rattle.layout.specs.declared.Told.{Told}

module _ (τ : Told) (a : List ℕ) where
  -- a lane whose write is kept has moved on: old is free, and the half that it wrote is the newer
  abbrev pub moved_on : Entry → Lane
  moved_on e = let p = plan_in τ a e in idle_lane p.old (1 - p.half) (successor p.sequence)

  -- a lane after a cut and an opening: moved on, or as opening finds it in the first arena
  unfoldable pub lane_then : List Entry → ℕ → Lane
  lane_then [] l = found_lane (layout_in τ a) a l
  lane_then (e ∷ b) l = cond (eqb e.lane l && leb (write_stores (layout_in τ a)) (e.tally + 1)) (moved_on e) (lane_then b l)

module _ (τ : Told) where
  module _ (a : List ℕ) where
    -- a write in flight
    abbrev pub flying_lane : Entry → Lane
    flying_lane e =
        lane_after (started_lane (found_lane (layout_in τ a) a e.lane) e.sector (map_block (layout_in τ a) a e.sector)) e.tally

    -- the lane's record by the write's tally
    unfoldable pub lane_with : Entry → Lane
    lane_with e = cond (in_flight_yet τ a e) (flying_lane e) (moved_on τ a e)

    pub lane_flying : (e : Entry) → in_flight_yet τ a e ≡ true → lane_with e ≡ flying_lane e
    unfolding lane_with
    lane_flying e t = rw t

    pub lane-moved : (e : Entry) → in_flight_yet τ a e ≡ false → lane_with e ≡ moved_on τ a e
    unfolding lane_with
    lane-moved e t = rw t

    pub lane-busy : (e : Entry) → is_busy (lane_with e) ≡ in_flight_yet τ a e
    lane-busy e = by_bool (in_flight_yet τ a e) _
        (λ t. ap is_busy (lane_flying e t) ∙ sym t) (λ t. ap is_busy (lane-moved e t) ∙ sym t)

    -- a start on a lane that is as opening finds it
    pub lane_started : (l s : ℕ) (r : Lane) → AsFound τ a l r
        → started_lane r s (map_block (layout_in τ a) a s) ≡ lane_with (entry_of l s 0)
    lane_started l s r f =
        sym (ap (λ (q : Lane). started_lane q s (map_block (layout_in τ a) a s)) f.is)
        ∙ sym (lane_flying (entry_of l s 0) (lt-ltb 0 (write_stores (layout_in τ a)) (omega arith)))

    -- one more store
    abbrev stepped : Entry → Entry
    stepped e = retally (λ d. d.tally + 1) e

    pub lane-stored : (e : Entry) → e.tally < write_stores (layout_in τ a) → lane_stored (layout_in τ a) (lane_with e) ≡ lane_with (stepped e)
    lane-stored e u = ap (lane_stored (layout_in τ a)) (lane_flying e (lt-ltb _ _ u)) ∙ go (ℕ_discrete (e.tally + 1) (write_stores (layout_in τ a)))
      where
        go : Dec (e.tally + 1 ≡ write_stores (layout_in τ a)) → lane_stored (layout_in τ a) (flying_lane e) ≡ lane_with (stepped e)
        go (yes p) =
            stored_last (layout_in τ a) (flying_lane e) p ∙ sym (lane-moved (stepped e) (le-ltb (e.tally + 1) (write_stores (layout_in τ a)) (omega arith)))
        go (no p) =
            stored_more (layout_in τ a) (flying_lane e) p ∙ sym (lane_flying (stepped e) (lt-ltb (e.tally + 1) (write_stores (layout_in τ a)) (omega arith)))

    -- a lane's record in a book
    pub data LaneOf (b : List Entry) (l : ℕ) (r : Lane) : Type 0 where
      untouched : AsFound τ a l r → ((e : Entry) → Memᴰ e b → e.lane ≢ l) → LaneOf b l r
      written : (e : Entry) → Memᴰ e b → e.lane ≡ l → r ≡ lane_with e → LaneOf b l r

    module _ (b : List Entry) (f : Differ b) where
      pub lane-at : (e : Entry) → Memᴰ e b → (r : Lane) → LaneOf b e.lane r → r ≡ lane_with e
      lane-at e m r (untouched _ n) = absurd (n e m refl)
      lane-at e m r (written d n p is) = is ∙ ap lane_with (same_entry b f d e n m p)

      pub busy_is : (l : ℕ) (r : Lane) → LaneOf b l r → is_busy r ≡ lane_flies τ a b l
      busy_is l r (untouched x n) = x.idle ∙ sym (lane-none (in_flight_yet τ a) b l n)
      busy_is l r (written e m p is) = ap is_busy is ∙ lane-busy e ∙ sym (rw (← p) (lane_test (in_flight_yet τ a) e b f m))

      -- which sectors are in flight
      pub flight_is : (n : ℕ) (lanes : List Lane) → ((l : ℕ) → l < n → LaneOf b l (lane_at lanes l))
          → ((e : Entry) → Memᴰ e b → e.lane < n) → (s : ℕ) → in_flight lanes n s ≡ sector_flies τ a b s
      unfolding in_flight
      flight_is n lanes at lane_in s = by_bool (sector_flies τ a b s) _ (λ t. found t ∙ sym t) (λ t. some_intro n _ (λ l u. none t l (at l u)) ∙ sym t)
        where
          found : sector_flies τ a b s ≡ true → some n (λ l. is_busy (lane_at lanes l) && eqb (lane_at lanes l).sector.0 s) ≡ true
          found t =
              let w = any_some (λ e. eqb e.sector s && in_flight_yet τ a e) b t in
              let q = and_elim (eqb w.0.sector s) (in_flight_yet τ a w.0) w.2 in
              let is = lane-at w.0 w.1 (lane_at lanes w.0.lane) (at w.0.lane (lane_in w.0 w.1)) ∙ lane_flying w.0 q.1 in
              some-found n (λ l. is_busy (lane_at lanes l) && eqb (lane_at lanes l).sector.0 s) w.0.lane (lane_in w.0 w.1) (rw is q.0)

          none : sector_flies τ a b s ≡ false → (l : ℕ) → LaneOf b l (lane_at lanes l)
              → is_busy (lane_at lanes l) && eqb (lane_at lanes l).sector.0 s ≡ false
          none t l (untouched x _) = rw x.idle
          none t l (written e m p is) = rw is (by_bool (in_flight_yet τ a e) _
              (λ v. rw (lane_flying e v)
              (sym (and-true (eqb e.sector s)) ∙ (rw v at (any_false (λ d. eqb d.sector s && in_flight_yet τ a d) b t e m))))
              (λ v. rw (lane-moved e v)))
