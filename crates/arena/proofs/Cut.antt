-- What judging and mending leave is a cut opening; one that makes every store is an opening, but for the handle.
use mathlib.Core.Path.{◌≡◌, sym, ap, ◌∙◌}
use mathlib.Core.Logic.{◌≢◌}
use mathlib.Core.Bool.{Bool, true, false, cond}
use mathlib.Core.List.{List}
use Prim.Native.Nat.{ℕ, zero, suc, ◌+◌, ◌≤◌}
use native.Mathlib.Omega.{arith}
use lib.Dec.{eqb}
use lib.ListN.{length, take}
use lib.Seq.{take_all}
use borrow.Author.Tests.{eq-eqb, ne_eqb, eqb-true}
use Rattle.layout.specs.Place.{Layout, layout_of}
use Rattle.layout.specs.declared.Figures.{Figures}
use Rattle.layout.specs.declared.Told.{Told}
use Rattle.machine.specs.Rules.{answer}
use Rattle.machine.specs.state.Stores.{put_all}
use Rattle.machine.specs.state.Flog.{pending}
use Rattle.machine.specs.calls.Opening.{Room, extent_of, figures_in, layout_in, mends, pending_lanes, open_number, work_after, cut_open_of, open_of, handle_for}
use Rattle.machine.proofs.opening.Mends.{length-mends}
use Rattle.judge.specs.Judge.{extent, work_left}
use Rattle.arena.specs.Calls.{cut_gave}

-- there are at most as many pending lanes as lanes
pending_most : (g : Layout) (a : List ℕ) (n : ℕ) → pending_lanes g a n ≤ n
unfolding pending_lanes
pending_most g a zero = omega arith
pending_most g a (suc n) = go (pending g a n) (pending_most g a n)
  where
    go : (t : Bool) → pending_lanes g a n ≤ n → pending_lanes g a n + cond t 1 0 ≤ suc n
    go true u = omega arith
    go false u = omega arith

-- a table of so many records, and what judging gave of its length
module _ (t : Told) (a : List ℕ) (room : Room) (records k n : ℕ) (left : List ℕ) (long : length room.table ≡ records)
    (e : n ≡ open_number t a (extent (length room.work) records)) (w : left ≡ work_left t a room.work) where
  number_is : n ≡ open_number t a (extent_of room)
  number_is = e ∙ ap (λ (m : ℕ). open_number t a (extent (length room.work) m)) (sym long)

  work_is : left ≡ work_after t a room
  unfolding work_after answer
  work_is = w

  pub cut-refused : eqb n 0 ≡ false → cut_gave n 0 a left room.table ≡ cut_open_of t a room k
  unfolding cut_open_of
  cut-refused z = rw (← number_is, ← work_is, z)

  pub cut_done : eqb n 0 ≡ true → (f : Figures) → f ≡ figures_in a → (count : ℕ) (after : List ℕ)
      → count ≡ pending_lanes (layout_of t.distance f) a f.lanes
      → after ≡ put_all (layout_of t.distance f) (take k (mends (layout_of t.distance f) a f.lanes)) a
      → cut_gave 0 count after left room.table ≡ cut_open_of t a room k
  unfolding cut_open_of layout_of
  cut_done z f fe count after ce ae = rw (ce, ae, fe, ← number_is, ← work_is, eqb-true n 0 z)

module _ (t : Told) (a : List ℕ) (room : Room) (k : ℕ) where
  pub open_refused : (cut_open_of t a room k).number ≢ 0 → cut_open_of t a room k ≡ open_of t a room
  unfolding cut_open_of open_of
  open_refused e = rw (ne_eqb _ _ e)

  pub open_done : (cut_open_of t a room k).number ≡ 0 → (layout_in t a).N ≤ k
      → record {
        number = (cut_open_of t a room k).number;
        mended = (cut_open_of t a room k).mended;
        arena = (cut_open_of t a room k).arena;
        handle = handle_for t a room.table;
        work = (cut_open_of t a room k).work;
      } ≡ open_of t a room
  unfolding cut_open_of open_of
  open_done e u =
      let g = layout_in t a in
      let few : length (mends g a g.N) ≤ k = rw length-mends (omega (arith, pending_most g a g.N)) in
      rw (eq-eqb _ _ e, take_all k (mends g a g.N) few)
