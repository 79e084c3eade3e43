-- Laws of rule 16: the judgement of a lane's record and of a handle, outcome by outcome.
use mathlib.Core.Path.{◌≡◌, sym}
use mathlib.Core.Bool.{true, false, and-true}
use Prim.Native.Nat.{ℕ, ◌≤◌, ◌<◌}
use lib.Dec.{ltb}
use borrow.Author.Tests.{lt-ltb, le-leb, eq-eqb, ne_eqb}
use Rattle.layout.specs.Figures.{length_allowed, figures_allowed}
use Rattle.layout.specs.Place.{Layout}
use Rattle.layout.specs.Told.{distance_allowed}
use Rattle.machine.specs.declared.handle.Handle as bare
use Rattle.machine.specs.declared.lane.Lane.{Lane}
use Rattle.machine.specs.state.Lane.{write_stores, lane_allowed}
use Rattle.machine.specs.state.Handle.{handle_allowed}

-- where the other tests of a record pass, the last one is the judgement
pub lane_last : (g : Layout) (r : Lane) → r.block.0 < g.I → r.old.0 < g.I → r.half < 2 → 1 ≤ r.sequence.0
    → r.sequence.0 ≤ 3 → r.sector.0 < g.E → r.busy ≤ 1 → ltb r.made (write_stores g) ≡ lane_allowed g r
unfolding lane_allowed
lane_last g r b o h s t e y =
    rw (lt-ltb _ _ b, lt-ltb _ _ o, lt-ltb _ _ h, le-leb _ _ s, le-leb _ _ t, lt-ltb _ _ e, le-leb _ _ y) (sym (and-true (ltb r.made (write_stores g))))

-- what rule 16 gives, outcome by outcome
module _ (h : bare.Handle) (n : ℕ) where
  pub handle_length : length_allowed n ≡ false → false ≡ handle_allowed h n
  unfolding handle_allowed
  handle_length p = rw p

  pub handle_slice : length_allowed n ≡ true → (h.length ≡ n → ⊥) → false ≡ handle_allowed h n
  unfolding handle_allowed
  handle_slice p q = rw (p, ne_eqb _ _ q)

  pub handle_layout : length_allowed n ≡ true → h.length ≡ n → distance_allowed h.distance ≡ false → false ≡ handle_allowed h n
  unfolding handle_allowed
  handle_layout p q d = rw (p, eq-eqb _ _ q, d)

  pub handle_last : length_allowed n ≡ true → h.length ≡ n → distance_allowed h.distance ≡ true → figures_allowed h.figures n ≡ handle_allowed h n
  unfolding handle_allowed
  handle_last p q d = rw (p, eq-eqb _ _ q, d)
