-- Laws of a table that is filled, lane by lane.
use mathlib.Core.Path.{◌≡◌, refl, sym, ◌∙◌}
use mathlib.Core.List.{List, [], ◌∷◌, ◌++◌, append_assoc}
use Prim.Native.Nat.{ℕ, suc, ◌+◌, ◌<◌}
use native.Mathlib.Numerals.{add-one}
use lib.ListN.{length, set, drop}
use lib.Seq.{set_at, drop-cons}
use Rattle.layout.specs.Place.{layout_of}
use Rattle.machine.specs.declared.handle.Handle as bare
use Rattle.machine.specs.declared.lane.Lane.{Lane}
use Rattle.machine.specs.state.Lane.{no_lane}
use Rattle.machine.specs.calls.Opening.{found_lane, found_lanes}
use Rattle.machine.proofs.invariant.Lanes.{found-length}
use Rattle.lanes.specs.Filled.{filled_to}

module _ (h : bare.Handle) (a : List ℕ) (t : List Lane) where
  pub filled_none : t ≡ filled_to h a t 0
  unfolding found_lanes
  filled_none = refl

  pub filled_more : (i : ℕ) → i < length t → set (filled_to h a t i) i (found_lane (layout_of h.distance h.figures) a i) ≡ filled_to h a t (i + 1)
  filled_more i u =
      let g = layout_of h.distance h.figures in
      rw (add-one i, drop-cons t i no_lane u)
      (set_at (found_lanes g a i) _ (drop (suc i) t) (found_lane g a i) i (found-length g a i)
      ∙ sym (append_assoc (found_lanes g a i) (found_lane g a i ∷ []) (drop (suc i) t)) ∙ snoc)
    where
      snoc : (found_lanes (layout_of h.distance h.figures) a i ++ (found_lane (layout_of h.distance h.figures) a i ∷ [])) ++ drop (suc i) t
          ≡ found_lanes (layout_of h.distance h.figures) a (suc i) ++ drop (suc i) t
      snoc = unfold found_lanes in refl
