-- `layout::lane_place` meets its contract. The sum is the place as the layout gives it.
use mathlib.Core.Path.{refl}
use Rattle.layout.specs.Place.{layout_of}
use Rattle.layout.proofs.lane_place.Goals as goal

pub returns : goal.returns
unfolding layout_of
returns c = λ d. refl
