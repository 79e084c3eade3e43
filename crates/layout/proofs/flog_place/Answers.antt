-- `layout::flog_place` meets its contract. The sum is the place as the layout gives it; no product of so small numbers wraps.
use mathlib.Core.Path.{refl}
use Rattle.layout.specs.Place.{layout_of}
use Rattle.layout.proofs.flog_place.Goals as goal

pub returns : goal.returns
unfolding layout_of
returns c = refl
