-- `writing::begun` meets its contract: the map names the old block.
use mathlib.Core.Path.{◌∙◌}
use Rattle.lanes.proofs.Lanes.{map_fit}
use Rattle.writing.proofs.begun.Goals as goal

pub map_block-requires : goal.map_block-requires
map_block-requires c = (map_fit _ _ _ c.requires.0, c.requires.1)

pub returns : goal.returns
returns c = c.start.ensures ∙ rw (c.map_block.ensures c.args.h.distance)
