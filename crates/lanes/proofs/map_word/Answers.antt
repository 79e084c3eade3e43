-- `lanes::map_word` meets its contract: the map place of a sector lies within an arena that fits.
use native.Mathlib.Omega.{arith}
use Rattle.layout.specs.Place.{layout_of}
use Rattle.lanes.proofs.map_word.Goals as goal

pub word_at-requires : goal.word_at-requires
unfolding layout_of
word_at-requires c = omega (arith, c.map_place.ensures 0)
