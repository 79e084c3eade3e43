-- What an arena's map and flog say, as found.
use Rattle.std.specs.Prelude.{Bool, cond, not, ◌&&◌, List, ℕ, eqb}
use Rattle.words.specs.Word.{word}
use Rattle.format.specs.Tests.{some}
use Rattle.format.specs.Sequence.{newer}
use Rattle.format.specs.Flog.{half_at}
use Rattle.format.specs.MapWord.{block_of}
use Rattle.layout.specs.Place.{Layout, in_map, in_flog, at, lane_word_at, is_padding}
use Rattle.format.specs.declared.flog.Half.{Half}

-- a sector's map word, and the block that it stands for
abbrev pub map_word : Layout → List ℕ → ℕ → ℕ
map_word g a s = word a (at g (in_map s))

abbrev pub map_block : Layout → List ℕ → ℕ → ℕ
map_block g a s = block_of s (map_word g a s)

-- word k of half h of a lane: 0 sector, 1 old, 2 new, 3 sequence
abbrev pub flog_word : Layout → List ℕ → ℕ → ℕ → ℕ → ℕ
flog_word g a l h k = word a (at g (in_flog l h k))

-- which half of a lane is the newer: 0, 1, or 2 for neither
unfoldable pub newer_half : Layout → List ℕ → ℕ → ℕ
newer_half g a l = newer (flog_word g a l 0 3) (flog_word g a l 1 3)

-- word k of the newer half
abbrev pub newer_word : Layout → List ℕ → ℕ → ℕ → ℕ
newer_word g a l k = flog_word g a l (newer_half g a l) k

-- a lane's free block
abbrev pub free_of : Layout → List ℕ → ℕ → ℕ
free_of g a l = newer_word g a l 1

-- a lane is pending if the block of map[sector] equals old
unfoldable pub pending : Layout → List ℕ → ℕ → Bool
pending g a l = eqb (map_block g a (newer_word g a l 0)) (free_of g a l)

-- the newer half as a record
unfoldable pub newer_flog : Layout → List ℕ → ℕ → Half
newer_flog g a l = half_at a (at g (in_flog l (newer_half g a l) 0))

-- a lane's spare block, which the map as found does not have: new of a pending lane, else old
unfoldable pub spare_of : Layout → List ℕ → ℕ → ℕ
spare_of g a l = cond (pending g a l) (newer_word g a l 2) (free_of g a l)

-- word k of a lane's 16
abbrev pub lane_word : Layout → List ℕ → ℕ → ℕ → ℕ
lane_word g a l k = word a (lane_word_at g l k)

-- some word of a lane's padding is not zero
unfoldable pub padding_set : Layout → List ℕ → ℕ → Bool
padding_set g a l = some 16 (λ k. is_padding g.D k && not (eqb (lane_word g a l k) 0))
