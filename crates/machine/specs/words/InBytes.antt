-- What an arena says in its bytes: offsets and words as document 01 writes them.
use Rattle.std.specs.Prelude.{◌≡◌, cond, List, ℕ, zero, suc, ◌+◌, ◌*◌, eqb}
use Rattle.words.specs.Bytes.{byte_word}
use Rattle.format.specs.Sequence.{newer}
use Rattle.format.specs.Claims.{named_block}
use Rattle.layout.specs.declared.Figures.{Figures}
use Rattle.machine.specs.calls.Opening.{figures_in}

-- the byte at which word k of half h of lane l starts, where the halves start d bytes apart: 0 sector, 1 old, 2 new, 3 sequence
abbrev pub flog_byte : ℕ → Figures → ℕ → ℕ → ℕ → ℕ
flog_byte d f l h k = f.flogoff + 64 * l + d * h + 4 * k

-- the byte at which the map word of sector s starts
abbrev pub map_byte : Figures → ℕ → ℕ
map_byte f s = f.mapoff + 4 * s

-- byte j of the 64 of lane l
abbrev pub lane_byte : Figures → ℕ → ℕ → ℕ
lane_byte f l j = f.flogoff + 64 * l + j

-- the map word of sector s
abbrev pub map_word_in : Figures → List ℕ → ℕ → ℕ
map_word_in f a s = byte_word a (map_byte f s)

-- what the flog says of a lane whose halves start d bytes apart
module _ (d : ℕ) where
  -- which half of lane l is the newer, by the two sequences
  unfoldable pub newer_in : List ℕ → ℕ → ℕ
  newer_in a l = newer (byte_word a (flog_byte d (figures_in a) l 0 3)) (byte_word a (flog_byte d (figures_in a) l 1 3))

  -- its sector, old, new and sequence
  unfoldable pub sector_in : List ℕ → ℕ → ℕ
  sector_in a l = byte_word a (flog_byte d (figures_in a) l (newer_in a l) 0)

  unfoldable pub old_in : List ℕ → ℕ → ℕ
  old_in a l = byte_word a (flog_byte d (figures_in a) l (newer_in a l) 1)

  unfoldable pub new_in : List ℕ → ℕ → ℕ
  new_in a l = byte_word a (flog_byte d (figures_in a) l (newer_in a l) 2)

  unfoldable pub sequence_in : List ℕ → ℕ → ℕ
  sequence_in a l = byte_word a (flog_byte d (figures_in a) l (newer_in a l) 3)

  -- the block of map[sector]
  abbrev pub mapped_in : List ℕ → ℕ → ℕ
  mapped_in a l = named_block (sector_in a l) (map_word_in (figures_in a) a (sector_in a l))

  -- a lane is pending if that equals old
  abbrev pub PendingIn : List ℕ → ℕ → Type 0
  PendingIn a l = mapped_in a l ≡ old_in a l

  -- how many of the lanes below l are pending
  unfoldable pub pending_below : List ℕ → ℕ → ℕ
  pending_below a zero = 0
  pending_below a (suc l) = pending_below a l + cond (eqb (mapped_in a l) (old_in a l)) 1 0
