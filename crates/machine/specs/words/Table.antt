-- What an accepted read, start, step and whole write do, in the bytes of the arena: offsets and words as document 01 writes them.
use Rattle.std.specs.Prelude.{◌≡◌, ◌≢◌, ◌⊎◌, cond, List, ℕ, zero, suc, ◌+◌, ◌-◌, ◌*◌, ◌/◌, ◌%◌, ◌≤◌, ◌<◌, ltb, length, get_or, take, drop, replicate}
use Rattle.words.specs.Bytes.{byte_word}
use Rattle.format.specs.Sequence.{successor}
use Rattle.format.specs.Claims.{Bit30Alone, Bit31Alone, BothBits, named_block, SloppyWord}
use Rattle.layout.specs.declared.Figures.{Figures}
use Rattle.machine.specs.declared.lane.Lane.{Lane}
use Rattle.machine.specs.state.Handle.{Handle, lane_at}
use Rattle.machine.specs.calls.Reading.{Read}
use Rattle.machine.specs.calls.Writing.{Outcome, start_of, step_of}
use Rattle.machine.specs.words.Records.{Idle, Started, OneMore}
use Rattle.machine.specs.words.InBytes.{map_word_in}

-- ---- where store k of a write begins, and its word; the halves of a lane start d bytes apart

-- sector, old, new and sequence of the next half, then the map word
abbrev pub last_byte : ℕ → Figures → ℕ → Lane → ℕ → ℕ
last_byte d f l r zero = f.flogoff + 64 * l + d * r.half
last_byte d f l r (suc zero) = f.flogoff + 64 * l + d * r.half + 4
last_byte d f l r (suc (suc zero)) = f.flogoff + 64 * l + d * r.half + 8
last_byte d f l r (suc (suc (suc zero))) = f.flogoff + 64 * l + d * r.half + 12
last_byte d f l r (suc (suc (suc (suc k)))) = f.mapoff + 4 * r.sector.0

abbrev pub last_word : Lane → ℕ → ℕ
last_word r zero = r.sector.0
last_word r (suc zero) = r.old.0
last_word r (suc (suc zero)) = r.block.0
last_word r (suc (suc (suc zero))) = r.sequence.0
last_word r (suc (suc (suc (suc k)))) = 3221225472 + r.block.0

-- the S/4 data words go into new, in order, and then the others
unfoldable pub store_byte : ℕ → Figures → ℕ → Lane → ℕ → ℕ
store_byte d f l r k = cond (ltb k (f.size / 4)) (f.dataoff + r.block.0 * f.internal + 4 * k) (last_byte d f l r (k - f.size / 4))

unfoldable pub store_word : Figures → Lane → List ℕ → ℕ → ℕ
store_word f r buffer k = cond (ltb k (f.size / 4)) (byte_word buffer (4 * k)) (last_word r (k - f.size / 4))

-- the one word at byte o is w now, and no other byte changed
pub record OneWord (a after : List ℕ) (o w : ℕ) : Type 0 where
  pub size : length after ≡ length a
  pub inside : o + 4 ≤ length a
  pub word : byte_word after o ≡ w
  pub kept : (j : ℕ) → (j < o) ⊎ (o + 4 ≤ j) → get_or after j 0 ≡ get_or a j 0

-- the handle has only the table's record l changed, and of that P holds now; records past the lanes are kept too
pub record OneRecord (h after : Handle) (l : ℕ) (P : Lane → Type 0) : Type 0 where
  pub size : after.length ≡ h.length
  pub distance : after.distance ≡ h.distance
  pub figures : after.figures ≡ h.figures
  pub count : length after.table ≡ length h.table
  pub changed : P (lane_at after.table l)
  pub kept : (j : ℕ) → j ≢ l → lane_at after.table j ≡ lane_at h.table j

-- an accepted step: store k, where k stores were made before, of one aligned word
pub record StepTable (a : List ℕ) (h : Handle) (l : ℕ) (buffer : List ℕ) (r : Lane) (o : Outcome) : Type 0 where
  pub store : OneWord a o.arena (store_byte h.distance h.figures l r r.made) (store_word h.figures r buffer r.made)
  pub aligned : store_byte h.distance h.figures l r r.made % 4 ≡ 0
  -- one more store made
  pub more : r.made + 1 < h.figures.size / 4 + 5 → OneRecord h o.handle l (OneMore r)
  -- after the last the lane is idle, old is its free block, and its next half and sequence move on
  pub last : r.made + 1 ≡ h.figures.size / 4 + 5 → OneRecord h o.handle l (Idle r.old.0 (1 - r.half) (successor r.sequence.0))

-- an accepted start remembers the sector, the map's block (old) and the lane's free block (new), and stores nothing
pub record StartTable (a : List ℕ) (h : Handle) (l s : ℕ) (r : Lane) (o : Outcome) : Type 0 where
  pub arena : o.arena ≡ a
  pub handle : OneRecord h o.handle l (Started r s (named_block s (map_word_in h.figures a s)))

-- n steps on one lane with one buffer, each given what the last one left
unfoldable pub after_steps : ℕ → List ℕ → Handle → ℕ → List ℕ → Outcome
after_steps zero a h l buffer = record { number = 0; arena = a; handle = h }
after_steps (suc n) a h l buffer = let o = after_steps n a h l buffer in step_of o.arena o.handle l buffer

-- an accepted whole write leaves the arena and the handle that an accepted start and then S/4 + 5 accepted steps leave
pub record WriteTable (a : List ℕ) (h : Handle) (l s : ℕ) (buffer : List ℕ) (o : Outcome) : Type 0 where
  pub start : (start_of a h l s).number ≡ 0
  pub steps : (n : ℕ) → n < h.figures.size / 4 + 5 → (after_steps (suc n) a (start_of a h l s).handle l buffer).number ≡ 0
  pub arena : o.arena ≡ (after_steps (h.figures.size / 4 + 5) a (start_of a h l s).handle l buffer).arena
  pub handle : o.handle ≡ (after_steps (h.figures.size / 4 + 5) a (start_of a h l s).handle l buffer).handle

-- an accepted read goes by the sector's map word: zeroes where it is 0 or has bit 31 alone, the bytes of the block in its low bits where
-- it has both; with bit 30 alone, or with neither and not 0, it is never accepted
pub record ReadTable (a : List ℕ) (h : Handle) (s : ℕ) (r : Read) : Type 0 where
  pub unwritten : map_word_in h.figures a s ≡ 0 → r.buffer ≡ replicate h.figures.size 0
  pub zeroed : Bit31Alone (map_word_in h.figures a s) → r.buffer ≡ replicate h.figures.size 0
  pub not_bad : Bit30Alone (map_word_in h.figures a s) → ⊥
  pub not_sloppy : SloppyWord (map_word_in h.figures a s) → ⊥
  pub bytes : BothBits (map_word_in h.figures a s)
      → r.buffer ≡ take h.figures.size (drop (h.figures.dataoff + (map_word_in h.figures a s - 0xC0000000) * h.figures.internal) a)
