-- The info block said a second time: its fields by byte, when it is sound, which of two counts, and every byte of a made one.
use Rattle.std.specs.Prelude.{◌≡◌, Some, None, true, List, [], ◌∷◌, ℕ, ◌+◌, ◌-◌, ◌*◌, ◌≤◌, ◌<◌, length, get_or, take, drop}
use Rattle.words.specs.Word.{put_words}
use Rattle.words.specs.Bytes.{Small, byte_word, byte_long, words_in}
use Rattle.fletcher.specs.Claims.{fletcher_value, field_cleared}
use Rattle.layout.specs.Figures.{Allowed}
use Rattle.layout.specs.Claims.{Length}
use Rattle.layout.specs.Fit.{FiguresFit}
use Rattle.layout.specs.declared.Figures.{Figures}
use Rattle.layout.specs.declared.Told.{Told}
use Rattle.infoblock.specs.Info.{
  sound,
  counts_of,
  counts_number,
  counting_of,
  info_block_of,
  flags_field,
  flags_allowed,
  figures_of,
  header_allowed,
  info_allowed,
  info_words,
}
use Rattle.infoblock.specs.declared.Part.TheVariants.{Main, Copy}

-- the 16-bit number at byte o
abbrev pub byte_short : List ℕ → ℕ → ℕ
byte_short b o = get_or b o 0 + 256 * get_or b (o + 1) 0

-- FORMAT 3.1: the figures of a block
pub record Fields (b : List ℕ) (f : Figures) : Type 0 where
  pub size : f.size ≡ byte_word b 56
  pub sectors : f.sectors ≡ byte_word b 60
  pub internal : f.internal ≡ byte_word b 64
  pub blocks : f.blocks ≡ byte_word b 68
  pub lanes : f.lanes ≡ byte_word b 72
  pub data_start : f.dataoff ≡ byte_long b 88
  pub map-start : f.mapoff ≡ byte_long b 96
  pub flog-start : f.flogoff ≡ byte_long b 104
  pub copy-start : f.copyoff ≡ byte_long b 112

-- the fields besides them that are judged: version 2 and 0, an info size of 4,096, and the next arena
pub record Header (next : ℕ) (b : List ℕ) : Type 0 where
  pub major : byte_short b 52 ≡ 2
  pub minor : byte_short b 54 ≡ 0
  pub info_size : byte_word b 76 ≡ 4096
  pub next_arena : byte_long b 80 ≡ next

-- FORMAT 3.1: where the fields stand, and which are allowed
pub record FieldsClaim : Type 0 where
  pub figures : (b : List ℕ) → Fields b (figures_of b)
  pub flags : (b : List ℕ) → flags_field b ≡ byte_word b 48
  pub flags-allowed : (b : List ℕ) → flags_allowed b ≡ true → byte_word b 48 ≡ 0
  pub flags_allowed_back : (b : List ℕ) → byte_word b 48 ≡ 0 → flags_allowed b ≡ true
  pub header : (next : ℕ) (b : List ℕ) → Small b → header_allowed next b ≡ true → Header next b
  pub header_back : (next : ℕ) (b : List ℕ) → Small b → Header next b → header_allowed next b ≡ true
  -- rule 3: these fields and the figures
  pub rule_3 : (t : Told) (b : List ℕ) (n : ℕ) → Small b → info_allowed t b n ≡ true → Header t.next b × Allowed (figures_of b) n
  pub rule_3_back : (t : Told) (b : List ℕ) (n : ℕ) → Small b → Header t.next b → Allowed (figures_of b) n → info_allowed t b n ≡ true

-- B T T _ A R E N A _ I N F O and two zero bytes
abbrev pub signature_bytes : List ℕ
signature_bytes = 66 ∷ 84 ∷ 84 ∷ 95 ∷ 65 ∷ 82 ∷ 69 ∷ 78 ∷ 65 ∷ 95 ∷ 73 ∷ 78 ∷ 70 ∷ 79 ∷ 0 ∷ 0 ∷ []

-- FORMAT 3.4: signature and checksum are right
pub record Sound (b : List ℕ) : Type 0 where
  pub size : length b ≡ 4096
  pub signature : take 16 b ≡ signature_bytes
  pub checksum : byte_long b 4088 ≡ fletcher_value (words_in (field_cleared b))

-- FORMAT 3.4: the first block counts if it is sound, else the copy if that is, else none
pub record SoundClaim : Type 0 where
  pub sound_is : (b : List ℕ) → Small b → sound b ≡ true → Sound b
  pub is_sound : (b : List ℕ) → Sound b → sound b ≡ true
  pub main : (main copy : List ℕ) → Sound main → (counts_of main copy ≡ 0) × (counting_of main copy ≡ main)
  pub copy : (main copy : List ℕ) → Small main → (Sound main → ⊥) → Sound copy → (counts_of main copy ≡ 1) × (counting_of main copy ≡ copy)
  pub none : (main copy : List ℕ) → Small main → Small copy → (Sound main → ⊥) → (Sound copy → ⊥)
      → (counts_of main copy ≡ 2) × (counting_of main copy ≡ [])
  -- the numbers of the blocks that the code names
  pub numbers : (counts_number (Some Main) ≡ 0) × (counts_number (Some Copy) ≡ 1) × (counts_number None ≡ 2)
  -- of an arena the first and the last 4,096 bytes, where its length is allowed
  pub arena : (a : List ℕ) → Length (length a) → info_block_of a ≡ counting_of (take 4096 a) (drop (length a - 4096) a)
  pub no_arena : (a : List ℕ) → (Length (length a) → ⊥) → info_block_of a ≡ []

-- an identifier: 16 bytes
pub record Identifier (i : List ℕ) : Type 0 where
  pub size : length i ≡ 16
  pub bytes : Small i

-- FORMAT 6: an info block as making writes it, with two identifiers and those figures
pub record FreshBlock (first second : List ℕ) (f : Figures) (b : List ℕ) : Type 0 where
  pub size : length b ≡ 4096
  pub bytes : Small b
  pub signature : take 16 b ≡ signature_bytes
  pub identifier_1 : take 16 (drop 16 b) ≡ first
  pub identifier_2 : take 16 (drop 32 b) ≡ second
  pub flags : byte_word b 48 ≡ 0
  pub header : Header 0 b
  pub figures : Fields b f
  pub unnamed : (k : ℕ) → 120 ≤ k → k < 4088 → get_or b k 0 ≡ 0
  pub checksum : Sound b

-- the words of a made info block, stored over any 4,096 bytes
pub record FreshBlockClaim : Type 0 where
  pub made : (first second : List ℕ) (f : Figures) (a : List ℕ) → Identifier first → Identifier second → FiguresFit f → Small a → length a ≡ 4096
      → FreshBlock first second f (put_words a 0 (info_words first second f))
