-- Map words, sequence numbers and halves said a second time, by plain numbers and byte offsets.
use Rattle.std.specs.Prelude.{◌≡◌, ◌⊎◌, true, cond, List, ℕ, ◌+◌, ◌-◌, ◌*◌, ◌%◌, ◌≤◌, ◌<◌, eqb, Some, None, Ok, Err}
use Rattle.words.specs.Bytes.{byte_word}
use Rattle.format.specs.MapWord.{flags_of, low_bits, flag_bits, reading_of, reading_number, block_of, mapped_to, bad_word, sloppy_word, word_fault, fault_number}
use Rattle.format.specs.Sequence.{successor, next_of, newer, half_number}
use Rattle.format.specs.Flog.{newer_of_pair, half_at}
use Rattle.format.specs.declared.map.MapState.TheVariants.{Unwritten, Bad, Zeroed, Data}
use Rattle.format.specs.declared.map.Reading.TheVariants.{Zeroes, BadSector, Bytes}
use Rattle.format.specs.declared.map.WordFault.TheVariants.{PastLast, Sloppy}
use Rattle.format.specs.declared.sequence.HalfNo.TheVariants.{First, Second}
use Rattle.format.specs.declared.flog.Half.{Half}

-- ---- the flags of a map word as numbers: bit 31 is Zero, bit 30 is Error

-- neither bit, 00: below 0x40000000
abbrev pub NeitherBit : ℕ → Type 0
NeitherBit w = w < 0x40000000

-- bit 30 alone, 01: from 0x40000000 to 0x7FFFFFFF
abbrev pub Bit30Alone : ℕ → Type 0
Bit30Alone w = (0x40000000 ≤ w) × (w < 0x80000000)

-- bit 31 alone, 10: from 0x80000000 to 0xBFFFFFFF
abbrev pub Bit31Alone : ℕ → Type 0
Bit31Alone w = (0x80000000 ≤ w) × (w < 0xC0000000)

-- both bits, 11: from 0xC0000000 to 0xFFFFFFFF
abbrev pub BothBits : ℕ → Type 0
BothBits w = (0xC0000000 ≤ w) × (w < 0x100000000)

-- the block of word w of sector s: its own number where the word is 0, else bits 29 to 0
abbrev pub named_block : ℕ → ℕ → ℕ
named_block s w = cond (eqb w 0) s (w % 0x40000000)

-- rule 7: a bit is set, and bits 29 to 0 are I or more
abbrev pub BadWord : ℕ → ℕ → Type 0
BadWord blocks w = (0x40000000 ≤ w) × (blocks ≤ w % 0x40000000)

-- rule 18, of a word: neither bit is set, and the word is not 0
abbrev pub SloppyWord : ℕ → Type 0
SloppyWord w = NeitherBit w × (0 < w)

-- a word w of sector s reads as r, which is zeroes (0), the bad-sector answer (1) or the block's bytes (2), and stands for block b
pub record Means (s w r b : ℕ) : Type 0 where
  pub reads : reading_of (flags_of w) ≡ r
  pub block : block_of s w ≡ b

-- FORMAT 4
pub record MapWordsClaim : Type 0 where
  -- 00, the word being 0: zeroes, and the sector's own number
  pub flags_00 : (s : ℕ) → Means s 0 0 s
  -- 01: bad, and the low bits
  pub flags_01 : (s w : ℕ) → Bit30Alone w → Means s w 1 (w - 0x40000000)
  -- 10: zeroes, and the low bits
  pub flags_10 : (s w : ℕ) → Bit31Alone w → Means s w 0 (w - 0x80000000)
  -- 11: the block's bytes, and the low bits
  pub flags_11 : (s w : ℕ) → BothBits w → Means s w 2 (w - 0xC0000000)
  -- the numbers of the states and of the readings that the code names
  pub states : (flag_bits Unwritten ≡ 0) × (flag_bits Bad ≡ 1) × (flag_bits Zeroed ≡ 2) × (flag_bits Data ≡ 3)
  pub readings : (reading_number Zeroes ≡ 0) × (reading_number BadSector ≡ 1) × (reading_number Bytes ≡ 2)
  -- bits 31 and 30 and bits 29 to 0 make the word
  pub bits : (w : ℕ) → flags_of w * 0x40000000 + low_bits w ≡ w
  pub low-bits : (w : ℕ) → low_bits w < 0x40000000
  pub block : (s w : ℕ) → block_of s w ≡ named_block s w
  -- a write stores flags 11 and the block, which then reads as that block's bytes
  pub written : (b : ℕ) → mapped_to b ≡ 0xC0000000 + b
  pub written_reads : (s b : ℕ) → b < 0x40000000 → Means s (mapped_to b) 2 b
  pub rule_7 : (blocks w : ℕ) → bad_word blocks w ≡ true → BadWord blocks w
  pub rule_7_back : (blocks w : ℕ) → BadWord blocks w → bad_word blocks w ≡ true
  pub rule_18 : (w : ℕ) → sloppy_word w ≡ true → SloppyWord w
  pub rule_18_back : (w : ℕ) → SloppyWord w → sloppy_word w ≡ true
  -- the number of a word: 7, 18 or, where neither rule applies, 0
  pub fault_7 : (blocks w : ℕ) → BadWord blocks w → word_fault blocks w ≡ 7
  pub fault_18 : (blocks w : ℕ) → SloppyWord w → word_fault blocks w ≡ 18
  pub fault_none : (blocks w : ℕ) → (BadWord blocks w → ⊥) → (SloppyWord w → ⊥) → word_fault blocks w ≡ 0
  -- the numbers of the faults that the code names
  pub faults : (fault_number {A = Unit {0}} (Ok tt) ≡ 0) × (fault_number {A = Unit {0}} (Err PastLast) ≡ 7) × (fault_number {A = Unit {0}} (Err Sloppy) ≡ 18)
  -- rule 15: bit 30 alone
  pub rule_15 : (w : ℕ) → eqb (reading_of (flags_of w)) 1 ≡ true → Bit30Alone w
  pub rule_15_back : (w : ℕ) → Bit30Alone w → eqb (reading_of (flags_of w)) 1 ≡ true

-- y is the successor of x
abbrev pub Follows : ℕ → ℕ → Type 0
Follows x y = ((x ≡ 1) × (y ≡ 2)) ⊎ (((x ≡ 2) × (y ≡ 3)) ⊎ ((x ≡ 3) × (y ≡ 1)))

-- of two halves with the numbers x and y the one with x is the newer: y is 0 and x from 1 to 3, or x is the successor of y
abbrev pub NewerThan : ℕ → ℕ → Type 0
NewerThan x y = ((y ≡ 0) × (1 ≤ x) × (x ≤ 3)) ⊎ Follows y x

-- a half's four words from byte o on
pub record HalfFrom (a : List ℕ) (o : ℕ) (h : Half) : Type 0 where
  pub sector : h.sector.0 ≡ byte_word a o
  pub old : h.old.0 ≡ byte_word a (o + 4)
  pub new : h.new.0 ≡ byte_word a (o + 8)
  pub sequence : h.sequence.0 ≡ byte_word a (o + 12)

-- FORMAT 5
pub record FlogClaim : Type 0 where
  -- the successors, as numbers
  pub after_1 : successor 1 ≡ 2
  pub after_2 : successor 2 ≡ 3
  pub after_3 : successor 3 ≡ 1
  pub next : (x : ℕ) → (next_of (record { 0 = x })).0 ≡ successor x
  -- the numbers of the halves that the code names
  pub halves : (half_number (Some First) ≡ 0) × (half_number (Some Second) ≡ 1) × (half_number None ≡ 2)
  -- the newer half of any two: the first (0), the second (1), and else none (2)
  pub first : (x y : ℕ) → NewerThan x y → newer x y ≡ 0
  pub second : (x y : ℕ) → NewerThan y x → newer x y ≡ 1
  pub none : (x y : ℕ) → (NewerThan x y → ⊥) → (NewerThan y x → ⊥) → newer x y ≡ 2
  -- a half that starts at word p, and the newer of two halves of which the second starts d words after the first
  pub half : (a : List ℕ) (p : ℕ) → HalfFrom a (4 * p) (half_at a p)
  pub pair : (a : List ℕ) (p d : ℕ) → newer_of_pair a p d ≡ newer (byte_word a (4 * p + 12)) (byte_word a (4 * p + 4 * d + 12))
