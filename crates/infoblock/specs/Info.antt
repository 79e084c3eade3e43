-- The info block: 1,024 words, by word number. Signature 0, identifiers 4 and 8, flags 12, version 13, S 14, E 15, internal size 16,
-- blocks 17, lanes 18, info size 19, next arena 20, starts of data, map, flog and copy 22, 24, 26, 28, checksum 1,022.
use Rattle.std.specs.Prelude.{Bool, Option, Some, None, cond, ◌&&◌, List, [], ◌∷◌, ◌++◌, ℕ, ◌-◌, ◌/◌, ◌%◌, eqb, length, take, drop, replicate}
use Rattle.words.specs.Word.{word, long}
use Rattle.fletcher.specs.Fletcher.{fletcher64, block_checksum}
use Rattle.format.specs.Tests.{all_of, every}
use Rattle.layout.specs.Figures.{figures_allowed, figures_at, length_allowed}
use Rattle.layout.specs.declared.Figures.{Figures}
use Rattle.layout.specs.declared.Told.{Told}
use Rattle.infoblock.specs.declared.Part.{Part}
use Rattle.infoblock.specs.declared.Part.TheVariants.{Main, Copy}

-- BTT_ARENA_INFO and two zero bytes
abbrev pub signature : List ℕ
signature = 66 ∷ 84 ∷ 84 ∷ 95 ∷ 65 ∷ 82 ∷ 69 ∷ 78 ∷ 65 ∷ 95 ∷ 73 ∷ 78 ∷ 70 ∷ 79 ∷ 0 ∷ 0 ∷ []

unfoldable pub signed : List ℕ → Bool
signed b = every 4 (λ k. eqb (word b k) (word signature k))

-- a block is sound if signature and checksum match
unfoldable pub sound : List ℕ → Bool
sound b = eqb (length b) 4096 && (signed b && eqb (long b 1022) (block_checksum b))

-- which of two blocks counts: the first (0) if sound, else the copy (1) if sound, else neither (2)
unfoldable pub counts_of : List ℕ → List ℕ → ℕ
counts_of main copy = cond (sound main) 0 (cond (sound copy) 1 2)

-- the number of the block that counts
abbrev pub counts_number : Option Part → ℕ
counts_number (Some Main) = 0
counts_number (Some Copy) = 1
counts_number None = 2

-- the block that counts, or no bytes
unfoldable pub counting_of : List ℕ → List ℕ → List ℕ
counting_of main copy = cond (eqb (counts_of main copy) 0) main (cond (eqb (counts_of main copy) 1) copy [])

-- the info block that counts in an arena; no bytes where the length is not allowed
unfoldable pub info_block_of : List ℕ → List ℕ
info_block_of a = cond (length_allowed (length a)) (counting_of (take 4096 a) (drop (length a - 4096) a)) []

abbrev pub flags_field : List ℕ → ℕ
flags_field b = word b 12

-- flags 0
abbrev pub flags_allowed : List ℕ → Bool
flags_allowed b = eqb (flags_field b) 0

-- the figures of a block that its handle keeps
unfoldable pub figures_of : List ℕ → Figures
figures_of b = figures_at b 14 22

-- version 2 and 0, info size 4,096, and that next arena
unfoldable pub header_allowed : ℕ → List ℕ → Bool
header_allowed next b = all_of (eqb (word b 13 % 65536) 2 ∷ eqb (word b 13 / 65536) 0 ∷ eqb (word b 19) 4096 ∷ eqb (long b 20) next ∷ [])

-- no figure of the table is forbidden, flags apart, for an opening that is told t
abbrev pub info_allowed : Told → List ℕ → ℕ → Bool
info_allowed t b length = header_allowed t.next b && figures_allowed (figures_of b) length

-- a 64-bit number as two words
abbrev pub split : ℕ → List ℕ → List ℕ
split n ws = n % 4294967296 ∷ n / 4294967296 ∷ ws

-- the words of an info block up to its last named one before the checksum
unfoldable pub head_words : List ℕ → List ℕ → Figures → List ℕ
head_words first second f =
    word signature 0 ∷ word signature 1 ∷ word signature 2 ∷ word signature 3
    ∷ word first 0 ∷ word first 1 ∷ word first 2 ∷ word first 3
    ∷ word second 0 ∷ word second 1 ∷ word second 2 ∷ word second 3
    ∷ 0 ∷ 2 ∷ f.size ∷ f.sectors ∷ f.internal ∷ f.blocks ∷ f.lanes ∷ 4096
    ∷ split 0 (split f.dataoff (split f.mapoff (split f.flogoff (split f.copyoff []))))

-- the same with the unnamed words, which are zero
abbrev pub body_words : List ℕ → List ℕ → Figures → List ℕ
body_words first second f = head_words first second f ++ replicate 992 0

-- the checksum that a made block carries
unfoldable pub fresh_checksum : List ℕ → List ℕ → Figures → ℕ
fresh_checksum first second f = fletcher64 (body_words first second f ++ (0 ∷ 0 ∷ []))

-- the 1,024 words of a made info block
unfoldable pub info_words : List ℕ → List ℕ → Figures → List ℕ
info_words first second f = body_words first second f ++ split (fresh_checksum first second f) []
