-- Numbers in a list of bytes by byte offset, as document 01 writes them: little-endian.
use Rattle.std.specs.Prelude.{List, [], ◌∷◌, ℕ, ◌+◌, ◌*◌, ◌<◌, get_or}

-- what every lent slice is: a list of numbers below 256
abbrev pub Small : List ℕ → Type 0
Small b = (j : ℕ) → get_or b j 0 < 256

-- the 32-bit number at byte o, the least byte first
abbrev pub byte_word : List ℕ → ℕ → ℕ
byte_word b o = get_or b o 0 + 256 * get_or b (o + 1) 0 + 65536 * get_or b (o + 2) 0 + 16777216 * get_or b (o + 3) 0

-- the 64-bit number at byte o, its low half first
abbrev pub byte_long : List ℕ → ℕ → ℕ
byte_long b o = byte_word b o + 4294967296 * byte_word b (o + 4)

-- all the words of a run of bytes, four to a word; what is left at the end makes no word
unfoldable pub words_in : List ℕ → List ℕ
words_in [] = []
words_in (a ∷ []) = []
words_in (a ∷ b ∷ []) = []
words_in (a ∷ b ∷ c ∷ []) = []
words_in (a ∷ b ∷ c ∷ d ∷ bs) = (a + 256 * b + 65536 * c + 16777216 * d) ∷ words_in bs
