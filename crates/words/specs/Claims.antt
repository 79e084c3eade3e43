-- Words and 64-bit numbers said a second time, byte by byte: the definitions by word number against offsets in bytes.
use Rattle.std.specs.Prelude.{◌≡◌, ◌⊎◌, List, ℕ, ◌+◌, ◌*◌, ◌/◌, ◌%◌, ◌≤◌, ◌<◌, length, get_or, take, drop}
use Rattle.words.specs.Word.{word, put_word, put_words, words_from, long, put_long}
use Rattle.words.specs.Bytes.{byte_word, byte_long, words_in}

-- b is a with v at byte o: its four bytes, the least first, and every other byte as it was
pub record WordPut (a : List ℕ) (o v : ℕ) (b : List ℕ) : Type 0 where
  pub size : length b ≡ length a
  pub byte_0 : get_or b o 0 ≡ v % 256
  pub byte_1 : get_or b (o + 1) 0 ≡ v / 256 % 256
  pub byte_2 : get_or b (o + 2) 0 ≡ v / 65536 % 256
  pub byte_3 : get_or b (o + 3) 0 ≡ v / 16777216 % 256
  pub others : (j : ℕ) → (j < o) ⊎ (o + 4 ≤ j) → get_or b j 0 ≡ get_or a j 0

-- FORMAT 1: a word is four bytes at a multiple of 4, and all numbers are little-endian
pub record WordsClaim : Type 0 where
  -- word i stands at byte 4 i
  pub word_read : (a : List ℕ) (i : ℕ) → word a i ≡ byte_word a (4 * i)
  -- of a 64-bit number the low word comes first
  pub long_read : (a : List ℕ) (i : ℕ) → long a i ≡ byte_long a (4 * i)
  pub word_put : (a : List ℕ) (i v : ℕ) → 4 * i + 4 ≤ length a → WordPut a (4 * i) v (put_word a i v)
  -- a 64-bit number below 2^64 is read back from its eight bytes, and every other byte is as it was
  pub long_put : (a : List ℕ) (i v : ℕ) → 4 * i + 8 ≤ length a → v < 18446744073709551616 → byte_long (put_long a i v) (4 * i) ≡ v
  pub long_outside : (a : List ℕ) (i v j : ℕ) → (j < 4 * i) ⊎ (4 * i + 8 ≤ j) → get_or (put_long a i v) j 0 ≡ get_or a j 0
  -- n words from word i on are those of 4 n bytes from byte 4 i on
  pub words_read : (a : List ℕ) (i n : ℕ) → 4 * (i + n) ≤ length a → words_from a i n ≡ words_in (take (4 * n) (drop (4 * i) a))
  -- a run of words from word i on: word k of it at byte 4 (i + k), and every byte outside of it as it was
  pub words_put : (a ws : List ℕ) (i : ℕ) → 4 * (i + length ws) ≤ length a → ((k : ℕ) → get_or ws k 0 < 4294967296)
      → (k : ℕ) → k < length ws → byte_word (put_words a i ws) (4 * (i + k)) ≡ get_or ws k 0
  pub words_outside : (a ws : List ℕ) (i j : ℕ) → (j < 4 * i) ⊎ (4 * (i + length ws) ≤ j) → get_or (put_words a i ws) j 0 ≡ get_or a j 0
