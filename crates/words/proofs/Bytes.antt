-- Words by byte offset: that definitions by word number and by byte say the same.
use mathlib.Core.Path.{◌≡◌, refl, sym, ap, ◌∙◌}
use mathlib.Core.Logic.{◌≢◌, ◌⊎◌, ⊎_elim}
use mathlib.Core.List.{List, [], ◌∷◌}
use Prim.Native.Nat.{ℕ, zero, suc, ◌+◌, ◌*◌, ◌/◌, ◌%◌, ◌≤◌, ◌<◌}
use native.Mathlib.Omega.{arith}
use native.Mathlib.Nat.{zero-add}
use native.Mathlib.Decide.{ℕ_discrete}
use lib.ListN.{length, get_or, take, drop, length-take, length-drop}
use Rattle.words.specs.Word.{word, put_word, put_words, words_from, long, put_long}
use Rattle.words.specs.Bytes.{byte_word, byte_long, words_in}
use Rattle.words.specs.Claims.{WordPut, WordsClaim}
use Rattle.words.proofs.Laws.{
  length-put_word,
  get_d_put_word_other,
  put_word_byte0,
  put_word_byte1,
  put_word_byte2,
  put_word_byte3,
  long-put_long_same,
  word_bytes,
  word-drop,
  word-take,
  quad,
}
use Rattle.words.proofs.Runs.{word-put_words_in, get_d_put_words_out, words_from_same}

pub word-bytes-at : (a : List ℕ) (i : ℕ) → word a i ≡ byte_word a (4 * i)
unfolding word
word-bytes-at a i = refl

-- the word at a byte that is four times its number
pub word_at : (a : List ℕ) (i o : ℕ) → 4 * i ≡ o → word a i ≡ byte_word a o
word_at a i o e = word-bytes-at a i ∙ ap (byte_word a) e

long-bytes-at : (a : List ℕ) (i : ℕ) → long a i ≡ byte_long a (4 * i)
unfolding long
long-bytes-at a i =
    let e : 4 * (i + 1) ≡ 4 * i + 4 = omega arith in
    ap (λ (x : ℕ). x + 4294967296 * word a (i + 1)) (word-bytes-at a i)
    ∙ ap (λ (x : ℕ). byte_word a (4 * i) + 4294967296 * x) (word_at a (i + 1) (4 * i + 4) e)

-- the 64-bit number at a byte that is four times the number of its low word
pub long-at : (a : List ℕ) (i o : ℕ) → 4 * i ≡ o → long a i ≡ byte_long a o
long-at a i o e = long-bytes-at a i ∙ ap (byte_long a) e

-- each byte of a word that is 0 is 0
pub byte_zero : (a : List ℕ) (k : ℕ) → ((j : ℕ) → get_or a j 0 < 256) → word a (k / 4) ≡ 0 → get_or a k 0 ≡ 0
unfolding word
byte_zero a k s e =
    let z = word_bytes a [] (k / 4) 0 s (λ j. omega arith) e in
    quad (λ j. get_or a j 0 ≡ 0) (k / 4) z.0 z.1 z.2 z.3 k refl

-- a word that is not zero has a byte that is not
pub byte_set : (a : List ℕ) (i : ℕ) → word a i ≢ 0 → (k : ℕ) × (k / 4 ≡ i) × (get_or a k 0 ≢ 0)
unfolding word
byte_set a i n = go (ℕ_discrete (get_or a (4 * i) 0) 0) (ℕ_discrete (get_or a (4 * i + 1) 0) 0) (ℕ_discrete (get_or a (4 * i + 2) 0) 0)
  where
    go : Dec (get_or a (4 * i) 0 ≡ 0) → Dec (get_or a (4 * i + 1) 0 ≡ 0) → Dec (get_or a (4 * i + 2) 0 ≡ 0)
        → (k : ℕ) × (k / 4 ≡ i) × (get_or a k 0 ≢ 0)
    go (no p) _ _ = (4 * i, omega arith, p)
    go (yes p) (no q) _ = (4 * i + 1, omega arith, q)
    go (yes p) (yes q) (no r) = (4 * i + 2, omega arith, r)
    go (yes p) (yes q) (yes r) = (4 * i + 3, omega arith, λ e. n (omega arith))

pub word_put : (a : List ℕ) (i v : ℕ) → 4 * i + 4 ≤ length a → WordPut a (4 * i) v (put_word a i v)
word_put a i v h =
    record {
      size = length-put_word a i v;
      byte_0 = put_word_byte0 a i v h;
      byte_1 = put_word_byte1 a i v h;
      byte_2 = put_word_byte2 a i v h;
      byte_3 = put_word_byte3 a i v h;
      others = λ j o. get_d_put_word_other a i v j (λ e. ⊎_elim (λ l. omega arith) (λ l. omega arith) o);
    }

-- all the words of n times four bytes
pub words_all : (n : ℕ) (b : List ℕ) → length b ≡ 4 * n → words_in b ≡ words_from b 0 n
unfolding words_in words_from word
words_all zero [] l = refl
words_all zero (a ∷ b) l = absurd (omega arith)
words_all (suc n) [] l = absurd (omega arith)
words_all (suc n) (a ∷ []) l = absurd (omega arith)
words_all (suc n) (a ∷ b ∷ []) l = absurd (omega arith)
words_all (suc n) (a ∷ b ∷ c ∷ []) l = absurd (omega arith)
words_all (suc n) (a ∷ b ∷ c ∷ d ∷ bs) l =
    ap (λ (ws : List ℕ). (a + 256 * b + 65536 * c + 16777216 * d) ∷ ws)
    (words_all n bs (omega arith)
    ∙ words_from_same bs (a ∷ b ∷ c ∷ d ∷ bs) 0 1 n
    (λ k h. word-drop (a ∷ b ∷ c ∷ d ∷ bs) 1 (0 + k) ∙ ap (λ (x : ℕ). word (a ∷ b ∷ c ∷ d ∷ bs) (1 + x)) (zero-add k)))

pub words_read : (a : List ℕ) (i n : ℕ) → 4 * (i + n) ≤ length a → words_from a i n ≡ words_in (take (4 * n) (drop (4 * i) a))
words_read a i n h =
    let l : length (take (4 * n) (drop (4 * i) a)) ≡ 4 * n = simp (length-take, length-drop) (omega arith) in
    sym (words_all n (take (4 * n) (drop (4 * i) a)) l
    ∙ words_from_same (take (4 * n) (drop (4 * i) a)) a 0 i n
    (λ k u. word-take (drop (4 * i) a) (4 * n) (0 + k) (omega arith) ∙ word-drop a i (0 + k) ∙ ap (λ (x : ℕ). word a (i + x)) (zero-add k)))

-- the bytes outside of a stored 64-bit number
long_outside : (a : List ℕ) (i v j : ℕ) → (j < 4 * i) ⊎ (4 * i + 8 ≤ j) → get_or (put_long a i v) j 0 ≡ get_or a j 0
unfolding put_long
long_outside a i v j o =
    get_d_put_word_other (put_word a i (v % 4294967296)) (i + 1) (v / 4294967296) j (λ e. ⊎_elim (λ l. omega arith) (λ l. omega arith) o)
    ∙ get_d_put_word_other a i (v % 4294967296) j (λ e. ⊎_elim (λ l. omega arith) (λ l. omega arith) o)

pub words_claim : WordsClaim
words_claim =
    record {
      word_read = word-bytes-at;
      long_read = long-bytes-at;
      word_put = word_put;
      long_put = λ a i v h b. sym (long-bytes-at (put_long a i v) i) ∙ long-put_long_same a i v h b;
      long_outside = long_outside;
      words_read = words_read;
      words_put = λ a ws i h b k l. sym (word-bytes-at (put_words a i ws) (i + k)) ∙ word-put_words_in ws a i k h b l;
      words_outside = λ a ws i j o. get_d_put_words_out ws a i j o;
    }
