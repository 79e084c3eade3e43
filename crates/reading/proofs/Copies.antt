-- The words copied or zeroed make up the whole buffer: two slices of one length with the same words are the same.
use mathlib.Core.Path.{◌≡◌, sym, ap, ◌∙◌}
use mathlib.Core.List.{List}
use Prim.Native.Nat.{ℕ, ◌+◌, ◌*◌, ◌≤◌, ◌<◌}
use native.Mathlib.Omega.{arith}
use native.Mathlib.Numerals.{add-one}
use native.Mathlib.Decide.{dec_lt}
use lib.ListN.{length, get_or, take, drop, replicate, length-drop, length-replicate, get_or-replicate, get_or-eq_default}
use lib.Seq.{length-take-le}
use Rattle.words.specs.Word.{word, put_word, put_words, words_from}
use Rattle.words.proofs.Laws.{ext_word, word_lt, word-take, word-drop}
use Rattle.words.proofs.Runs.{
  length-put_words,
  put_words-bytes,
  put_words_snoc,
  word-put_words_in,
  length-words_from,
  get_d_words_from,
  words_from_snoc,
}
use Rattle.format.proofs.Below.{below_take, below_drop}

-- one word more
pub copy_step : (a b : List ℕ) (i k : ℕ)
    → put_words b 0 (words_from a i (k + 1)) ≡ put_word (put_words b 0 (words_from a i k)) k (word a (i + k))
copy_step a b i k =
    let e : 0 + length (words_from a i k) ≡ k = omega (arith, length-words_from a i k) in
    ap (λ (n : ℕ). put_words b 0 (words_from a i n)) (add-one k)
    ∙ ap (put_words b 0) (words_from_snoc a i k)
    ∙ put_words_snoc (words_from a i k) b 0 (word a (i + k))
    ∙ ap (λ (n : ℕ). put_word (put_words b 0 (words_from a i k)) n (word a (i + k))) e

words_from_small : (a : List ℕ) (i n : ℕ) → ((j : ℕ) → get_or a j 0 < 256) → (j : ℕ) → get_or (words_from a i n) j 0 < 4294967296
words_from_small a i n s j = go (dec_lt j n)
  where
    go : Dec (j < n) → get_or (words_from a i n) j 0 < 4294967296
    go (yes l) = rw (get_d_words_from a i n j l) (word_lt a (i + j) s)
    go (no l) = rw (get_or-eq_default (words_from a i n) 0 {n = j} (rw length-words_from (omega arith))) (omega arith)

abbrev zeros : ℕ → List ℕ
zeros n = replicate n 0

zeroes : (n j : ℕ) → get_or (zeros n) j 0 ≡ 0
zeroes n j = go (dec_lt j n)
  where
    go : Dec (j < n) → get_or (zeros n) j 0 ≡ 0
    go (yes l) = get_or-replicate n j 0 0 l
    go (no l) = get_or-eq_default (replicate n 0) 0 (rw length-replicate (omega arith))

word_zeroes : (n k : ℕ) → word (zeros n) k ≡ 0
unfolding word
word_zeroes n k = rw (zeroes n (4 * k), zeroes n (4 * k + 1), zeroes n (4 * k + 2), zeroes n (4 * k + 3))

-- words stored over a whole buffer leave nothing of it
module _ (b : List ℕ) (n : ℕ) (small : (j : ℕ) → get_or b j 0 < 256) (whole : length b ≡ 4 * n) where
  filled : (ws c : List ℕ) → length ws ≡ n → ((j : ℕ) → get_or ws j 0 < 4294967296) → ((j : ℕ) → get_or c j 0 < 256) → length c ≡ 4 * n
      → ((k : ℕ) → k < n → get_or ws k 0 ≡ word c k) → put_words b 0 ws ≡ c
  filled ws c l w s m e =
      ext_word _ _ (put_words-bytes ws b 0 (record { words = omega arith; small = small })) (record { words = omega arith; small = s })
      (length-put_words ws b 0 ∙ whole ∙ sym m)
      (λ k p. let q : 4 * k + 4 ≤ length b = rw length-put_words at p in
      let z : 0 + k ≡ k = omega arith in
      rw z at (word-put_words_in ws b 0 k (omega arith) w (omega arith)) ∙ e k (omega arith))

  pub copied : (a : List ℕ) (i : ℕ) → ((j : ℕ) → get_or a j 0 < 256) → 4 * (i + n) ≤ length a
      → put_words b 0 (words_from a i n) ≡ take (4 * n) (drop (4 * i) a)
  copied a i s r =
      let d : 4 * n ≤ length (drop (4 * i) a) = rw length-drop (omega arith) in
      filled (words_from a i n) (take (4 * n) (drop (4 * i) a)) (length-words_from a i n) (words_from_small a i n s)
      (below_take 256 (4 * n) (drop (4 * i) a) (omega arith) (below_drop 256 (4 * i) a s)) (length-take-le (4 * n) (drop (4 * i) a) d)
      (λ k l. get_d_words_from a i n k l ∙ sym (word-take (drop (4 * i) a) (4 * n) k (omega arith) ∙ word-drop a i k))

  pub zeroed : put_words b 0 (replicate n 0) ≡ replicate (4 * n) 0
  zeroed =
      filled (replicate n 0) (replicate (4 * n) 0) (length-replicate n 0) (λ j. omega (arith, zeroes n j))
      (λ j. omega (arith, zeroes (4 * n) j)) (length-replicate (4 * n) 0)
      (λ k l. zeroes n k ∙ sym (word_zeroes (4 * n) k))
