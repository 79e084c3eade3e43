-- A made info block as it is stored: the head, the zero words, and the checksum of the words that were stored before it.
use mathlib.Core.Path.{◌≡◌, refl, sym, ap, ◌∙◌}
use mathlib.Core.List.{List, [], ◌∷◌, ◌++◌}
use Prim.Native.Nat.{ℕ, zero, suc, ◌+◌, ◌*◌, ◌%◌, ◌/◌, ◌≤◌, ◌<◌}
use native.Mathlib.Omega.{arith}
use native.Mathlib.Numerals.{add-one}
use lib.ListN.{length, get_or, take, replicate, length-append, length-replicate}
use lib.Seq.{take-suc, length-take-le}
use Rattle.words.specs.Word.{word, put_word, put_words, words_from, put_long}
use Rattle.words.proofs.Runs.{put_words-append, put_words_snoc, words_from-put_words}
use Rattle.fletcher.specs.Fletcher.{added, added_all, value_of, fletcher64}
use Rattle.fletcher.proofs.Laws.{added_all-append}
use Rattle.fletcher.specs.declared.Sums.{Sums}
use Rattle.infoblock.specs.Info.{head_words, body_words, fresh_checksum, info_words}
use Rattle.infoblock.proofs.Signed.{signature-word}
use Rattle.layout.specs.declared.Figures.{Figures}

-- one word more of a run
pub put_words-take : (ws a : List ℕ) (i k : ℕ) → k < length ws
    → put_words a i (take (k + 1) ws) ≡ put_word (put_words a i (take k ws)) (i + k) (get_or ws k 0)
put_words-take ws a i k h =
    let l : length (take k ws) ≡ k = length-take-le k ws (omega arith) in
    rw (add-one, take-suc ws k 0 h)
    (put_words_snoc (take k ws) a i (get_or ws k 0) ∙ ap (λ (m : ℕ). put_word (put_words a i (take k ws)) (i + m) (get_or ws k 0)) l)

-- the words of a made block up to its starts, each from what it is read from
module _ (first second : List ℕ) (f : Figures) (a0 a1 a2 a3 b0 b1 b2 b3 d0 d1 m0 m1 g0 g1 c0 c1 : ℕ) where
  pub head_is : a0 ≡ word first 0 → a1 ≡ word first 1 → a2 ≡ word first 2 → a3 ≡ word first 3
      → b0 ≡ word second 0 → b1 ≡ word second 1 → b2 ≡ word second 2 → b3 ≡ word second 3
      → d0 ≡ f.dataoff % 4294967296 → d1 ≡ f.dataoff / 4294967296 → m0 ≡ f.mapoff % 4294967296 → m1 ≡ f.mapoff / 4294967296
      → g0 ≡ f.flogoff % 4294967296 → g1 ≡ f.flogoff / 4294967296 → c0 ≡ f.copyoff % 4294967296 → c1 ≡ f.copyoff / 4294967296
      → (1599362114 ∷ 1313165889 ∷ 1313431361 ∷ 20294 ∷ a0 ∷ a1 ∷ a2 ∷ a3 ∷ b0 ∷ b1 ∷ b2 ∷ b3 ∷ 0 ∷ 2 ∷ f.size ∷ f.sectors ∷ f.internal
      ∷ f.blocks ∷ f.lanes ∷ 4096 ∷ 0 ∷ 0 ∷ d0 ∷ d1 ∷ m0 ∷ m1 ∷ g0 ∷ g1 ∷ c0 ∷ c1 ∷ []) ≡ head_words first second f
  unfolding head_words
  head_is e0 e1 e2 e3 f0 f1 f2 f3 h0 h1 i0 i1 j0 j1 k0 k1 =
      rw (
        e0,
        e1,
        e2,
        e3,
        f0,
        f1,
        f2,
        f3,
        h0,
        h1,
        i0,
        i1,
        j0,
        j1,
        k0,
        k1,
        ← signature-word 0 (omega arith),
        ← signature-word 1 (omega arith),
        ← signature-word 2 (omega arith),
        ← signature-word 3 (omega arith),
      )

pub head_length : (first second : List ℕ) (f : Figures) → length (head_words first second f) ≡ 30
unfolding head_words
head_length first second f = refl

pub body_length : (first second : List ℕ) (f : Figures) → length (body_words first second f) ≡ 1022
body_length first second f =
    omega (arith, head_length first second f, length-append (head_words first second f) (replicate 992 0), length-replicate {A = ℕ} 992 0)

-- every word of a run fits 32 bits
abbrev SmallWords : List ℕ → Type 0
SmallWords ws = (j : ℕ) → get_or ws j 0 < 4294967296

append_small : (xs ys : List ℕ) → SmallWords xs → SmallWords ys → SmallWords (xs ++ ys)
append_small [] ys p q j = q j
append_small (x ∷ xs) ys p q zero = p 0
append_small (x ∷ xs) ys p q (suc j) = append_small xs ys (λ k. p (suc k)) q j

zeros_small : (n : ℕ) → SmallWords (replicate n 0)
zeros_small zero j = omega arith
zeros_small (suc n) zero = omega arith
zeros_small (suc n) (suc j) = zeros_small n j

-- a run stored after another
put_both : (xs ys a : List ℕ) (i m : ℕ) → length xs ≡ m → put_words (put_words a i xs) (i + m) ys ≡ put_words a i (xs ++ ys)
put_both xs ys a i m l = rw (← l) (sym (put_words-append xs ys a i))

-- a checksum stored after a run
put_sum : (ws a : List ℕ) (i n v : ℕ) → length ws ≡ n
    → put_long (put_words a i ws) (i + n) v ≡ put_words a i (ws ++ (v % 4294967296 ∷ v / 4294967296 ∷ []))
unfolding put_long put_words
put_sum ws a i n v l = rw (← l, add-one) (sym (put_words-append ws (v % 4294967296 ∷ v / 4294967296 ∷ []) a i))

-- the sums of a run that was stored, with two zero words more
sum-read : (ws a : List ℕ) (i n : ℕ) → length ws ≡ n → 4 * (i + n) ≤ length a → SmallWords ws
    → value_of (added (added (added_all (record { low = 0; high = 0 }) (words_from (put_words a i ws) i n)) 0) 0) ≡ fletcher64 (ws ++ (0 ∷ 0 ∷ []))
unfolding fletcher64 added_all
sum-read ws a i n l h b =
    let e : words_from (put_words a i ws) i n ≡ ws = rw l at (words_from-put_words ws a i (omega arith) b) in
    rw e (ap value_of (sym (added_all-append ws (0 ∷ 0 ∷ []) (record { low = 0; high = 0 }))))

module _ (a first second head a1 a2 a3 : List ℕ) (i v : ℕ) (f : Figures) (s0 s1 s2 s3 : Sums) where
  -- the stores of a made info block, one after the other
  pub info_stored : 4 * (i + 1024) ≤ length a → SmallWords head → head ≡ head_words first second f
      → a1 ≡ put_words a i head → a2 ≡ put_words a1 (i + 30) (replicate 992 0)
      → s0 ≡ record { low = 0; high = 0 } → s1 ≡ added_all s0 (words_from a2 i 1022) → s2 ≡ added s1 0 → s3 ≡ added s2 0
      → v ≡ value_of s3 → a3 ≡ put_long a2 (i + 1022) v → a3 ≡ put_words a i (info_words first second f)
  unfolding info_words fresh_checksum
  info_stored h b e e1 e2 t0 t1 t2 t3 w e3 =
      let l : length head ≡ 30 = rw e (head_length first second f) in
      let r : a2 ≡ put_words a i (head ++ replicate 992 0) = rw (e2, e1) (put_both head (replicate 992 0) a i 30 l) in
      let q : a2 ≡ put_words a i (body_words first second f) = rw e at r in
      let n = body_length first second f in
      let m = append_small (head_words first second f) (replicate 992 0) (rw e at b) (zeros_small 992) in
      let d = sum-read (body_words first second f) a i 1022 n (omega arith) m in
      let c : v ≡ fresh_checksum first second f = w ∙ rw (t3, t2, t1, t0, q) d in
      e3 ∙ rw (q, c) (put_sum (body_words first second f) a i 1022 (fresh_checksum first second f) n)
