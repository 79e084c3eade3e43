-- The sector that a step lends: S bytes below 256, of which word k is the record's index plus k.
use mathlib.Core.Path.{◌≡◌, refl, sym, ap, ◌∙◌}
use mathlib.Core.List.{List}
use Prim.Native.Nat.{ℕ, zero, suc, ◌+◌, ◌*◌, ◌/◌, ◌%◌, ◌≤◌, ◌<◌}
use native.Mathlib.Omega.{arith}
use lib.ListN.{length, get_or, replicate, length-replicate}
use lib.Seq.{length-take-le}
use Rattle.words.specs.Word.{word, Bytes}
use Rattle.words.specs.Bytes.{Small}
use Rattle.words.proofs.Laws.{word-take}
use Rattle.words.proofs.Runs.{put_words-bytes, word-put_words_in}
use Rattle.format.proofs.Below.{below_replicate, below_take}
use Rattle.layout.specs.Sizes.{max_size}
use Rattle.replaying.specs.Replay.{rising, words_for, step_bytes}
use Rattle.replaying.specs.Claims.{StepsClaim}
use Rattle.replaying.proofs.Words.{words_length}

rising-length : (i n : ℕ) → length (rising i n) ≡ n
unfolding rising
rising-length i zero = refl
rising-length i (suc n) = ap suc (rising-length (suc i) n)

pub rising-at : (i n k : ℕ) → k < n → get_or (rising i n) k 0 ≡ i + k
unfolding rising
rising-at i zero k u = absurd (omega arith)
rising-at i (suc n) zero u = omega arith
rising-at i (suc n) (suc k) u =
    let e : suc i + k ≡ i + suc k = omega arith in
    rising-at (suc i) n k (omega arith) ∙ e

rising_small : (i n : ℕ) → i + n ≤ 4294967296 → (k : ℕ) → get_or (rising i n) k 0 < 4294967296
unfolding rising
rising_small i zero u k = omega arith
rising_small i (suc n) u zero = omega arith
rising_small i (suc n) u (suc k) = rising_small (suc i) n (omega arith) k

-- the words before they are cut to a sector's length
abbrev whole : ℕ → List ℕ
whole i = words_for i (replicate max_size 0)

whole-bytes : (i : ℕ) → Bytes (whole i)
whole-bytes i = put_words-bytes (rising i (max_size / 4)) (replicate max_size 0) 0
    (record { words = ap (λ (n : ℕ). n % 4) (length-replicate {A = ℕ} max_size 0); small = below_replicate 256 max_size 0 (omega arith) })

whole_length : (i : ℕ) → length (whole i) ≡ max_size
whole_length i = words_length (whole i) i refl

whole_word : (i k : ℕ) → i ≤ 8192 → k < max_size / 4 → word (whole i) k ≡ i + k
whole_word i k u v =
    let l = rising-length i (max_size / 4) in
    let z : 0 + k ≡ k = omega arith in
    ap (word (whole i)) (sym z)
    ∙ word-put_words_in (rising i (max_size / 4)) (replicate max_size 0) 0 k (rw (l, length-replicate {A = ℕ} max_size 0) (omega arith))
    (rising_small i (max_size / 4) (omega arith)) (omega (arith, l))
    ∙ rising-at i (max_size / 4) k v

whole_room : (i size : ℕ) → size ≤ max_size → size ≤ length (whole i)
whole_room i size u = omega (arith, whole_length i)

module _ (size i : ℕ) where
  pub lent_small : Small (step_bytes size i)
  lent_small = below_take 256 size _ (omega arith) (whole-bytes _).small

  module _ (u : size ≤ max_size) where
    pub lent_length : length (step_bytes size i) ≡ size
    lent_length = length-take-le size _ (whole_room _ size u)

    pub lent-word : i ≤ 8192 → (k : ℕ) → 4 * k + 4 ≤ size → word (step_bytes size i) k ≡ i + k
    lent-word v k w = word-take _ size k w ∙ whole_word i k v (omega arith)

pub steps_claim : StepsClaim
unfolding word
steps_claim size i u v = record { bytes = lent_length size i u; words = λ k w. lent-word size i u v k w }
