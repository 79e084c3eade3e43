-- The words that a step lends, as a loop puts them: one after another from the front.
use mathlib.Core.Path.{◌≡◌, ap, ◌∙◌, subst}
use mathlib.Core.List.{List}
use Prim.Native.Nat.{ℕ, suc, ◌+◌, ◌-◌, ◌/◌, ◌<◌, min}
use native.Mathlib.Omega.{arith}
use lib.ListN.{length, take, replicate, length-replicate}
use Rattle.std.proofs.lemmas.List.{take_min}
use Rattle.words.specs.Word.{put_word, put_words}
use Rattle.words.proofs.Runs.{length-put_words}
use Rattle.layout.specs.Sizes.{max_size}
use Rattle.replaying.specs.Replay.{rising, words_for}

-- k words are put, and those from k on are left
pub fill_more : (b : List ℕ) (i k n : ℕ) → k < n
    → put_words b k (rising (i + k) (n - k)) ≡ put_words (put_word b k (i + k)) (k + 1) (rising (i + (k + 1)) (n - (k + 1)))
unfolding put_words rising
fill_more b i k n u =
    let e : n - k ≡ suc (n - (k + 1)) = omega arith in
    let f : k + 1 ≡ suc k = omega arith in
    let g : i + suc k ≡ suc (i + k) = omega arith in
    rw (e, f, g)

pub fill_end : (b : List ℕ) (i k n : ℕ) → n ≡ k → put_words b k (rising (i + k) (n - k)) ≡ b
unfolding put_words rising
fill_end b i k n e = let z : n - k ≡ 0 = omega arith in rw z

-- the buffer keeps its length
pub words_length : (b : List ℕ) (i : ℕ) → b ≡ words_for i (replicate max_size 0) → length b ≡ max_size
words_length b i e = ap length e ∙ length-put_words (rising i (max_size / 4)) _ 0 ∙ length-replicate {A = ℕ} max_size 0

-- their first bytes, up to a sector's length
pub words_lent : (b : List ℕ) (i size : ℕ) → b ≡ words_for i (replicate max_size 0) → take (min size max_size) b ≡ take size b
words_lent b i size e = subst (λ (n : ℕ). take (min size n) b ≡ take size b) (words_length b i e) (take_min size b)
