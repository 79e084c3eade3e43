-- What a write in flight keeps word by word: each step leaves the words that were kept and adds its own, until all data words are
-- there; handed one buffer throughout, it keeps the first words of that buffer.
use mathlib.Core.Path.{◌≡◌, sym, ap, ◌∙◌}
use mathlib.Core.List.{List, ◌++◌}
use Prim.Native.Nat.{ℕ, ◌+◌, ◌*◌, ◌/◌, ◌≤◌, ◌<◌}
use native.Mathlib.Omega.{arith}
use lib.Dec.{ltb}
use lib.ListN.{length, take, drop, length-append, length-drop}
use lib.Seq.{length-take-le, take_all, take-add, take_at, drop_at}
use borrow.Author.Tests.{ltb-true, ltb-false, lt-ltb, le-ltb}
use Rattle.words.specs.Word.{word}
use Rattle.words.proofs.Laws.{word-take, word-drop}
use Rattle.words.specs.Bytes.{Small}
use Rattle.format.proofs.Below.{below_append, below_take, below_drop}
use Rattle.format.proofs.Tests.{by_bool}
use Rattle.layout.specs.declared.Figures.{Figures}
use Rattle.machine.specs.models.Row.{own_word, word_by_word}

-- ---- the word of a step

-- a word is the first of what is left there
first_left : (a : List ℕ) (k : ℕ) → word a k ≡ word (drop (4 * k) a) 0
first_left a k = let e : k ≡ k + 0 = omega arith in ap (word a) e ∙ sym (word-drop a k 0)

module _ (made : ℕ) (buffer : List ℕ) where
  own-word : word (own_word made buffer) 0 ≡ word buffer made
  unfolding own_word
  own-word = word-take (drop (4 * made) buffer) 4 0 (omega arith) ∙ sym (first_left buffer made)

  own_small : Small buffer → Small (own_word made buffer)
  unfolding own_word
  own_small p = below_take 256 4 (drop (4 * made) buffer) (omega arith) (below_drop 256 (4 * made) buffer p)

  own_length : 4 * made + 4 ≤ length buffer → length (own_word made buffer) ≡ 4
  unfolding own_word
  own_length u = length-take-le 4 (drop (4 * made) buffer) (rw length-drop (omega arith))

-- ---- what is kept with it

module _ (f : Figures) (made : ℕ) (bytes buffer : List ℕ) where
  -- the words stored before the step stay
  pub kept_old : (made < f.size / 4 → length bytes ≡ 4 * made) → (x : ℕ) → x < made → word (word_by_word f made bytes buffer) x ≡ word bytes x
  unfolding word_by_word
  kept_old long x u = by_bool (ltb made (f.size / 4)) _
      (λ t. rw t (sym (word-take (bytes ++ own_word made buffer) (4 * made) x (omega arith))
      ∙ ap (λ (y : List ℕ). word y x) (take_at bytes (own_word made buffer) (4 * made) (long (ltb-true _ _ t)))))
      (λ t. rw t)

  -- the word that the step stores is its buffer's
  pub kept_new : made < f.size / 4 → length bytes ≡ 4 * made → word (word_by_word f made bytes buffer) made ≡ word buffer made
  unfolding word_by_word
  kept_new u long = rw (lt-ltb made (f.size / 4) u)
      (first_left (bytes ++ own_word made buffer) made
      ∙ ap (λ (y : List ℕ). word y 0) (drop_at bytes (own_word made buffer) (4 * made) long) ∙ own-word made buffer)

  pub kept_small : Small bytes → Small buffer → Small (word_by_word f made bytes buffer)
  unfolding word_by_word
  kept_small p q = by_bool (ltb made (f.size / 4)) _ (λ t. rw t (below_append 256 bytes _ p (own_small made buffer q))) (λ t. rw t p)

  pub kept_length : made < f.size / 4 → length bytes ≡ 4 * made → length buffer ≡ f.size
      → length (word_by_word f made bytes buffer) ≡ 4 * (made + 1)
  unfolding word_by_word
  kept_length u long size = rw (lt-ltb made (f.size / 4) u)
      (omega (arith, own_length made buffer (omega arith), length-append bytes (own_word made buffer)))

  -- after the data words nothing is added
  pub kept_done : f.size / 4 ≤ made → word_by_word f made bytes buffer ≡ bytes
  unfolding word_by_word
  kept_done u = rw (le-ltb made (f.size / 4) u)

-- handed one buffer throughout: its first words
pub kept_same : (f : Figures) → f.size ≡ 4 * (f.size / 4) → (buffer : List ℕ) → length buffer ≡ f.size
    → (n : ℕ) → word_by_word f n (take (4 * n) buffer) buffer ≡ take (4 * (n + 1)) buffer
unfolding word_by_word own_word
kept_same f whole buffer size n = by_bool (ltb n (f.size / 4)) _
    (λ t. let e : 4 * n + 4 ≡ 4 * (n + 1) = omega arith in rw t (sym (take-add (4 * n) 4 buffer) ∙ ap (λ (m : ℕ). take m buffer) e))
    (λ t. let u : f.size / 4 ≤ n = ltb-false _ _ t in
    rw t (take_all (4 * n) buffer (omega arith) ∙ sym (take_all (4 * (n + 1)) buffer (omega arith))))
