-- Cases 6 to 8 by the words of the arena, which are read off the stores that put them there: no list of its length is walked.
use mathlib.Core.Path.{◌≡◌, refl, ap₂, ◌∙◌}
use mathlib.Core.Logic.{◌≢◌, inl}
use mathlib.Core.Bool.{true, false}
use mathlib.Core.List.{List, [], ◌∷◌}
use Prim.Native.Nat.{ℕ, zero, suc, ◌+◌, ◌*◌, ◌<◌}
use native.Mathlib.Omega.{arith}
use lib.Dec.{eqb}
use borrow.Author.Tests.{ne_eqb}
use lib.ListN.{length, get_or, length-replicate}
use Rattle.words.specs.Word.{word, put_word}
use Rattle.words.proofs.Bytes.{word_at}
use Rattle.words.proofs.Laws.{length-put_word, word-put_word_same, word-put_word_other}
use Rattle.words.proofs.Runs.{length-put_words, word-put_words_in, word-put_words_out}
use Rattle.format.specs.Sequence.{newer, successor}
use Rattle.format.specs.MapWord.{block_of}
use Rattle.format.proofs.Below.{Below, below_test}
use Rattle.layout.specs.Figures.{fresh_figures}
use Rattle.layout.specs.Sizes.{internal_of}
use Rattle.layout.specs.Place.{layout_of}
use Rattle.machine.specs.state.Flog.{map_word, flog_word, newer_half, newer_word, free_of, pending}
use Rattle.machine.specs.state.Stores.{put_all}
use Rattle.machine.specs.calls.Opening.{mends, mended, pending_lanes}
use Rattle.machine.specs.claims.Exhibit.{exhibit_found}
use Rattle.machine.proofs.exhibit.Made.{made}
use Rattle.cases.specs.Worked.{AllDue}
use Rattle.cases.specs.Pending.{laid, flog_words, found, unset, case6, case7, case8}

size : length exhibit_found ≡ 49152
size = made.bytes.size ∙ length-replicate {A = ℕ} 49152 0

-- every map word of the made arena is zero
fresh-map : (s : ℕ) → s < 60 → word exhibit_found (9216 + s) ≡ 0
unfolding fresh_figures internal_of
fresh-map s u = word_at exhibit_found (9216 + s) (36864 + 4 * s) (omega arith) ∙ made.map s u

module _ (w x : ℕ) (half0 half1 : List ℕ) (small : w < 4294967296) (count : length (flog_words x half0 half1) ≡ 64)
    (below : Below 4294967296 (flog_words x half0 half1)) where
  abbrev a : List ℕ
  a = found w x half0 half1

  abbrev b : List ℕ
  b = put_word exhibit_found 9223 w

  size_b : length b ≡ 49152
  size_b = length-put_word exhibit_found 9223 w ∙ size

  size_a : length a ≡ 49152
  unfolding found layout_of fresh_figures internal_of
  size_a = length-put_words (flog_words x half0 half1) b 10240 ∙ size_b

  map_out : (s : ℕ) → s < 60 → map_word laid a s ≡ word b (9216 + s)
  unfolding found layout_of fresh_figures internal_of
  map_out s u = word-put_words_out (flog_words x half0 half1) b 10240 (9216 + s) (inl (omega arith))

  map_7 : map_word laid a 7 ≡ w
  map_7 = map_out 7 (omega arith) ∙ word-put_word_same exhibit_found 9223 w (omega (arith, size)) small

  map_other : (s : ℕ) → s < 60 → s ≢ 7 → map_word laid a s ≡ 0
  map_other s u n = map_out s u ∙ word-put_word_other exhibit_found 9223 (9216 + s) w (λ e. n (omega arith)) ∙ fresh-map s u

  flog_at : (k : ℕ) → k < 64 → word a (10240 + k) ≡ get_or (flog_words x half0 half1) k 0
  unfolding found layout_of fresh_figures internal_of
  flog_at k u = word-put_words_in (flog_words x half0 half1) b 10240 k (omega (arith, size_b, count)) below (omega (arith, count))

  -- which half of lane l is the newer, by the two sequences
  newer_of : (l p q : ℕ) → flog_word laid a l 0 3 ≡ p → flog_word laid a l 1 3 ≡ q → newer_half laid a l ≡ newer p q
  unfolding newer_half
  newer_of l p q e f = ap₂ newer e f

  -- whether lane l is pending, by its newer half's sector and old and by that sector's map word
  pending_by : (l h s o m : ℕ) → newer_half laid a l ≡ h → flog_word laid a l h 0 ≡ s → flog_word laid a l h 1 ≡ o → map_word laid a s ≡ m
      → pending laid a l ≡ eqb (block_of s m) o
  unfolding pending
  pending_by l h s o m n e f g = rw (n, e, f, g)

  -- the map word of sector 7 where no lane is pending
  none-mended : pending laid a 0 ≡ false → pending laid a 1 ≡ false → pending laid a 2 ≡ false → pending laid a 3 ≡ false
      → map_word laid (mended laid a) 7 ≡ w
  unfolding mends put_all layout_of fresh_figures internal_of
  none-mended p q r s = rw (p, q, r, s) map_7

  -- lanes 1 to 3 as making leaves them: lane l names sector l, whose block is l, and E + l is free
  fresh-lane : (l : ℕ) → l < 60 → l ≢ 7 → flog_word laid a l 0 0 ≡ l → flog_word laid a l 0 1 ≡ 60 + l → flog_word laid a l 0 3 ≡ 1
      → flog_word laid a l 1 3 ≡ 0 → pending laid a l ≡ false
  unfolding newer block_of
  fresh-lane l u n s o p q =
      pending_by l 0 l (60 + l) 0 (newer_of l 1 0 p q) s o (map_other l u n) ∙ ne_eqb l (60 + l) (λ e. omega arith)

-- ---- the three cases, of a sequence x of lane 0's first half that is 1 or 0

abbrev half7 : List ℕ
half7 = 7 ∷ 7 ∷ 60 ∷ 2 ∷ []

module _ (w x : ℕ) (small : w < 4294967296) (first : newer x 2 ≡ 1) (below : Below 4294967296 (flog_words x half7 unset)) where
  abbrev c : List ℕ
  c = found w x half7 unset

  word_c : (k : ℕ) → k < 64 → word c (10240 + k) ≡ get_or (flog_words x half7 unset) k 0
  word_c = flog_at w x half7 unset small refl below

  newer_0 : newer_half laid c 0 ≡ 1
  unfolding layout_of fresh_figures internal_of
  newer_0 = newer_of w x half7 unset small refl below 0 x 2 (word_c 3 (omega arith)) (word_c 7 (omega arith)) ∙ first

  pending_0 : pending laid c 0 ≡ eqb (block_of 7 w) 7
  unfolding layout_of fresh_figures internal_of
  pending_0 =
      pending_by w x half7 unset small refl below 0 1 7 7 w newer_0 (word_c 4 (omega arith)) (word_c 5 (omega arith))
      (map_7 w x half7 unset small refl below)

  free_0 : free_of laid c 0 ≡ 7
  unfolding layout_of fresh_figures internal_of
  free_0 = rw newer_0 (word_c 5 (omega arith))

  pending_1 : pending laid c 1 ≡ false
  unfolding layout_of fresh_figures internal_of
  pending_1 =
      fresh-lane w x half7 unset small refl below 1 (omega arith) (λ e. omega arith) (word_c 16 (omega arith)) (word_c 17 (omega arith))
      (word_c 19 (omega arith)) (word_c 23 (omega arith))

  pending_2 : pending laid c 2 ≡ false
  unfolding layout_of fresh_figures internal_of
  pending_2 =
      fresh-lane w x half7 unset small refl below 2 (omega arith) (λ e. omega arith) (word_c 32 (omega arith)) (word_c 33 (omega arith))
      (word_c 35 (omega arith)) (word_c 39 (omega arith))

  pending_3 : pending laid c 3 ≡ false
  unfolding layout_of fresh_figures internal_of
  pending_3 =
      fresh-lane w x half7 unset small refl below 3 (omega arith) (λ e. omega arith) (word_c 48 (omega arith)) (word_c 49 (omega arith))
      (word_c 51 (omega arith)) (word_c 55 (omega arith))

  -- lane 0 pending: its map word gets flags 11 and block 60
  mended_0 : pending laid c 0 ≡ true → map_word laid (mended laid c) 7 ≡ 0xC000003C
  unfolding mends put_all layout_of fresh_figures internal_of
  mended_0 p =
      let s : newer_word laid c 0 0 ≡ 7 = rw newer_0 (word_c 4 (omega arith)) in
      let n : newer_word laid c 0 2 ≡ 60 = rw newer_0 (word_c 6 (omega arith)) in
      rw (p, pending_1, pending_2, pending_3, s, n)
      (word-put_word_same c 9223 0xC000003C (omega (arith, size_a w x half7 unset small refl below)) (omega arith))

case_6 : (x : ℕ) → newer x 2 ≡ 1 → Below 4294967296 (flog_words x half7 unset) → AllDue (case6 x)
unfolding block_of
case_6 x f b =
    let p = pending_0 0 x (omega arith) f b in
    (rw p, (mended_0 0 x (omega arith) f b p, (free_0 0 x (omega arith) f b, tt)))

case_7 : (x : ℕ) → newer x 2 ≡ 1 → Below 4294967296 (flog_words x half7 unset) → AllDue (case7 x)
unfolding block_of
case_7 x f b =
    let w : ℕ = 0xC000003C in
    let u : w < 4294967296 = omega arith in
    let p = pending_0 w x u f b in
    let q = pending_1 w x u f b in
    let r = pending_2 w x u f b in
    let s = pending_3 w x u f b in
    (rw p, (none-mended w x half7 unset u refl b p q r s, (free_0 w x u f b, tt)))

-- ---- case 8

abbrev half8 : List ℕ
half8 = 7 ∷ 60 ∷ 61 ∷ 2 ∷ []

abbrev d : List ℕ
d = found 0xC000003D 1 half7 half8

below_8 : Below 4294967296 (flog_words 1 half7 half8)
below_8 = below_test 4294967296 (flog_words 1 half7 half8) (omega arith) refl

word-d : (k : ℕ) → k < 64 → word d (10240 + k) ≡ get_or (flog_words 1 half7 half8) k 0
word-d = flog_at 0xC000003D 1 half7 half8 (omega arith) refl below_8

newer-d : (l : ℕ) → flog_word laid d l 0 3 ≡ 1 → flog_word laid d l 1 3 ≡ 2 → newer_half laid d l ≡ 1
unfolding newer successor
newer-d l e f = newer_of 0xC000003D 1 half7 half8 (omega arith) refl below_8 l 1 2 e f

newer_d0 : newer_half laid d 0 ≡ 1
unfolding layout_of fresh_figures internal_of
newer_d0 = newer-d 0 (word-d 3 (omega arith)) (word-d 7 (omega arith))

newer_d1 : newer_half laid d 1 ≡ 1
unfolding layout_of fresh_figures internal_of
newer_d1 = newer-d 1 (word-d 19 (omega arith)) (word-d 23 (omega arith))

named-d : (l o : ℕ) → newer_half laid d l ≡ 1 → flog_word laid d l 1 0 ≡ 7 → flog_word laid d l 1 1 ≡ o
    → pending laid d l ≡ eqb 61 o
unfolding block_of
named-d l o n s e =
    pending_by 0xC000003D 1 half7 half8 (omega arith) refl below_8 l 1 7 o 0xC000003D n s e
    (map_7 0xC000003D 1 half7 half8 (omega arith) refl below_8)

pending_d0 : pending laid d 0 ≡ false
unfolding layout_of fresh_figures internal_of
pending_d0 = named-d 0 7 newer_d0 (word-d 4 (omega arith)) (word-d 5 (omega arith))

pending_d1 : pending laid d 1 ≡ false
unfolding layout_of fresh_figures internal_of
pending_d1 = named-d 1 60 newer_d1 (word-d 20 (omega arith)) (word-d 21 (omega arith))

pending_d2 : pending laid d 2 ≡ false
unfolding layout_of fresh_figures internal_of
pending_d2 =
    fresh-lane 0xC000003D 1 half7 half8 (omega arith) refl below_8 2 (omega arith) (λ e. omega arith) (word-d 32 (omega arith))
    (word-d 33 (omega arith)) (word-d 35 (omega arith)) (word-d 39 (omega arith))

pending_d3 : pending laid d 3 ≡ false
unfolding layout_of fresh_figures internal_of
pending_d3 =
    fresh-lane 0xC000003D 1 half7 half8 (omega arith) refl below_8 3 (omega arith) (λ e. omega arith) (word-d 48 (omega arith))
    (word-d 49 (omega arith)) (word-d 51 (omega arith)) (word-d 55 (omega arith))

free_d0 : free_of laid d 0 ≡ 7
unfolding layout_of fresh_figures internal_of
free_d0 = rw newer_d0 (word-d 5 (omega arith))

free_d1 : free_of laid d 1 ≡ 60
unfolding layout_of fresh_figures internal_of
free_d1 = rw newer_d1 (word-d 21 (omega arith))

pub case_8 : AllDue case8
unfolding pending_lanes
case_8 = (
  rw (pending_d0, pending_d1, pending_d2, pending_d3),
  (
    none-mended 0xC000003D 1 half7 half8 (omega arith) refl below_8 pending_d0 pending_d1 pending_d2 pending_d3,
    (free_d0, (free_d1, tt)),
  ),
)

-- cases 6 and 7 at both sequences of lane 0's first half
below_7 : (x : ℕ) → x < 2 → Below 4294967296 (flog_words x half7 unset)
below_7 zero u = below_test 4294967296 (flog_words 0 half7 unset) (omega arith) refl
below_7 (suc zero) u = below_test 4294967296 (flog_words 1 half7 unset) (omega arith) refl
below_7 (suc (suc x)) u = absurd (omega arith)

pub cases_6_and_7 : (x : ℕ) → x < 2 → newer x 2 ≡ 1 → AllDue (case6 x) × AllDue (case7 x)
cases_6_and_7 x u f = (case_6 x f (below_7 x u), case_7 x f (below_7 x u))
