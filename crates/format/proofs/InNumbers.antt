-- Map words, sequence numbers and halves by plain numbers: the tests of the definitions taken apart, the set numbers tried one by one.
use mathlib.Core.Path.{◌≡◌, refl, sym, ap₂}
use mathlib.Core.Logic.{inl, inr}
use mathlib.Core.Bool.{Bool, true, false, cond, not}
use mathlib.Core.List.{List}
use Prim.Native.Nat.{ℕ, ◌+◌, ◌-◌, ◌*◌, ◌≤◌}
use native.Mathlib.Omega.{arith}
use native.Mathlib.Nat.{div-add-mod'}
use native.Mathlib.Decide.{dec_le}
use lib.Dec.{eqb, leb}
use borrow.Author.Tests.{ne_eqb, eqb-true, eqb-false, leb-true, le-leb, not-true}
use Rattle.words.specs.Bytes.{byte_word}
use Rattle.words.proofs.Bytes.{word_at}
use Rattle.format.specs.MapWord.{flags_of, low_bits, reading_of, block_of, bad_word, sloppy_word}
use Rattle.format.specs.Sequence.{successor, newer}
use Rattle.format.specs.Flog.{newer_of_pair, half_at}
use Rattle.format.specs.Claims.{Bit30Alone, named_block, BadWord, SloppyWord, Means, MapWordsClaim, NewerThan, HalfFrom, FlogClaim}
use Rattle.format.proofs.Tests.{true_false, by_bool, and_elim}
use Rattle.format.proofs.NewerCases.{
  newer_big,
  newer_big_second,
  newer_same,
  newer-unset,
  newer-unset_second,
  newer-next,
  newer-first,
  up_to3,
}
use Rattle.format.proofs.MapWord.{block_mapped, block_zero, flags_mapped, is-sloppy, sloppy_is}

-- a word of which the flags are known, and are set
word_is : (s w n r b : ℕ) → flags_of w ≡ n → 1 ≤ n → reading_of n ≡ r → low_bits w ≡ b → Means s w r b
unfolding block_of
word_is s w n r b e u f g = record { reads = rw e f; block = rw (ne_eqb w 0 (λ z. omega arith)) g }

block_named : (s w : ℕ) → block_of s w ≡ named_block s w
unfolding block_of
block_named s w = refl

rule_7 : (blocks w : ℕ) → bad_word blocks w ≡ true → BadWord blocks w
rule_7 blocks w e =
    let p = and_elim (not (eqb (flags_of w) 0)) (leb blocks (low_bits w)) e in
    let n = eqb-false (flags_of w) 0 (not-true (eqb (flags_of w) 0) p.0) in
    (omega arith, leb-true blocks (low_bits w) p.1)

rule_18 : (w : ℕ) → sloppy_word w ≡ true → SloppyWord w
rule_18 w e = let p = is-sloppy (flags_of w) (low_bits w) e in (omega (arith, p.0), omega (arith, p.1))

rule_18_back : (w : ℕ) → SloppyWord w → sloppy_word w ≡ true
rule_18_back w u = sloppy_is (flags_of w) (low_bits w) (omega arith) (λ e. omega arith)

-- where a rule's test is not true
not_bad : (blocks w : ℕ) → (BadWord blocks w → ⊥) → bad_word blocks w ≡ false
not_bad blocks w n = by_bool (bad_word blocks w) _ (λ t. absurd (n (rule_7 blocks w t))) (λ t. t)

not_sloppy : (w : ℕ) → (SloppyWord w → ⊥) → sloppy_word w ≡ false
not_sloppy w n = by_bool (sloppy_word w) _ (λ t. absurd (n (rule_18 w t))) (λ t. t)

rule_7_back : (blocks w : ℕ) → BadWord blocks w → bad_word blocks w ≡ true
rule_7_back blocks w b = rw (ne_eqb (flags_of w) 0 (λ e. omega arith), le-leb blocks (low_bits w) b.1)

rule_15 : (w : ℕ) → eqb (reading_of (flags_of w)) 1 ≡ true → Bit30Alone w
rule_15 w e = go (eqb (flags_of w) 3) (eqb (flags_of w) 1) refl e
  where
    go : (t u : Bool) → eqb (flags_of w) 1 ≡ u → eqb (cond t 2 (cond u 1 0)) 1 ≡ true → Bit30Alone w
    go true u p q = true_false (sym q)
    go false true p q = let f = eqb-true (flags_of w) 1 p in (omega arith, omega arith)
    go false false p q = true_false (sym q)

pub map_words : MapWordsClaim
map_words =
    record {
      flags_00 = λ s. record { reads = refl; block = block_zero s };
      flags_01 = λ s w h. word_is s w 1 1 (w - 1073741824) (omega arith) (omega arith) refl (omega arith);
      flags_10 = λ s w h. word_is s w 2 0 (w - 2147483648) (omega arith) (omega arith) refl (omega arith);
      flags_11 = λ s w h. word_is s w 3 2 (w - 3221225472) (omega arith) (omega arith) refl (omega arith);
      states = (refl, refl, refl, refl);
      readings = (refl, refl, refl);
      bits = λ w. div-add-mod' w 1073741824;
      low-bits = λ w. omega arith;
      block = block_named;
      written = λ b. refl;
      written_reads = λ s b h. record { reads = rw (flags_mapped b h); block = block_mapped s b h };
      rule_7 = rule_7;
      rule_7_back = rule_7_back;
      rule_18 = rule_18;
      rule_18_back = rule_18_back;
      fault_7 = λ blocks w b. rw (rule_7_back blocks w b);
      fault_18 = λ blocks w u. rw (not_bad blocks w (λ b. omega (arith, b.0, u.0)), rule_18_back w u);
      fault_none = λ blocks w b u. rw (not_bad blocks w b, not_sloppy w u);
      faults = (refl, refl, refl);
      rule_15 = rule_15;
      rule_15_back = λ w b. let f : flags_of w ≡ 1 = omega arith in rw f;
    }

half_from : (a : List ℕ) (p : ℕ) → HalfFrom a (4 * p) (half_at a p)
unfolding half_at
half_from a p =
    record {
      sector = word_at a p (4 * p) refl;
      old = word_at a (p + 1) (4 * p + 4) (omega arith);
      new = word_at a (p + 2) (4 * p + 8) (omega arith);
      sequence = word_at a (p + 3) (4 * p + 12) (omega arith);
    }

pair_from : (a : List ℕ) (p d : ℕ) → newer_of_pair a p d ≡ newer (byte_word a (4 * p + 12)) (byte_word a (4 * p + 4 * d + 12))
unfolding newer_of_pair
pair_from a p d =
    ap₂ newer (word_at a (p + (0 * d + 3)) (4 * p + 12) (omega arith)) (word_at a (p + (1 * d + 3)) (4 * p + 4 * d + 12) (omega arith))

first-newer : (x y : ℕ) → NewerThan x y → newer x y ≡ 0
unfolding successor
first-newer x y (inl h) = newer-unset_second x y h.2 h.0 (λ e. omega arith)
first-newer x y (inr (inl h)) =
    rw (h.0, h.1) (newer-first 2 1 (omega arith) (omega arith) (omega arith) (omega arith) (omega arith) (omega arith))
first-newer x y (inr (inr (inl h))) =
    rw (h.0, h.1) (newer-first 3 2 (omega arith) (omega arith) (omega arith) (omega arith) (omega arith) (omega arith))
first-newer x y (inr (inr (inr h))) =
    rw (h.0, h.1) (newer-first 1 3 (omega arith) (omega arith) (omega arith) (omega arith) (omega arith) (omega arith))

second_newer : (x y : ℕ) → NewerThan y x → newer x y ≡ 1
unfolding successor
second_newer x y (inl h) = newer-unset x y h.2 h.0 (λ e. omega arith)
second_newer x y (inr (inl h)) = rw (h.0, h.1) (newer-next 1 2 (omega arith) (omega arith) refl)
second_newer x y (inr (inr (inl h))) = rw (h.0, h.1) (newer-next 2 3 (omega arith) (omega arith) refl)
second_newer x y (inr (inr (inr h))) = rw (h.0, h.1) (newer-next 3 1 (omega arith) (omega arith) refl)

-- neither is the newer: two equal numbers, of those up to 3
abbrev None : ℕ → ℕ → Type 0
None x y = (NewerThan x y → ⊥) → (NewerThan y x → ⊥) → newer x y ≡ 2

none_same : (x : ℕ) → x ≤ 3 → None x x
none_same x h a b = newer_same x x h refl

none_first : (x y : ℕ) → NewerThan x y → None x y
none_first x y h a b = absurd (a h)

none_second : (x y : ℕ) → NewerThan y x → None x y
none_second x y h a b = absurd (b h)

none-up_to_3 : (x y : ℕ) → x ≤ 3 → y ≤ 3 → None x y
none-up_to_3 x y h k =
    up_to3 (λ x. None x y)
    (up_to3 (None 0) (none_same 0 (omega arith)) (none_second 0 1 (unset 1 (omega arith) (omega arith)))
    (none_second 0 2 (unset 2 (omega arith) (omega arith))) (none_second 0 3 (unset 3 (omega arith) (omega arith))) y k)
    (up_to3 (None 1) (none_first 1 0 (unset 1 (omega arith) (omega arith))) (none_same 1 (omega arith))
    (none_second 1 2 (inr (inl (refl, refl)))) (none_first 1 3 (inr (inr (inr (refl, refl))))) y k)
    (up_to3 (None 2) (none_first 2 0 (unset 2 (omega arith) (omega arith))) (none_first 2 1 (inr (inl (refl, refl))))
    (none_same 2 (omega arith)) (none_second 2 3 (inr (inr (inl (refl, refl))))) y k)
    (up_to3 (None 3) (none_first 3 0 (unset 3 (omega arith) (omega arith))) (none_second 3 1 (inr (inr (inr (refl, refl)))))
    (none_first 3 2 (inr (inr (inl (refl, refl))))) (none_same 3 (omega arith)) y k)
    x h
  where
    unset : (x : ℕ) → 1 ≤ x → x ≤ 3 → NewerThan x 0
    unset x l u = inl (refl, l, u)

-- a larger number is never the newer
none-newer : (x y : ℕ) → None x y
none-newer x y a b = go (dec_le x 3) (dec_le y 3)
  where
    go : Dec (x ≤ 3) → Dec (y ≤ 3) → newer x y ≡ 2
    go (no h) _ = newer_big x y (omega arith)
    go (yes h) (no k) = newer_big_second x y (omega arith)
    go (yes h) (yes k) = none-up_to_3 x y h k a b

pub flog_claim : FlogClaim
unfolding successor
flog_claim =
    record {
      after_1 = refl;
      after_2 = refl;
      after_3 = refl;
      next = λ x. refl;
      first = first-newer;
      halves = (refl, refl, refl);
      second = second_newer;
      none = none-newer;
      half = half_from;
      pair = pair_from;
    }
