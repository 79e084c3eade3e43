-- What a search over the lanes tells: whether one passes a test.
use mathlib.Core.Path.{◌≡◌, sym, ap, ◌∙◌}
use mathlib.Core.Bool.{Bool, true, false, not}
use Prim.Native.Nat.{ℕ, ◌<◌}
use native.Mathlib.Omega.{arith}
use lib.ListN.{length, get_or}
use Rattle.std.specs.Bool.{MatchBool}
use Rattle.std.specs.List.{AllWithin, HoldsAt, range_with_len}
use Rattle.std.proofs.lemmas.List.FromFn.{length-range_with_len, get_or-range_with_len}
use Rattle.format.specs.Tests.{every, some}
use Rattle.format.proofs.Tests.{every_intro, every_fails, some_intro, some-found}

module _ (n : ℕ) (t : ℕ → Bool) where
  -- the search over the numbers below n ended at one that is b, or passed them all
  abbrev pub Searched : Bool → Bool → Bool → Type 0
  Searched found passed r = MatchBool r ((k : ℕ) × (k < length (range_with_len 0 n)) × HoldsAt (λ x. t x ≡ found) (range_with_len 0 n) k)
      (AllWithin (λ x. t x ≡ passed) (range_with_len 0 n) 0 (length (range_with_len 0 n)))

  at : (b : Bool) (k : ℕ) → k < n → ((d : ℕ) → t (get_or (range_with_len 0 n) k d) ≡ b) → t k ≡ b
  at b k p h =
      let e : get_or (range_with_len 0 n) k 0 ≡ k = get_or-range_with_len 0 n k 0 p ∙ omega arith in
      ap t (sym e) ∙ h 0

  pub some_told : (r : Bool) → Searched true false r → r ≡ some n t
  some_told true h =
      let p : h.0 < n = rw length-range_with_len at h.1 in
      sym (some-found n t h.0 p (at true h.0 p h.2))
  some_told false h = sym (some_intro n t (λ k p. at false k p (λ d. h k d (omega arith) (rw length-range_with_len p))))

  pub lost_told : (r : Bool) → Searched false true r → r ≡ not (every n t)
  lost_told true h =
      let p : h.0 < n = rw length-range_with_len at h.1 in
      sym (ap not (every_fails n t h.0 p (at false h.0 p h.2)))
  lost_told false h = sym (ap not (every_intro n t (λ k p. at true k p (λ d. h k d (omega arith) (rw length-range_with_len p)))))
