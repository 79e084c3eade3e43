-- The padding of a lane: a byte is in no half exactly if its word is, and no place that a write stores to is there.
use mathlib.Core.Path.{◌≡◌}
use mathlib.Core.Logic.{◌≢◌, ◌⊎◌, inl, inr, ⊎_elim}
use mathlib.Core.Bool.{true, ◌||◌}
use Prim.Native.Nat.{ℕ, zero, suc, ◌+◌, ◌*◌, ◌/◌, ◌≤◌, ◌<◌}
use native.Mathlib.Omega.{arith}
use lib.Arith.{digits_lt}
use lib.Dec.{leb, ltb}
use borrow.Author.Tests.{leb-true, le-leb, ltb-true, lt-ltb}
use Rattle.format.proofs.Tests.{and_elim, and_intro, or-true, true_or}
use Rattle.layout.specs.Claims.{InPadding}
use Rattle.layout.specs.Place.{Layout, LayoutOk, Place, in_data, in_map, in_flog, at, InRange, lane_word_at, half_words, is_padding}
use Rattle.layout.specs.Told.{DistanceOk}

-- word k of a lane is in no half
abbrev pub WordPadding : ℕ → ℕ → Type 0
WordPadding d k = (half_words ≤ k) × ((k < d) ⊎ (d + half_words ≤ k))

pub padding_is : (d k : ℕ) → is_padding d k ≡ true → WordPadding d k
padding_is d k e =
    let p = and_elim (leb half_words k) (ltb k d || leb (d + half_words) k) e in (
      leb-true half_words k p.0,
      ⊎_elim (λ u. inl (ltb-true k d u)) (λ u. inr (leb-true (d + half_words) k u)) (or-true (ltb k d) (leb (d + half_words) k) p.1),
    )

pub is-padding : (d k : ℕ) → WordPadding d k → is_padding d k ≡ true
is-padding d k p =
    and_intro (leb half_words k) (ltb k d || leb (d + half_words) k) (le-leb half_words k p.0)
    (true_or (ltb k d) (leb (d + half_words) k) (⊎_elim (λ u. inl (lt-ltb k d u)) (λ u. inr (le-leb (d + half_words) k u)) p.1))

-- in bytes
module _ (d j : ℕ) (ok : DistanceOk d) where
  pub padding_byte : is_padding (d / 4) (j / 4) ≡ true → InPadding d j
  padding_byte e =
      let p = padding_is (d / 4) (j / 4) e in
      (omega (arith, p.0), ⊎_elim (λ u. inl (omega arith)) (λ u. inr (omega (arith, ok.words))) p.1)

  pub byte_padding : InPadding d j → is_padding (d / 4) (j / 4) ≡ true
  byte_padding p =
      is-padding (d / 4) (j / 4)
      (omega (arith, p.0), ⊎_elim (λ u. inl (omega (arith, ok.words))) (λ u. inr (omega arith)) p.1)

-- no place that a write stores to is there
module _ (g : Layout) (o : LayoutOk g) (l k : ℕ) (u : l < g.N) (v : k < 16) (e : is_padding g.D k ≡ true) where
  pub padding_apart : (p : Place) → InRange g p → at g p ≢ lane_word_at g l k
  padding_apart (in_data b i) r q =
      let s : b * g.Z + i < g.I * g.Z = digits_lt r.0 (omega arith) in absurd (omega arith)
  padding_apart (in_map s) r q = absurd (omega arith)
  padding_apart (in_flog j zero i) r q = let p = padding_is g.D k e in omega (arith, p.0)
  padding_apart (in_flog j (suc zero) i) r q =
      let p = padding_is g.D k e in ⊎_elim (λ w. omega (arith, p.0)) (λ w. omega (arith, p.0)) p.1
  padding_apart (in_flog j (suc (suc h)) i) r q = absurd (omega arith)
