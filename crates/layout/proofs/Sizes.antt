-- The table of sizes: what holds of each of its pairs holds of every sector size and its internal size. And S, E and lanes, taken apart.
use mathlib.Core.Path.{◌≡◌, refl}
use mathlib.Core.Logic.{◌≢◌}
use mathlib.Core.Bool.{Bool, true}
use mathlib.Core.List.{List, [], ◌∷◌}
use Prim.Native.Nat.{ℕ, ◌%◌, ◌≤◌}
use native.Mathlib.Decide.{ℕ_discrete}
use lib.Dec.{eqb, leb}
use borrow.Author.Tests.{eqb-true, eqb-false, leb-true, eq-eqb, ne_eqb, le-leb, not-true}
use Rattle.layout.specs.Sizes.{size_table, beside, internal_of, size_allowed, max_size}
use Rattle.layout.specs.Figures.{max_lanes, sizes_allowed}
use Rattle.format.specs.Tests.{all_of}
use Rattle.format.proofs.Tests.{all_elim}

-- P of each pair of a table
abbrev pub Pairs : (ℕ → ℕ → Type 0) → List (ℕ × ℕ) → Type 0
Pairs P [] = Unit {0}
Pairs P (p ∷ ps) = P p.0 p.1 × Pairs P ps

beside_is : (P : ℕ → ℕ → Type 0) (ps : List (ℕ × ℕ)) (n : ℕ) → Pairs P ps → beside ps n ≢ 0 → P n (beside ps n)
beside_is P [] n h e = absurd (e refl)
beside_is P (p ∷ ps) n h e = go (beside_is P ps n h.1) (ℕ_discrete n p.0)
  where
    go : (beside ps n ≢ 0 → P n (beside ps n)) → Dec (n ≡ p.0) → P n (beside (p ∷ ps) n)
    go later (yes q) = rw (eq-eqb n p.0 q) (rw q h.0)
    go later (no q) = rw (ne_eqb n p.0 q) (later (λ z. e (rw (ne_eqb n p.0 q) z)))

-- of a sector size and its internal size
pub by_table : (P : ℕ → ℕ → Type 0) → Pairs P size_table → (size : ℕ) → size_allowed size ≡ true → P size (internal_of size)
unfolding internal_of
by_table P h size e = beside_is P size_table size h (eqb-false (beside size_table size) 0 (not-true _ e))

-- what is reckoned with of the two sizes: they are whole words, a sector fits its block, and both are bounded
pub record Fitting (S Z : ℕ) : Type 0 where
  pub words : S % 4 ≡ 0
  pub block_words : Z % 4 ≡ 0
  pub least : 512 ≤ S
  pub fits : S ≤ Z
  pub most : S ≤ max_size
  pub block_most : Z ≤ 8192

fitting : ℕ → ℕ → Bool
fitting S Z = all_of (eqb (S % 4) 0 ∷ eqb (Z % 4) 0 ∷ leb 512 S ∷ leb S Z ∷ leb S max_size ∷ leb Z 8192 ∷ [])

pub size_fitting : (size : ℕ) → size_allowed size ≡ true → Fitting size (internal_of size)
unfolding fitting
size_fitting size e =
    let z = internal_of size in
    let h = all_elim (eqb (size % 4) 0 ∷ eqb (z % 4) 0 ∷ leb 512 size ∷ leb size z ∷ leb size max_size ∷ leb z 8192 ∷ [])
    (by_table (λ S Z. fitting S Z ≡ true) (refl, (refl, (refl, (refl, (refl, tt))))) size e) in
    record {
      words = eqb-true _ _ h.0;
      block_words = eqb-true _ _ h.1.0;
      least = leb-true _ _ h.1.1.0;
      fits = leb-true _ _ h.1.1.1.0;
      most = leb-true _ _ h.1.1.1.1.0;
      block_most = leb-true _ _ h.1.1.1.1.1.0;
    }

-- S, E and lanes
pub sizes_of : (size sectors lanes : ℕ) → sizes_allowed size sectors lanes ≡ true
    → (size_allowed size ≡ true) × (lanes ≤ sectors) × (1 ≤ lanes) × (lanes ≤ max_lanes)
sizes_of size sectors lanes e =
    let h = all_elim (size_allowed size ∷ leb lanes sectors ∷ leb 1 lanes ∷ leb lanes max_lanes ∷ []) e in
    (h.0, leb-true _ _ h.1.0, leb-true _ _ h.1.1.0, leb-true _ _ h.1.1.1.0)

pub of_sizes : (size sectors lanes : ℕ) → size_allowed size ≡ true → lanes ≤ sectors → 1 ≤ lanes → lanes ≤ max_lanes
    → sizes_allowed size sectors lanes ≡ true
of_sizes size sectors lanes a b c d = rw (a, le-leb _ _ b, le-leb _ _ c, le-leb _ _ d)
