-- What holds of every member of a list, by what the list is made of; and lists of one member or none.
use mathlib.Core.Path.{◌≡◌, refl}
use mathlib.Core.Logic.{⊎_elim}
use mathlib.Core.Bool.{Bool, true, false, cond}
use mathlib.Core.List.Memᴰ
use mathlib.Core.List.{List, [], ◌∷◌, ◌++◌, Memᴰ}
use Prim.Native.Nat.{ℕ, zero, suc}
use lib.ListN.{length, replicate}

module _ {A : Type 0} (P : A → Type 0) where
  abbrev pub Each : List A → Type 0
  Each xs = (x : A) → Memᴰ x xs → P x

  pub each_none : Each []
  each_none x m = absurd (Memᴰ.not-nil m)

  pub each_more : (y : A) (xs : List A) → P y → Each xs → Each (y ∷ xs)
  each_more y xs p q x m = ⊎_elim (λ e. rw e p) (q x) (Memᴰ.cases_cons m)

  pub each_one : (y : A) → P y → Each (y ∷ [])
  each_one y p = each_more y [] p each_none

  pub each_append : (xs ys : List A) → Each xs → Each ys → Each (xs ++ ys)
  each_append xs ys p q x m = ⊎_elim (p x) (q x) (Memᴰ.append_cases xs m)

  pub each_replicate : (n : ℕ) (y : A) → P y → Each (replicate n y)
  each_replicate zero y p = each_none
  each_replicate (suc n) y p = each_more y (replicate n y) p (each_replicate n y p)

-- a list of one member or none, by a test
module _ {A : Type 0} (y : A) where
  pub one_length : (t : Bool) → length (cond t (y ∷ []) []) ≡ cond t 1 0
  one_length true = refl
  one_length false = refl

  pub one_out : (t : Bool) (x : A) → Memᴰ x (cond t (y ∷ []) []) → (t ≡ true) × (x ≡ y)
  one_out true x m = (refl, Memᴰ.eq_of_singleton m)
  one_out false x m = absurd (Memᴰ.not-nil m)
