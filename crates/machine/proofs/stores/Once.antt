-- How often a number is among the first n values of f, and what a change of f at one index does to it. So a write that ends, which swaps
-- a mapped and a free block, leaves every block mapped or free once.
use mathlib.Core.Path.{◌≡◌, refl, sym, ap, ap₂, ◌∙◌}
use mathlib.Core.Logic.{◌≢◌}
use mathlib.Core.Bool.{Bool, true, false, cond}
use Prim.Native.Nat.{ℕ, zero, suc, ◌+◌, ◌≤◌, ◌<◌}
use native.Mathlib.Omega.{arith}
use native.Mathlib.Decide.{ℕ_discrete}
use lib.Dec.{eqb}
use borrow.Author.Tests.{eqb-true, eq-eqb}
use Rattle.layout.specs.Place.{Layout}
use Rattle.format.proofs.Tests.{every_intro, every_elim}
use Rattle.machine.specs.calls.Opening.{count, each_once}

pub at_most_one : (t : Bool) → cond t 1 0 ≤ 1
at_most_one true = omega arith
at_most_one false = omega arith

-- 1 where the two are the same, else 0
unfoldable pub hit : ℕ → ℕ → ℕ
hit b x = cond (eqb b x) 1 0

hit_self : (b x : ℕ) → b ≡ x → hit b x ≡ 1
unfolding hit
hit_self b x e = rw (eq-eqb b x e)

pub hit_eq : (b x : ℕ) → 0 < hit b x → b ≡ x
unfolding hit
hit_eq b x h = go (eqb b x) (eqb-true b x) h
  where
    go : (t : Bool) → (t ≡ true → b ≡ x) → 0 < cond t 1 0 → b ≡ x
    go true f _ = f refl
    go false f k = absurd (omega arith)

pub count_suc : (n : ℕ) (f : ℕ → ℕ) (b : ℕ) → count (suc n) f b ≡ count n f b + hit b (f n)
unfolding count hit
count_suc n f b = refl

-- counts of two functions that agree below n
pub count_same : (n : ℕ) (f f' : ℕ → ℕ) (b : ℕ) → ((i : ℕ) → i < n → f' i ≡ f i) → count n f' b ≡ count n f b
unfolding count hit
count_same zero f f' b e = refl
count_same (suc n) f f' b e = ap₂ (λ x y. x + hit b y) (count_same n f f' b (λ i h. e i (omega arith))) (e n (omega arith))

-- a change at one index
pub count_change : (n : ℕ) (f f' : ℕ → ℕ) (b j : ℕ) → j < n → ((i : ℕ) → i < n → i ≢ j → f' i ≡ f i)
    → count n f' b + hit b (f j) ≡ count n f b + hit b (f' j)
count_change zero f f' b j h e = absurd (omega arith)
count_change (suc n) f f' b j h e =
    rw (count_suc n f' b, count_suc n f b) (go (ℕ_discrete j n) (λ k. count_change n f f' b j k (λ i l. e i (omega arith))))
  where
    go : Dec (j ≡ n) → (j < n → count n f' b + hit b (f j) ≡ count n f b + hit b (f' j))
        → count n f' b + hit b (f' n) + hit b (f j) ≡ count n f b + hit b (f n) + hit b (f' j)
    go (yes p) ih =
        let c : count n f' b ≡ count n f b = count_same n f f' b (λ i l. e i (omega arith) (omega arith)) in
        omega (arith, ap (λ k. hit b (f k)) p, ap (λ k. hit b (f' k)) p)
    go (no p) ih =
        let k : f' n ≡ f n = e n (omega arith) (λ q. p (sym q)) in
        omega (arith, ih (omega arith), ap (hit b) k)

-- a value below n counts
pub count_pos : (n : ℕ) (f : ℕ → ℕ) (b i : ℕ) → i < n → f i ≡ b → 0 < count n f b
count_pos zero f b i h e = absurd (omega arith)
count_pos (suc n) f b i h e = rw (count_suc n f b) (go (ℕ_discrete i n) (λ k. count_pos n f b i k e))
  where
    go : Dec (i ≡ n) → (i < n → 0 < count n f b) → 0 < count n f b + hit b (f n)
    go (yes p) ih = omega (arith, hit_self b (f n) (sym e ∙ ap f p))
    go (no p) ih = omega (arith, ih (omega arith))

-- two equal values at two indexes count twice
pub count_two : (n : ℕ) (f : ℕ → ℕ) (b i j : ℕ) → i < n → j < n → i ≢ j → f i ≡ b → f j ≡ b → 1 < count n f b
count_two zero f b i j h k d e e' = absurd (omega arith)
count_two (suc n) f b i j h k d e e' =
    rw (count_suc n f b) (go (ℕ_discrete i n) (ℕ_discrete j n) (λ l m. count_two n f b i j l m d e e'))
  where
    at_n : (x : ℕ) → x ≡ n → f x ≡ b → hit b (f n) ≡ 1
    at_n x p q = hit_self b (f n) (sym q ∙ ap f p)

    go : Dec (i ≡ n) → Dec (j ≡ n) → (i < n → j < n → 1 < count n f b) → 1 < count n f b + hit b (f n)
    go (yes p) (yes q) ih = absurd (d (p ∙ sym q))
    go (yes p) (no q) ih = omega (arith, at_n i p e, count_pos n f b j (omega arith) e')
    go (no p) (yes q) ih = omega (arith, at_n j q e', count_pos n f b i (omega arith) e)
    go (no p) (no q) ih = omega (arith, ih (omega arith) (omega arith))

-- a counted value stands at some index
pub count_where : (n : ℕ) (f : ℕ → ℕ) (b : ℕ) → 0 < count n f b → (i : ℕ) × (i < n) × (f i ≡ b)
unfolding count
count_where zero f b h = absurd (omega arith)
count_where (suc n) f b h = go (ℕ_discrete (hit b (f n)) 0) (rw (count_suc n f b) at h) (λ k. count_where n f b k)
  where
    go : Dec (hit b (f n) ≡ 0) → 0 < count n f b + hit b (f n) → (0 < count n f b → (i : ℕ) × (i < n) × (f i ≡ b))
        → (i : ℕ) × (i < suc n) × (f i ≡ b)
    go (yes p) h ih = let r = ih (omega arith) in (r.0, omega (arith, r.1), r.2)
    go (no p) h ih = (n, omega arith, sym (hit_eq b (f n) (omega arith)))

-- a value that counts at most once stands at one index
pub count_one : (n : ℕ) (f : ℕ → ℕ) (b i j : ℕ) → count n f b ≤ 1 → i < n → j < n → f i ≡ b → f j ≡ b → i ≡ j
count_one n f b i j c h k e e' = go (ℕ_discrete i j)
  where
    go : Dec (i ≡ j) → i ≡ j
    go (yes p) = p
    go (no p) = absurd (omega (arith, count_two n f b i j h k p e e'))

-- the values of m below E and those of f below N are the numbers below I, each once
unfoldable pub Once : ℕ → ℕ → ℕ → (ℕ → ℕ) → (ℕ → ℕ) → Type 0
Once I E N m f = (b : ℕ) → b < I → count E m b + count N f b ≡ 1

module _ (I E N : ℕ) (m f : ℕ → ℕ) (once : Once I E N m f) where
  -- a free block is not mapped
  pub free_unmapped : (s l : ℕ) → s < E → l < N → f l < I → m s ≢ f l
  unfolding Once
  free_unmapped s l h k i e = absurd (omega (arith, once (f l) i, count_pos E m (f l) s h e, count_pos N f (f l) l k refl))

  pub free-apart : (l l' : ℕ) → l < N → l' < N → f l < I → l ≢ l' → f l ≢ f l'
  unfolding Once
  free-apart l l' h k i d e = absurd (omega (arith, once (f l) i, count_two N f (f l) l l' h k d refl (sym e)))

  -- a write that ends: its sector is mapped to the lane's free block, and the block that it was mapped to is the lane's
  pub swap_once : (m' f' : ℕ → ℕ) (s l : ℕ) → s < E → l < N
      → ((i : ℕ) → i < E → i ≢ s → m' i ≡ m i) → m' s ≡ f l → ((i : ℕ) → i < N → i ≢ l → f' i ≡ f i) → f' l ≡ m s
      → Once I E N m' f'
  unfolding Once
  swap_once m' f' s l hs hl em e ef e' b i =
      omega (arith, once b i, count_change E m m' b s hs em, count_change N f f' b l hl ef, ap (hit b) e, ap (hit b) e')

pub once_same : (I E N : ℕ) (m f m' f' : ℕ → ℕ) → ((i : ℕ) → i < E → m' i ≡ m i) → ((i : ℕ) → i < N → f' i ≡ f i)
    → Once I E N m f → Once I E N m' f'
unfolding Once
once_same I E N m f m' f' em ef once b i = ap₂ (λ x y. x + y) (count_same E m m' b em) (count_same N f f' b ef) ∙ once b i

-- the same as opening tests it
pub once_of : (g : Layout) (m f : ℕ → ℕ) → each_once g m f ≡ true → Once g.I g.E g.N m f
unfolding each_once Once
once_of g m f e b u = eqb-true _ _ (every_elim g.I (λ b. eqb (count g.E m b + count g.N f b) 1) e b u)

pub of_once : (g : Layout) (m f : ℕ → ℕ) → Once g.I g.E g.N m f → each_once g m f ≡ true
unfolding each_once Once
of_once g m f once = every_intro g.I (λ b. eqb (count g.E m b + count g.N f b) 1) (λ b u. eq-eqb _ _ (once b u))
