-- After counting, a byte holds how often its number was met, 2 standing for more. So the bytes tell the counts.
use mathlib.Core.Path.{◌≡◌, refl, sym, ap, ◌∙◌}
use mathlib.Core.Bool.{Bool, true, false, cond, ◌&&◌}
use mathlib.Core.List.{List}
use Prim.Native.Nat.{ℕ, zero, suc, ◌+◌, ◌<◌}
use native.Mathlib.Omega.{arith}
use native.Mathlib.Numerals.{add-one}
use lib.Dec.{eqb, leb}
use lib.ListN.{length, get_or, replicate, length-set, length-replicate, get_or-replicate}
use lib.Seq.{get_or-set_same, get_or-set_other}
use borrow.Author.Tests.{eqb-true, eqb-false, ne_eqb, lt-leb}
use Rattle.format.specs.Tests.{every}
use Rattle.format.proofs.Tests.{every_zero, every_step, every_same}
use Rattle.machine.specs.calls.Opening.{count}
use Rattle.once.specs.Once.{bumped, counted, counts_between, Under}

-- 0, 1, and 2 for more
abbrev capped : ℕ → ℕ
capped zero = 0
capped (suc zero) = 1
capped (suc (suc n)) = 2

capped_more : (n : ℕ) → cond (eqb (capped n) 0) 1 2 ≡ capped (n + 1)
capped_more n = rw add-one (go n)
  where
    go : (n : ℕ) → cond (eqb (capped n) 0) 1 2 ≡ capped (suc n)
    go zero = refl
    go (suc zero) = refl
    go (suc (suc n)) = refl

capped_most : (n : ℕ) → leb 0 (capped n) && leb (capped n) 1 ≡ leb n 1
capped_most zero = refl
capped_most (suc zero) = refl
capped_most (suc (suc n)) = sym (lt-leb (suc (suc n)) 1 (omega arith))

capped_one : (n : ℕ) → leb 1 (capped n) && leb (capped n) 1 ≡ eqb n 1
capped_one zero = refl
capped_one (suc zero) = refl
capped_one (suc (suc n)) = sym (ne_eqb (suc (suc n)) 1 (λ e. omega arith))

length-bumped : (w : List ℕ) (x : ℕ) → length (bumped w x) ≡ length w
unfolding bumped
length-bumped w x = simp length-set

pub length-counted : (w : List ℕ) (n : ℕ) (f : ℕ → ℕ) → length (counted w n f) ≡ length w
unfolding counted
length-counted w zero f = refl
length-counted w (suc n) f = length-bumped (counted w n f) (f n) ∙ length-counted w n f

-- a turn of a loop that counts the values of f
pub counted_none : (w : List ℕ) (f : ℕ → ℕ) → w ≡ counted w 0 f
unfolding counted
counted_none w f = refl

pub counted_more : (w v u : List ℕ) (n x : ℕ) (f : ℕ → ℕ) → v ≡ counted w n f → x ≡ f n → u ≡ bumped v x → u ≡ counted w (n + 1) f
unfolding counted
counted_more w v u n x f p q r = rw (add-one, ← p, ← q) r

bump_same : (w : List ℕ) (x : ℕ) → x < length w → get_or (bumped w x) x 0 ≡ cond (eqb (get_or w x 0) 0) 1 2
unfolding bumped
bump_same w x h = get_or-set_same w x _ 0 h

bump_other : (w : List ℕ) (x b : ℕ) → (b ≡ x → ⊥) → get_or (bumped w x) b 0 ≡ get_or w b 0
unfolding bumped
bump_other w x b h = get_or-set_other w x b _ 0 h

-- counts add up
get_d_counted : (w : List ℕ) (n : ℕ) (f : ℕ → ℕ) (b k : ℕ) → Under f n (length w) → get_or w b 0 ≡ capped k
    → get_or (counted w n f) b 0 ≡ capped (k + count n f b)
unfolding counted count
get_d_counted w zero f b k h e = let z : k + 0 ≡ k = omega arith in rw z e
get_d_counted w (suc n) f b k h e = by_cases (eqb b (f n)) refl (get_d_counted w n f b k (λ i p. h i (omega arith)) e)
  where
    inside : f n < length (counted w n f)
    inside = rw length-counted (h n (omega arith))

    by_cases : (t : Bool) → eqb b (f n) ≡ t → get_or (counted w n f) b 0 ≡ capped (k + count n f b)
        → get_or (bumped (counted w n f) (f n)) b 0 ≡ capped (k + (count n f b + cond t 1 0))
    by_cases true q before =
        let z : k + (count n f b + 1) ≡ k + count n f b + 1 = omega arith in
        let s : b ≡ f n = eqb-true b (f n) q in
        ap (λ (x : ℕ). get_or (bumped (counted w n f) (f n)) x 0) s ∙ bump_same (counted w n f) (f n) inside
        ∙ ap (λ (x : ℕ). cond (eqb x 0) 1 2) (ap (λ (x : ℕ). get_or (counted w n f) x 0) (sym s) ∙ before)
        ∙ capped_more (k + count n f b) ∙ ap capped (sym z)
    by_cases false q before =
        let z : k + (count n f b + 0) ≡ k + count n f b = omega arith in
        rw z (bump_other (counted w n f) (f n) b (eqb-false b (f n) q) ∙ before)

-- m zeroes
module _ (m : ℕ) where
  pub inside : (n : ℕ) (f : ℕ → ℕ) → Under f n m → Under f n (length {A = ℕ} (replicate m 0))
  inside n f h i p = rw length-replicate (h i p)

  -- the bytes after one round
  get_d_once : (n : ℕ) (f : ℕ → ℕ) → Under f n m → (b : ℕ) → b < m → get_or (counted (replicate m 0) n f) b 0 ≡ capped (count n f b)
  get_d_once n f h b p =
      let z : 0 + count n f b ≡ count n f b = omega arith in
      rw z at (get_d_counted (replicate m 0) n f b 0 (inside n f h) (get_or-replicate m b 0 0 p))

  -- one round: the bytes are at most 1 where the counts are
  pub most_tell : (n : ℕ) (f : ℕ → ℕ) → Under f n m → counts_between (counted (replicate m 0) n f) m 0 1 ≡ every m (λ b. leb (count n f b) 1)
  unfolding counts_between
  most_tell n f h = every_same m _ _ (λ b p. ap (λ (x : ℕ). leb 0 x && leb x 1) (get_d_once n f h b p) ∙ capped_most (count n f b))

  -- two rounds: the bytes are 1 where the counts are 1 together
  pub once_tell : (n k : ℕ) (f g : ℕ → ℕ) → Under f n m → Under g k m
      → counts_between (counted (counted (replicate m 0) n f) k g) m 1 1 ≡ every m (λ b. eqb (count n f b + count k g b) 1)
  unfolding counts_between
  once_tell n k f g h j = every_same m _ _ (λ b p.
      ap (λ (x : ℕ). leb 1 x && leb x 1)
      (get_d_counted (counted (replicate m 0) n f) k g b (count n f b) (rw length-counted (inside k g j)) (get_d_once n f h b p))
      ∙ capped_one (count n f b + count k g b))

-- a turn of the loop that tests the bytes
module _ (w : List ℕ) (low high : ℕ) where
  abbrev within : ℕ → Bool
  within x = leb low x && leb x high

  pub between_none : true ≡ counts_between w 0 low high
  unfolding counts_between
  between_none = sym (every_zero _)

  pub between_more : (i : ℕ) (t : Bool) → t ≡ within (get_or w i 0) → counts_between w i low high && t ≡ counts_between w (i + 1) low high
  unfolding counts_between
  between_more i t e = rw (add-one, every_step, e)
