-- Orders of rules, whatever the rules are: two engines that agree rule by rule answer alike, tests that tell of conditions give the first
-- that holds, an answer of 0 passed every rule, an order in two parts, and the way along an order.
use mathlib.Core.Path.{◌≡◌, refl, sym, ◌∙◌}
use mathlib.Core.Logic.{◌≢◌, inl, inr}
use mathlib.Core.Bool.{Bool, true, false, cond, not}
use mathlib.Core.List.{List, [], ◌∷◌, ◌++◌}
use Prim.Native.Nat.{ℕ}
use lib.Dec.{eqb}
use borrow.Author.Tests.{ne_eqb, not-true}
use Rattle.format.proofs.Tests.{true_false, by_bool}
use Rattle.machine.specs.Rules.{answer, FirstOf}

-- ---- along an order: a rule applies, or it does not and the others are asked

pub data Walk {R : Type 0} (number : R → ℕ) (test : R → Bool) : List R → ℕ → Type 0 where
  through : Walk number test [] 0
  stop : {r : R} {rs : List R} → test r ≡ true → Walk number test (r ∷ rs) (number r)
  pass : {r : R} {rs : List R} {n : ℕ} → test r ≡ false → Walk number test rs n → Walk number test (r ∷ rs) n

pub walked : {R : Type 0} {number : R → ℕ} {test : R → Bool} {rs : List R} {n : ℕ} → Walk number test rs n → n ≡ answer number test rs
unfolding answer
walked through = refl
walked (stop e) = rw e
walked (pass e w) = rw e (walked w)

module _ {R : Type 0} (number : R → ℕ) where
  -- ---- an answer of 0

  abbrev pub Passed : (R → Bool) → List R → Type 0
  Passed test [] = Unit {0}
  Passed test (r ∷ rs) = (test r ≡ false) × Passed test rs

  module _ (some : (r : R) → number r ≢ 0) (test : R → Bool) where
    pub passed_all : (rs : List R) → answer number test rs ≡ 0 → Passed test rs
    unfolding answer
    passed_all [] e = tt
    passed_all (r ∷ rs) e = by_bool (test r) _ (λ p. absurd (some r (rw p at e))) (λ p. (p, passed_all rs (rw p at e)))

    -- the answer of an order in two parts
    pub answer_append : (rs ss : List R) → answer number test (rs ++ ss)
        ≡ cond (eqb (answer number test rs) 0) (answer number test ss) (answer number test rs)
    unfolding answer
    answer_append [] ss = refl
    answer_append (r ∷ rs) ss = by_bool (test r) _ (λ p. rw (p, ne_eqb (number r) 0 (some r))) (λ p. rw p (answer_append rs ss))

  -- a number whose rules never apply is not given
  pub answer_not : (test : R → Bool) (n : ℕ) → n ≢ 0 → ((r : R) → number r ≡ n → test r ≡ false) → (rs : List R) → answer number test rs ≢ n
  unfolding answer
  answer_not test n z never [] e = z (sym e)
  answer_not test n z never (r ∷ rs) e =
      by_bool (test r) _ (λ p. true_false (sym p ∙ never r (rw p at e))) (λ p. answer_not test n z never rs (rw p at e))

  -- ---- rules that are asked only where no earlier one applies

  -- what each rule needs is known where no earlier rule applies
  abbrev pub Guarded : (R → Type 0) → (R → Bool) → List R → Type 0
  Guarded needs test [] = Unit {0}
  Guarded needs test (r ∷ rs) = needs r × (test r ≡ false → Guarded needs test rs)

  module _ (needs : R → Type 0) (test : R → Bool) where
    -- two engines that agree rule by rule answer alike
    pub alike : (other : R → Bool) → ((r : R) → needs r → other r ≡ test r) → (rs : List R) → Guarded needs test rs
        → answer number other rs ≡ answer number test rs
    unfolding answer
    alike other agree [] g = refl
    alike other agree (r ∷ rs) g = by_bool (test r) _ (λ e. rw (agree r g.0, e)) (λ e. rw (agree r g.0, e) (alike other agree rs (g.1 e)))

    -- tests that tell of each condition whether it holds give the number of the first that does
    pub first_in : (holds : R → Type 0) → ((r : R) → needs r → (test r ≡ true → holds r) × (holds r → test r ≡ true)) → (rs : List R)
        → Guarded needs test rs → FirstOf number holds rs (answer number test rs)
    unfolding answer
    first_in holds tell [] g = refl
    first_in holds tell (r ∷ rs) g = by_bool (test r) _ (λ e. rw e (inl ((tell r g.0).0 e, refl)))
        (λ e. rw e (inr (λ p. true_false (sym ((tell r g.0).1 p) ∙ e), first_in holds tell rs (g.1 e))))

-- rules that need nothing
pub unguarded : {R : Type 0} (number : R → ℕ) (test : R → Bool) (rs : List R) → Guarded number (λ _. Unit {0}) test rs
unguarded number test [] = tt
unguarded number test (r ∷ rs) = (tt, λ _. unguarded number test rs)

-- a rule that asks for P and tests it: its condition is that P fails
pub asked : {t : Bool} {P : Type 0} → (t ≡ true → P) → (P → t ≡ true) → (not t ≡ true → P → ⊥) × ((P → ⊥) → not t ≡ true)
asked {t} {P} holds test = (
  λ e p. true_false (sym (test p) ∙ not-true t e),
  λ no. by_bool t (not t ≡ true) (λ e. absurd (no (holds e))) (λ e. rw e),
)
