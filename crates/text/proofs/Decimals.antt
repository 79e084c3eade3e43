-- The digits of a number stand for it: of n that has at most k digits the last is n % 10 and those before it are of n / 10.
use mathlib.Core.Path.{◌≡◌, refl}
use mathlib.Core.List.{List, [], ◌∷◌, ◌++◌}
use Prim.Native.Nat.{ℕ, zero, suc, ◌+◌, ◌-◌, ◌*◌, ◌/◌, ◌≤◌, ◌<◌}
use native.Mathlib.Omega.{arith}
use lib.Dec.{ltb}
use lib.ListN.{get_or}
use borrow.Author.Tests.{ltb-true, ltb-false}
use Rattle.format.proofs.Tests.{by_bool}
use Rattle.text.specs.Text.{digits}
use Rattle.text.specs.Claims.{value_from, AllDigits, DecimalClaim}

-- ten to the k
unfoldable power : ℕ → ℕ
power zero = 1
power (suc k) = 10 * power k

-- one digit more
value_append : (n : ℕ) (cs : List ℕ) (c : ℕ) → value_from n (cs ++ (c ∷ [])) ≡ 10 * value_from n cs + (c - 48)
unfolding value_from
value_append n [] c = refl
value_append n (x ∷ cs) c = value_append (10 * n + (x - 48)) cs c

all_append : (cs : List ℕ) (c : ℕ) → AllDigits cs → 48 ≤ c → c ≤ 57 → AllDigits (cs ++ (c ∷ []))
unfolding AllDigits
all_append [] c h u v = (u, v, tt)
all_append (x ∷ cs) c h u v = (h.0, h.1, all_append cs c h.2 u v)

first-append : (cs : List ℕ) (c : ℕ) → 49 ≤ get_or cs 0 0 → 49 ≤ get_or (cs ++ (c ∷ [])) 0 0
first-append [] c h = omega arith
first-append (x ∷ cs) c h = h

value_is : (k n : ℕ) → n < power k → value_from 0 (digits k n) ≡ n
unfolding digits power
value_is zero n h = unfold value_from in (omega arith)
value_is (suc k) n h =
    by_bool (ltb n 10) _
    (λ t. rw (t, value_append) (unfold value_from in (omega (arith, ltb-true n 10 t))))
    (λ t. rw (t, value_append, value_is k (n / 10) (omega arith)) (omega arith))

all_digits : (k n : ℕ) → AllDigits (digits k n)
unfolding digits
all_digits zero n = unfold AllDigits in tt
all_digits (suc k) n =
    by_bool (ltb n 10) _
    (λ t. rw t (all_append [] _ (unfold AllDigits in tt) (omega arith) (omega arith)))
    (λ t. rw t (all_append (digits k (n / 10)) _ (all_digits k (n / 10)) (omega arith) (omega arith)))

first_digit : (k n : ℕ) → 0 < n → n < power k → 49 ≤ get_or (digits k n) 0 0
unfolding digits power
first_digit zero n u h = absurd (omega arith)
first_digit (suc k) n u h =
    by_bool (ltb n 10) _
    (λ t. rw t (omega (arith, ltb-true n 10 t)))
    (λ t. rw t (first-append (digits k (n / 10)) _ (first_digit k (n / 10) (omega (arith, ltb-false n 10 t)) (omega arith))))

pub decimal_claim : DecimalClaim
unfolding power
decimal_claim = record {
  zero = unfold digits in refl;
  digits = all_digits _;
  value = λ n h. value_is _ n (omega arith);
  first = λ n u h. first_digit _ n u (omega arith);
}
