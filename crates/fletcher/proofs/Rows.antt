-- Laws of sums in columns: rows added column by column, a turn, and what each column adds to the two sums.
use Rattle.std.proofs.Common.{◌≡◌, ℕ, zero, suc, ◌+◌, ◌-◌, ◌*◌, ◌%◌, ◌<◌, ◌≤◌, List, [], ◌∷◌, length, get_or, take, drop, set, sym, refl, ap, ◌∙◌, mul-le-mul_right, mul-add, add-one, arith, length-drop, take_all, drop-cons, take-suc, take-suc-set}
use native.Mathlib.Nat.{mod-add-mod, suc_inj}
use Rattle.fletcher.specs.Fletcher.{added_all}
use Rattle.fletcher.specs.Plain.{sum, weighted}
use Rattle.fletcher.specs.Columns.{plus, sums_of}
use Rattle.fletcher.proofs.Turns.{Same, brought, same_add, times_brought, same_times, turn_law}

pub length-plus : (xs ys : List ℕ) → length xs ≡ length ys → length (plus xs ys) ≡ length xs
unfolding plus
length-plus [] ys e = refl
length-plus (x ∷ xs) [] e = absurd (omega arith)
length-plus (x ∷ xs) (y ∷ ys) e = ap suc (length-plus xs ys (suc_inj e))

sum-plus : (xs ys : List ℕ) → length xs ≡ length ys → Same (sum (plus xs ys)) (sum xs + sum ys)
unfolding plus sum
sum-plus [] [] e = refl
sum-plus [] (y ∷ ys) e = absurd (omega arith)
sum-plus (x ∷ xs) [] e = absurd (omega arith)
sum-plus (x ∷ xs) (y ∷ ys) e = omega (arith, sum-plus xs ys (suc_inj e))

weighted-plus : (xs ys : List ℕ) → length xs ≡ length ys → Same (weighted (plus xs ys)) (weighted xs + weighted ys)
unfolding plus weighted
weighted-plus [] [] e = refl
weighted-plus [] (y ∷ ys) e = absurd (omega arith)
weighted-plus (x ∷ xs) [] e = absurd (omega arith)
weighted-plus (x ∷ xs) (y ∷ ys) e =
    let n = suc (length xs) in
    rw (← suc_inj e, length-plus xs ys (suc_inj e))
    (same_add _ _ _ _ (times_brought n (x + y)) (weighted-plus xs ys (suc_inj e))
    ∙ ap (λ (z : ℕ). z % 4294967296) (omega (arith, mul-add n x y)))

-- a turn in columns, as many as it has words: its words go to lows once what was there has gone to befores
pub turn_columns : (lows befores ws : List ℕ) → length befores ≡ length lows → length ws ≡ length lows
    → sums_of (record { lows = plus lows ws; befores = plus befores lows }) ≡ added_all (sums_of (record { lows = lows; befores = befores })) ws
unfolding sums_of
turn_columns lows befores ws eb ew =
    let c = sums_of (record { lows = lows; befores = befores }) in
    let n = length lows in
    let b = sum befores in
    let l = sum lows in
    let all : Same (n * sum (plus befores lows) + weighted (plus lows ws)) (n * (b + l) + (weighted lows + weighted ws)) =
    same_add _ _ _ _ (same_times n _ (b + l) (sum-plus befores lows eb)) (weighted-plus lows ws (sym ew)) in
    let then : Same ((n * b + weighted lows) % 4294967296 + n * (l % 4294967296) + weighted ws) (n * b + weighted lows + n * l + weighted ws) =
    same_add _ _ _ _ (same_add _ _ _ _ (brought (n * b + weighted lows)) (times_brought n l)) refl in
    let e : n * (b + l) + (weighted lows + weighted ws) ≡ n * b + weighted lows + n * l + weighted ws = omega (arith, mul-add n b l) in
    rw (turn_law ws c (omega arith, omega arith), ew, length-plus lows ws (sym ew))
    (λ i. record {
      low = (sum-plus lows ws (sym ew) ∙ sym (mod-add-mod l 4294967296 (sum ws))) i;
      high = (all ∙ ap (λ (x : ℕ). x % 4294967296) e ∙ sym then) i;
    })

pub get_d_plus : (xs ys : List ℕ) (j : ℕ) → length xs ≡ length ys → j < length xs → get_or (plus xs ys) j 0 ≡ (get_or xs j 0 + get_or ys j 0) % 4294967296
unfolding plus
get_d_plus [] ys j e l = absurd (omega arith)
get_d_plus (x ∷ xs) [] j e l = absurd (omega arith)
get_d_plus (x ∷ xs) (y ∷ ys) zero e l = refl
get_d_plus (x ∷ xs) (y ∷ ys) (suc j) e l = get_d_plus xs ys j (suc_inj e) (omega arith)

-- a row r that is filled with the elements of s, one after the other: a store, and the end
pub stored_next : (r s : List ℕ) (j v : ℕ) → length r ≡ length s → j < length r → take j r ≡ take j s → v ≡ get_or s j 0
    → take (j + 1) (set r j v) ≡ take (j + 1) s
stored_next r s j v e l h f = rw add-one (take-suc-set r j v l ∙ rw (h, f) (sym (take-suc s j 0 (omega arith))))

pub all_stored : (r s : List ℕ) (j : ℕ) → length r ≡ length s → length r ≤ j → take j r ≡ take j s → r ≡ s
all_stored r s j e l h = sym (take_all j r l) ∙ h ∙ take_all j s (omega arith)

-- what the columns from j on have yet to add, the column j first
pub sum_from : (xs : List ℕ) (j : ℕ) → j < length xs → sum (drop j xs) ≡ get_or xs j 0 + sum (drop (j + 1) xs)
unfolding sum
sum_from xs j l = rw (drop-cons xs j 0 l, add-one)

pub weighted_from : (xs : List ℕ) (j : ℕ) → j < length xs
    → weighted (drop j xs) ≡ (length xs - j) * get_or xs j 0 + weighted (drop (j + 1) xs)
unfolding weighted
weighted_from xs j l =
    let e : suc (length (drop (suc j) xs)) ≡ length xs - j = omega (arith, length-drop (suc j) xs) in
    rw (drop-cons xs j 0 l, add-one, e)

-- a column in high: b is what was before its turns, x its sum and w the weight of that; h is high and j the columns before it
module _ (b w x : ℕ) (lb : b < 4294967296) (lw : w ≤ 8) (lx : x < 4294967296) where
  weighs : w * x ≤ 8 * x
  weighs = mul-le-mul_right x lw

  pub high_bound : (h j : ℕ) → h ≤ j * 68719476736 → h + (8 * b + w * x) ≤ (j + 1) * 68719476736
  high_bound h j l = omega (arith, weighs)
