-- The law of a turn, over the number of its words, and what follows for a run that is joined to another.
use Rattle.std.proofs.Common.{◌≡◌, ℕ, suc, ◌+◌, ◌*◌, ◌/◌, ◌%◌, List, [], ◌∷◌, length, sym, refl, ap, ◌∙◌, suc-mul, mul_comm, mul-zero, mul-add, mul_left_comm, arith}
use native.Mathlib.Nat.{mod-mod, add-mod, add-mul-mod_self_left}
use Rattle.words.specs.Word.{words_from}
use Rattle.words.proofs.Runs.{length-words_from}
use Rattle.fletcher.specs.declared.Sums.{Sums}
use Rattle.fletcher.specs.Fletcher.{added, added_all}
use Rattle.fletcher.specs.Claims.{SmallSums}
use Rattle.fletcher.specs.Plain.{sum, weighted}
use Rattle.fletcher.specs.Columns.{joined_run}
use Rattle.fletcher.proofs.Laws.{added_small, added_all-split}

-- equal modulo 2^32
abbrev pub Same : ℕ → ℕ → Type 0
Same x y = x % 4294967296 ≡ y % 4294967296

pub brought : (x : ℕ) → Same (x % 4294967296) x
brought x = mod-mod x 4294967296

pub same_add : (x y x' y' : ℕ) → Same x x' → Same y y' → Same (x + y) (x' + y')
same_add x y x' y' e f = add-mod x y 4294967296 ∙ rw (e, f) (sym (add-mod x' y' 4294967296))

pub times_brought : (n x : ℕ) → Same (n * (x % 4294967296)) (n * x)
times_brought n x =
    let r = x % 4294967296 in
    let q = x / 4294967296 in
    let e : x ≡ 4294967296 * q + r = omega arith in
    let p : n * x ≡ n * r + 4294967296 * (n * q) =
    ap (λ (y : ℕ). n * y) e ∙ mul-add n (4294967296 * q) r ∙ rw (mul_left_comm n 4294967296 q) (omega arith) in
    sym (ap (λ (y : ℕ). y % 4294967296) p ∙ add-mul-mod_self_left (n * r) 4294967296 (n * q))

pub same_times : (n x y : ℕ) → Same x y → Same (n * x) (n * y)
same_times n x y e = sym (times_brought n x) ∙ rw e (times_brought n y)

low_is : (ws : List ℕ) (s : Sums) → SmallSums s → (added_all s ws).low ≡ (s.low + sum ws) % 4294967296
unfolding added_all added sum
low_is [] s h = omega (arith, h.0)
low_is (w ∷ ws) s h = omega (arith, low_is ws (added s w) (added_small s w))

-- a word w, and n words after it that add t: h and l are the sums before it
step : (h l w n t : ℕ) → Same ((h + (l + w) % 4294967296) % 4294967296 + n * ((l + w) % 4294967296) + t) (h + suc n * l + (suc n * w + t))
step h l w n t =
    let r = (l + w) % 4294967296 in
    let hr : Same ((h + r) % 4294967296) (h + (l + w)) = brought (h + r) ∙ same_add h r h (l + w) refl (brought (l + w)) in
    let e : h + (l + w) + n * (l + w) + t ≡ h + suc n * l + (suc n * w + t) = omega (arith, mul-add n l w, suc-mul n l, suc-mul n w) in
    same_add _ t _ t (same_add _ (n * r) _ (n * (l + w)) hr (times_brought n (l + w))) refl ∙ ap (λ (x : ℕ). x % 4294967296) e

high_is : (ws : List ℕ) (s : Sums) → SmallSums s → (added_all s ws).high ≡ (s.high + length ws * s.low + weighted ws) % 4294967296
unfolding added_all added weighted
high_is [] s h = omega (arith, h.1)
high_is (w ∷ ws) s h = high_is ws (added s w) (added_small s w) ∙ step s.high s.low w (length ws) (weighted ws)

-- over a turn of n words low grows by their sum, and high by n times the low before and by their weighted sum
pub turn_law : (ws : List ℕ) (s : Sums) → SmallSums s
    → added_all s ws ≡ record { low = (s.low + sum ws) % 4294967296; high = (s.high + length ws * s.low + weighted ws) % 4294967296 }
turn_law ws s h = λ i. record { low = low_is ws s h i; high = high_is ws s h i }

-- n times low, from an n that is brought below 2^32
pub often : (h n l t : ℕ) → Same (h + n % 4294967296 * l % 4294967296 + t) (h + n * l + t)
often h n l t =
    let e : Same (n % 4294967296 * l) (n * l) = rw (mul_comm (n % 4294967296) l, mul_comm n l) (times_brought l n) in
    same_add _ t _ t (same_add h _ h _ refl (brought (n % 4294967296 * l) ∙ e)) refl

-- a run that is summed alone is joined to what was before it
pub joined-run : (ws : List ℕ) (s : Sums) → SmallSums s
    → joined_run s (length ws) (added_all (record { low = 0; high = 0 }) ws) ≡ added_all s ws
unfolding joined_run
joined-run ws s h =
    let z : Sums = record { low = 0; high = 0 } in
    let t : SmallSums z = (omega arith, omega arith) in
    let n = length ws in
    let r = added_all z ws in
    let low : (s.low + r.low) % 4294967296 ≡ (s.low + sum ws) % 4294967296 = omega (arith, low_is ws z t) in
    let high : (s.high + n * s.low + r.high) % 4294967296 ≡ (s.high + n * s.low + weighted ws) % 4294967296 =
    omega (arith, high_is ws z t, mul-zero n) in
    (λ i. record { low = low i; high = high i }) ∙ sym (turn_law ws s h)

-- the m words from word i on as a run by itself, then n more
pub run_and_rest : (a : List ℕ) (i m n : ℕ) (s : Sums) → SmallSums s
    → added_all (joined_run s m (added_all (record { low = 0; high = 0 }) (words_from a i m))) (words_from a (i + m) n) ≡ added_all s (words_from a i (m + n))
run_and_rest a i m n s h =
    let e : joined_run s m (added_all (record { low = 0; high = 0 }) (words_from a i m)) ≡ added_all s (words_from a i m) =
    rw length-words_from at (joined-run (words_from a i m) s h) in
    rw e (sym (added_all-split a m i n s))
