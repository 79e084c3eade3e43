-- Laws of the sums of a run of words, each by recursion on the run. Every sum is a remainder by 2 ^ 32, which bounds the checksum.
use Rattle.std.proofs.Common.{◌≡◌, ℕ, zero, suc, ◌+◌, ◌<◌, List, [], ◌∷◌, ◌++◌, refl, ap, add-zero, suc-add, zero-add, arith}
use Rattle.words.specs.Word.{word, words_from}
use Rattle.fletcher.specs.declared.Sums.{Sums}
use Rattle.fletcher.specs.Claims.{SmallSums}
use Rattle.fletcher.specs.Fletcher.{added, added_all, value_of, fletcher64, block_checksum}

pub added_all-append : (xs ys : List ℕ) (s : Sums) → added_all s (xs ++ ys) ≡ added_all (added_all s xs) ys
unfolding added_all
added_all-append [] ys s = refl
added_all-append (x ∷ xs) ys s = added_all-append xs ys (added s x)

-- the words from word i on, m of them and then n
pub added_all-split : (a : List ℕ) (m i n : ℕ) (s : Sums)
    → added_all s (words_from a i (m + n)) ≡ added_all (added_all s (words_from a i m)) (words_from a (i + m) n)
unfolding added_all words_from
added_all-split a zero i n s = rw (zero-add, add-zero)
added_all-split a (suc m) i n s =
    let e : suc i + m ≡ i + suc m = omega arith in
    rw (suc-add, ← e) (added_all-split a m (suc i) n (added s (word a i)))

-- one word more of those from word i on
pub added_all_from : (a : List ℕ) (i n : ℕ) (s : Sums)
    → added_all s (words_from a i (n + 1)) ≡ added (added_all s (words_from a i n)) (word a (i + n))
unfolding added_all words_from
added_all_from a i n s = added_all-split a n i 1 s

pub added_small : (s : Sums) (w : ℕ) → SmallSums (added s w)
unfolding added
added_small s w = (omega arith, omega arith)

added_all_small : (ws : List ℕ) (s : Sums) → SmallSums s → SmallSums (added_all s ws)
unfolding added_all
added_all_small [] s h = h
added_all_small (w ∷ ws) s h = added_all_small ws (added s w) (added_small s w)

pub fletcher64_lt : (ws : List ℕ) → fletcher64 ws < 18446744073709551616
unfolding fletcher64
fletcher64_lt ws =
    let h = added_all_small ws (record { low = 0; high = 0 }) (omega arith, omega arith) in
    omega (arith, h.0, h.1)

-- the checksum of an info block, its last two words added one by one
pub block_checksum_is : (b : List ℕ)
    → block_checksum b ≡ value_of (added (added (added_all (record { low = 0; high = 0 }) (words_from b 0 1022)) 0) 0)
unfolding block_checksum fletcher64 added_all
block_checksum_is b = ap value_of (added_all-append (words_from b 0 1022) (0 ∷ 0 ∷ []) (record { low = 0; high = 0 }))
