-- Runs of words summed in columns, a row of words at a turn, and runs joined.
use Rattle.std.specs.Prelude.{ℕ, ◌+◌, ◌*◌, ◌%◌, ◌^◌, List, [], ◌∷◌, length}
use Rattle.fletcher.specs.declared.Sums.{Sums}
use Rattle.fletcher.specs.declared.columns.Columns.{Columns}
use Rattle.fletcher.specs.Plain.{sum, weighted}

-- two rows added column by column, modulo 2^32
unfoldable pub plus : List ℕ → List ℕ → List ℕ
plus [] ys = []
plus (x ∷ xs) [] = []
plus (x ∷ xs) (y ∷ ys) = ((x + y) % 2 ^ 32) ∷ plus xs ys

-- the sums that n columns stand for: at each turn high grew by n times all that was before it, and by the turn's words with weights n, n - 1, .. 1
unfoldable pub sums_of : Columns → Sums
sums_of c = record {
  low = sum c.lows % 2 ^ 32;
  high = (length c.lows * sum c.befores + weighted c.lows) % 2 ^ 32;
}

-- the sums s with a run of n words more, whose sums alone are t
unfoldable pub joined_run : Sums → ℕ → Sums → Sums
joined_run s n t = record { low = (s.low + t.low) % 2 ^ 32; high = (s.high + n * s.low + t.high) % 2 ^ 32 }
