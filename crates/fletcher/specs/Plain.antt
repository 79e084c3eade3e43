-- The plain sums of a run of words, not brought below 2^32.
use Rattle.std.specs.Prelude.{ℕ, suc, ◌+◌, ◌*◌, List, [], ◌∷◌, length}

-- w1 + w2 + .. + wn
unfoldable pub sum : List ℕ → ℕ
sum [] = 0
sum (w ∷ ws) = w + sum ws

-- n x w1 + (n - 1) x w2 + .. + 1 x wn: the first word is in every running sum, the last one in one
unfoldable pub weighted : List ℕ → ℕ
weighted [] = 0
weighted (w ∷ ws) = suc (length ws) * w + weighted ws
