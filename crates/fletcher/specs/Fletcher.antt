-- Fletcher64: low = low + word, then high = high + low, both modulo 2^32 from 0; the value is high x 2^32 + low.
use Rattle.std.specs.Prelude.{ℕ, ◌+◌, ◌%◌, ◌^◌, List, [], ◌∷◌, ◌++◌}
use Rattle.words.specs.Word.{words_from, joined}
use Rattle.fletcher.specs.declared.Sums.{Sums}

-- the sums with one word more
unfoldable pub added : Sums → ℕ → Sums
added s w = record { low = (s.low + w) % 2 ^ 32; high = (s.high + (s.low + w) % 2 ^ 32) % 2 ^ 32 }

-- the sums with a run of words more
unfoldable pub added_all : Sums → List ℕ → Sums
added_all s [] = s
added_all s (w ∷ ws) = added_all (added s w) ws

abbrev pub value_of : Sums → ℕ
value_of s = joined s.low s.high

-- the checksum of a run of words
unfoldable pub fletcher64 : List ℕ → ℕ
fletcher64 ws = value_of (added_all (record { low = 0; high = 0 }) ws)

-- the checksum of an info block: its 1,024 words with the last two, the checksum field, as zero
unfoldable pub block_checksum : List ℕ → ℕ
block_checksum b = fletcher64 (words_from b 0 1022 ++ (0 ∷ 0 ∷ []))
