-- Fletcher64 said a second time, by plain sums that are brought below 2^32 once, at the end.
use Rattle.std.specs.Prelude.{◌≡◌, ℕ, ◌+◌, ◌*◌, ◌%◌, ◌<◌, List, ◌++◌, length, take, replicate}
use Rattle.words.specs.Bytes.{words_in}
use Rattle.fletcher.specs.declared.Sums.{Sums}
use Rattle.fletcher.specs.Plain.{sum, weighted}
use Rattle.fletcher.specs.Fletcher.{added_all, fletcher64, block_checksum}

-- high x 2^32 + low
abbrev pub fletcher_value : List ℕ → ℕ
fletcher_value ws = weighted ws % 4294967296 * 4294967296 + sum ws % 4294967296

-- both sums fit 32 bits
abbrev pub SmallSums : Sums → Type 0
SmallSums s = (s.low < 4294967296) × (s.high < 4294967296)

-- an info block with its bytes 4,088 to 4,095, the checksum field, put to zero
abbrev pub field_cleared : List ℕ → List ℕ
field_cleared b = take 4088 b ++ replicate 8 0

-- FORMAT 3.3
pub record ChecksumClaim : Type 0 where
  -- over a turn of n words low grows by their sum, and high by n times the low before and by their weighted sum
  pub turn : (ws : List ℕ) (s : Sums) → SmallSums s
      → added_all s ws
      ≡ record { low = (s.low + sum ws) % 4294967296; high = (s.high + length ws * s.low + weighted ws) % 4294967296 }
  pub value : (ws : List ℕ) → fletcher64 ws ≡ fletcher_value ws
  -- all the words of the block count, the checksum field as zero
  pub block : (b : List ℕ) → length b ≡ 4096 → block_checksum b ≡ fletcher_value (words_in (field_cleared b))
  -- and a block has 1,024 of them
  pub block_words : (b : List ℕ) → length b ≡ 4096 → length (words_in (field_cleared b)) ≡ 1024
