-- What one record did, in the form of the definitions.
use Rattle.std.specs.Prelude.{◌≡◌, ℕ}
use Rattle.runlog.specs.declared.record.Record.{Record}
use Rattle.replaying.specs.Replay.{Point, ran, answered}

-- record i, from one point to the next
pub record RanGives (i : ℕ) (x : Point) (found : Record) (n : ℕ) (y : Point) : Type 0 where
  pub point : y ≡ ran i x found
  pub number : n ≡ answered i x found
