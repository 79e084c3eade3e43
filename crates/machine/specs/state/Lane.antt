-- A lane's record, and how it moves on.
use Rattle.std.specs.Prelude.{Bool, not, [], ◌∷◌, ℕ, ◌+◌, ◌-◌, eqb, leb, ltb}
use Rattle.format.specs.Tests.{all_of}
use Rattle.format.specs.Sequence.{is_set, successor}
use Rattle.layout.specs.Place.{Layout}
use Rattle.machine.specs.declared.lane.Lane.{Lane}

-- an idle lane, with its free block, next half and next sequence
abbrev pub idle_lane : ℕ → ℕ → ℕ → Lane
idle_lane block half sequence = record {
  busy = 0;
  block = record { 0 = block };
  half = half;
  sequence = record { 0 = sequence };
  sector = record { 0 = 0 };
  old = record { 0 = 0 };
  made = 0;
}

-- the record of all zeroes
abbrev pub no_lane : Lane
no_lane = idle_lane 0 0 0

-- a lane is idle if its busy word is 0
abbrev pub is_busy : Lane → Bool
is_busy r = not (eqb r.busy 0)

-- a write to a sector begun, with the block that the map has for it
abbrev pub started_lane : Lane → ℕ → ℕ → Lane
started_lane r sector old = record {
  busy = 1;
  block = r.block;
  half = r.half;
  sequence = r.sequence;
  sector = record { 0 = sector };
  old = record { 0 = old };
  made = 0;  -- no store is made yet
}

-- the record with k stores made
abbrev pub lane_after : Lane → ℕ → Lane
lane_after r k = record {
  busy = r.busy;
  block = r.block;
  half = r.half;
  sequence = r.sequence;
  sector = r.sector;
  old = r.old;
  made = k;
}

-- one more store made, not the last
abbrev pub stored_lane : Lane → Lane
stored_lane r = lane_after r (r.made + 1)

-- the last store made: old is free, and the next half and sequence have moved on
abbrev pub finished_lane : Lane → Lane
finished_lane r = idle_lane r.old.0 (1 - r.half) (successor r.sequence.0)

-- the stores of a whole write
abbrev pub write_stores : Layout → ℕ
write_stores g = g.W + 5

-- a record in range, idle or not (rule 16); a busy word is 0 or 1
unfoldable pub lane_allowed : Layout → Lane → Bool
lane_allowed g r = all_of (
    ltb r.block.0 g.I ∷ ltb r.old.0 g.I ∷ ltb r.half 2 ∷ is_set r.sequence.0
    ∷ ltb r.sector.0 g.E ∷ leb r.busy 1 ∷ ltb r.made (write_stores g) ∷ [])
