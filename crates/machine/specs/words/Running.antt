-- Rule 16 in document 01's words, and the rules of its table of refusals for read, start, step and whole write.
use Rattle.std.specs.Prelude.{◌≡◌, ◌≢◌, ◌⊎◌, List, ℕ, ◌+◌, ◌≤◌, ◌<◌, length}
use Rattle.format.specs.Claims.{Bit30Alone, BadWord, SloppyWord}
use Rattle.layout.specs.Figures.{Allowed}
use Rattle.layout.specs.Place.{Layout}
use Rattle.machine.specs.declared.lane.Lane.{Lane}
use Rattle.machine.specs.Rules.{FirstOf}
use Rattle.machine.specs.calls.Order.{
  Call,
  Rule,
  bad_handle,
  short_table,
  bad_records,
  no_such_sector,
  wrong_buffer,
  no_such_lane,
  lane_busy,
  lane_idle,
  sector_busy,
  bad_map_word,
  sloppy_map_word,
  bad_sector,
  number,
  order,
}
use Rattle.machine.specs.state.Handle.{Handle, lane_at, laid_out}
use Rattle.machine.specs.state.Flog.{map_word}
use Rattle.layout.specs.Claims.{Length, Distance}

-- a lane's record in range, idle or not
pub record LaneOk (g : Layout) (r : Lane) : Type 0 where
  pub busy : (r.busy ≡ 0) ⊎ (r.busy ≡ 1)
  pub block : r.block.0 < g.I
  pub old : r.old.0 < g.I
  pub half : (r.half ≡ 0) ⊎ (r.half ≡ 1)
  pub sequence_least : 1 ≤ r.sequence.0
  pub sequence_most : r.sequence.0 ≤ 3
  pub sector : r.sector.0 < g.E
  pub made : r.made < g.W + 5

-- rule 16 does not apply to the handle: the slice's length is allowed and the handle's, its layout is 16 or 32, and its figures are allowed
pub record HandleOk (h : Handle) (n : ℕ) : Type 0 where
  pub size : Length n
  pub match : h.length ≡ n
  pub distance : Distance h.distance
  pub figures : Allowed h.figures n

-- it does not apply to the records: every lane's is in range
abbrev pub RecordsOk : Handle → Type 0
RecordsOk h = (l : ℕ) → l < h.figures.lanes → LaneOk (laid_out h) (lane_at h.table l)

-- a lane below n has a write to sector s in flight
abbrev pub InFlight : List Lane → ℕ → ℕ → Type 0
InFlight table n s = (l : ℕ) × (l < n) × ((lane_at table l).busy ≢ 0) × ((lane_at table l).sector.0 ≡ s)

-- each rule of the table in words, of an arena and a handle; 15 is for bit 30 alone
abbrev pub Holds : List ℕ → Handle → Rule → Type 0
Holds a h bad_handle = HandleOk h (length a) → ⊥
Holds a h short_table = length h.table < h.figures.lanes
Holds a h bad_records = RecordsOk h → ⊥
Holds a h (no_such_sector s) = h.figures.sectors ≤ s
Holds a h (wrong_buffer n) = n ≢ h.figures.size
Holds a h (no_such_lane l) = h.figures.lanes ≤ l
Holds a h (lane_busy l) = (lane_at h.table l).busy ≢ 0
Holds a h (lane_idle l) = (lane_at h.table l).busy ≡ 0
Holds a h (sector_busy s) = InFlight h.table h.figures.lanes s
Holds a h (bad_map_word s) = BadWord h.figures.blocks (map_word (laid_out h) a s)
Holds a h (sloppy_map_word s) = SloppyWord (map_word (laid_out h) a s)
Holds a h (bad_sector s) = Bit30Alone (map_word (laid_out h) a s)

-- n is the answer of a call by its line of the table
abbrev pub Answers : List ℕ → Handle → Call → ℕ → Type 0
Answers a h c n = FirstOf number (Holds a h) (order c) n
