-- The calls through a handle, the rules by which they are refused, and for each call the order of its rules.
use Rattle.std.specs.Prelude.{List, [], ◌∷◌, ℕ, length}

-- a call through a handle: a read of a sector into a buffer, a start on a lane of a write to a sector, a step of a lane with a buffer,
-- and a whole write on a lane to a sector from a buffer
pub data Call : Type 0 where
  read : ℕ → List ℕ → Call
  start : ℕ → ℕ → Call
  step : ℕ → List ℕ → Call
  write : ℕ → ℕ → List ℕ → Call

-- a condition of document 01's table, 18 of a sloppy map word or 21 of a short table, of the lane, sector or length of a buffer that it
-- speaks of
pub data Rule : Type 0 where
  bad_handle : Rule
  short_table : Rule
  bad_records : Rule
  no_such_sector : ℕ → Rule
  wrong_buffer : ℕ → Rule
  no_such_lane : ℕ → Rule
  lane_busy : ℕ → Rule
  lane_idle : ℕ → Rule
  sector_busy : ℕ → Rule
  bad_map_word : ℕ → Rule
  sloppy_map_word : ℕ → Rule
  bad_sector : ℕ → Rule

abbrev pub number : Rule → ℕ
number bad_handle = 16
number short_table = 21
number bad_records = 16
number (no_such_sector s) = 9
number (wrong_buffer n) = 10
number (no_such_lane l) = 11
number (lane_busy l) = 12
number (lane_idle l) = 14
number (sector_busy s) = 13
number (bad_map_word s) = 7
number (sloppy_map_word s) = 18
number (bad_sector s) = 15

-- 16 of the handle, 21 and 16 of the lanes' records come first in every call
abbrev pub table_rules : List Rule → List Rule
table_rules rules = bad_handle ∷ short_table ∷ bad_records ∷ rules

abbrev pub order : Call → List Rule
order (read s b) = table_rules (no_such_sector s ∷ wrong_buffer (length b) ∷ bad_map_word s ∷ sloppy_map_word s ∷ bad_sector s ∷ [])
order (start l s) = table_rules (no_such_lane l ∷ lane_busy l ∷ no_such_sector s ∷ sector_busy s ∷ bad_map_word s ∷ sloppy_map_word s ∷ [])
order (step l b) = table_rules (no_such_lane l ∷ lane_idle l ∷ wrong_buffer (length b) ∷ [])
order (write l s b) =
    table_rules (no_such_lane l ∷ lane_busy l ∷ no_such_sector s ∷ wrong_buffer (length b) ∷ sector_busy s ∷ bad_map_word s ∷ sloppy_map_word s ∷ [])
