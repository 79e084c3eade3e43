-- What each rule tests in an arena and a handle, and the number that a call answers.
use Rattle.std.specs.Prelude.{Bool, not, ◌&&◌, List, ℕ, eqb, leb, length}
use Rattle.format.specs.Tests.{some}
use Rattle.format.specs.MapWord.{flags_of, reading_of, bad_word, sloppy_word}
use Rattle.machine.specs.declared.lane.Lane.{Lane}
use Rattle.machine.specs.Rules.{answer}
use Rattle.machine.specs.calls.Order.{
  Call,
  Rule,
  bad_handle,
  short_table,
  bad_records,
  no_such_sector,
  wrong_buffer,
  no_such_lane,
  lane_busy,
  lane_idle,
  sector_busy,
  bad_map_word,
  sloppy_map_word,
  bad_sector,
  number,
  order,
}
use Rattle.machine.specs.state.Lane.{is_busy}
use Rattle.machine.specs.state.Handle.{Handle, bare_of, lane_at, laid_out, handle_allowed, table_short, records_allowed}
use Rattle.machine.specs.state.Flog.{map_word}

-- a lane of the first n has sector s in flight
unfoldable pub in_flight : List Lane → ℕ → ℕ → Bool
in_flight table n s = some n (λ l. is_busy (lane_at table l) && eqb (lane_at table l).sector.0 s)

abbrev pub tests : List ℕ → Handle → Rule → Bool
tests a h bad_handle = not (handle_allowed (bare_of h) (length a))
tests a h short_table = table_short h
tests a h bad_records = not (records_allowed h)
tests a h (no_such_sector s) = leb h.figures.sectors s
tests a h (wrong_buffer n) = not (eqb n h.figures.size)
tests a h (no_such_lane l) = leb h.figures.lanes l
tests a h (lane_busy l) = is_busy (lane_at h.table l)
tests a h (lane_idle l) = not (is_busy (lane_at h.table l))
tests a h (sector_busy s) = in_flight h.table h.figures.lanes s
tests a h (bad_map_word s) = bad_word h.figures.blocks (map_word (laid_out h) a s)
tests a h (sloppy_map_word s) = sloppy_word (map_word (laid_out h) a s)
tests a h (bad_sector s) = eqb (reading_of (flags_of (map_word (laid_out h) a s))) 1

-- the number of the first rule of the call's order that applies, 0 where none does
unfoldable pub call_number : List ℕ → Handle → Call → ℕ
call_number a h c = answer number (tests a h) (order c)
