-- The claim about read, start, step and whole write: each answers by its line of the table, and a refusal changes nothing.
use Rattle.std.specs.Prelude.{◌≡◌, ◌≢◌, List, [], ◌∷◌, ℕ, length}
use Rattle.machine.specs.Rules.{line}
use Rattle.machine.specs.state.Handle.{Handle}
use Rattle.machine.specs.calls.Order.{
  read,
  start,
  step,
  write,
  bad_handle,
  short_table,
  bad_records,
  no_such_sector,
  wrong_buffer,
  no_such_lane,
  lane_busy,
  lane_idle,
  sector_busy,
  bad_map_word,
  sloppy_map_word,
  bad_sector,
  number,
  order,
}
use Rattle.machine.specs.calls.Reading.{read_of}
use Rattle.machine.specs.calls.Writing.{Outcome, start_of, step_of, write_of}
use Rattle.machine.specs.words.Running.{Answers}

-- arena and handle as they came, with every record of its table
pub record AsTheyCame (a : List ℕ) (h : Handle) (o : Outcome) : Type 0 where
  pub arena : o.arena ≡ a
  pub handle : o.handle ≡ h

-- for any bytes lent as an arena, any handle, lane and sector, and any buffer
pub record RunningClaim : Type 0 where
  -- read: 16 (the handle), 21, 16 (the records), 9, 10, 7 and 18 (that sector's word), 15
  pub read_order : (s : ℕ) (buffer : List ℕ) → line number (order (read s buffer))
      ≡ (16, bad_handle) ∷ (21, short_table) ∷ (16, bad_records) ∷ (9, no_such_sector s) ∷ (10, wrong_buffer (length buffer)) ∷ (7, bad_map_word s) ∷ (18, sloppy_map_word s)
      ∷ (15, bad_sector s) ∷ []
  -- start: 16, 21, 16, 11, 12, 9, 13, 7, 18
  pub start_order : (l s : ℕ) → line number (order (start l s))
      ≡ (16, bad_handle) ∷ (21, short_table) ∷ (16, bad_records) ∷ (11, no_such_lane l) ∷ (12, lane_busy l) ∷ (9, no_such_sector s) ∷ (13, sector_busy s) ∷ (7, bad_map_word s)
      ∷ (18, sloppy_map_word s) ∷ []
  -- step: 16, 21, 16, 11, 14, 10
  pub step_order : (l : ℕ) (buffer : List ℕ) → line number (order (step l buffer))
      ≡ (16, bad_handle) ∷ (21, short_table) ∷ (16, bad_records) ∷ (11, no_such_lane l) ∷ (14, lane_idle l) ∷ (10, wrong_buffer (length buffer)) ∷ []
  -- whole write: as start, with 10 after 9
  pub write_order : (l s : ℕ) (buffer : List ℕ) → line number (order (write l s buffer))
      ≡ (16, bad_handle) ∷ (21, short_table) ∷ (16, bad_records) ∷ (11, no_such_lane l) ∷ (12, lane_busy l) ∷ (9, no_such_sector s) ∷ (10, wrong_buffer (length buffer))
      ∷ (13, sector_busy s) ∷ (7, bad_map_word s) ∷ (18, sloppy_map_word s) ∷ []
  -- the first rule that applies, in words, gives the answer
  pub read : (a : List ℕ) (h : Handle) (s : ℕ) (buffer : List ℕ) → Answers a h (read s buffer) (read_of a h s buffer).number
  pub start : (a : List ℕ) (h : Handle) (l s : ℕ) → Answers a h (start l s) (start_of a h l s).number
  pub step : (a : List ℕ) (h : Handle) (l : ℕ) (buffer : List ℕ) → Answers a h (step l buffer) (step_of a h l buffer).number
  pub write : (a : List ℕ) (h : Handle) (l s : ℕ) (buffer : List ℕ)
      → Answers a h (write l s buffer) (write_of a h l s buffer).number
  -- a refused read leaves its buffer
  pub read_refused : (a : List ℕ) (h : Handle) (s : ℕ) (buffer : List ℕ) → (read_of a h s buffer).number ≢ 0 → (read_of a h s buffer).buffer ≡ buffer
  -- a refused start, step or whole write leaves arena, handle and table
  pub start_refused : (a : List ℕ) (h : Handle) (l s : ℕ) → (start_of a h l s).number ≢ 0 → AsTheyCame a h (start_of a h l s)
  pub step_refused : (a : List ℕ) (h : Handle) (l : ℕ) (buffer : List ℕ) → (step_of a h l buffer).number ≢ 0 → AsTheyCame a h (step_of a h l buffer)
  pub write_refused : (a : List ℕ) (h : Handle) (l s : ℕ) (buffer : List ℕ)
      → (write_of a h l s buffer).number ≢ 0 → AsTheyCame a h (write_of a h l s buffer)
  -- a start stores nothing
  pub start_stores_none : (a : List ℕ) (h : Handle) (l s : ℕ) → (start_of a h l s).arena ≡ a
