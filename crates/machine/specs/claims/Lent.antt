-- The claim about the table of lane records that is lent with a handle: what openings and calls leave of it.
use Rattle.std.specs.Prelude.{◌≡◌, ◌≢◌, List, ℕ, ◌≤◌, length}
use Rattle.layout.specs.Told.{alone}
use Rattle.machine.specs.state.Handle.{Handle, bare_of, lane_at}
use Rattle.machine.specs.calls.Opening.{Room, figures_in, open_of, cut_open_of}
use Rattle.machine.specs.calls.Order.{Call, read, start, step, write}
use Rattle.machine.specs.calls.History.{State, after, run}

-- the lane whose record a call may change
abbrev pub OnLane : Call → ℕ → Type 0
OnLane (read s buffer) l = ⊥
OnLane (start j s) l = l ≡ j
OnLane (step j buffer) l = l ≡ j
OnLane (write j s buffer) l = l ≡ j

-- what a call leaves of a table, whatever it answers
pub record TableAfter (a : List ℕ) (h : Handle) (c : Call) : Type 0 where
  pub size : length (after (record { arena = a; handle = h }) c).handle.table ≡ length h.table
  -- the records of other lanes, and those past the lanes
  pub others : (l : ℕ) → (OnLane c l → ⊥) → lane_at (after (record { arena = a; handle = h }) c).handle.table l ≡ lane_at h.table l
  pub past : (l : ℕ) → h.figures.lanes ≤ l → lane_at (after (record { arena = a; handle = h }) c).handle.table l ≡ lane_at h.table l
  -- the handle itself is only read
  pub handle : bare_of (after (record { arena = a; handle = h }) c).handle ≡ bare_of h

pub record TableClaim : Type 0 where
  pub calls : (a : List ℕ) (h : Handle) (c : Call) → TableAfter a h c
  -- after any list of calls
  pub list_size : (x : State) (cs : List Call) → length (run x cs).handle.table ≡ length x.handle.table
  pub list_past : (x : State) (cs : List Call) (l : ℕ) → x.handle.figures.lanes ≤ l → lane_at (run x cs).handle.table l ≡ lane_at x.handle.table l
  -- an opening sets just the lanes' records; a refused one and a cut one leave the table
  pub opening : (d : ℕ) (a : List ℕ) (room : Room) (l : ℕ) → (figures_in a).lanes ≤ l
      → lane_at (open_of (alone d) a room).handle.table l ≡ lane_at room.table l
  pub opening_size : (d : ℕ) (a : List ℕ) (room : Room) → length (open_of (alone d) a room).handle.table ≡ length room.table
  pub refused : (d : ℕ) (a : List ℕ) (room : Room) → (open_of (alone d) a room).number ≢ 0 → (open_of (alone d) a room).handle.table ≡ room.table
  pub cut_opening : (d : ℕ) (a : List ℕ) (room : Room) (k : ℕ) → (cut_open_of (alone d) a room k).handle.table ≡ room.table
