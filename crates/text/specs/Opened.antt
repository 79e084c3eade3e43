-- The handle of an opened arena with the records that its flog has, and how many lanes a report has room for.
use Rattle.std.specs.Prelude.{List, [], ℕ}
use Rattle.machine.specs.declared.handle.Handle as bare
use Rattle.machine.specs.state.Handle.{Handle, with}
use Rattle.lanes.specs.Filled.{filled_by}

-- the most lanes that a report has lines for
abbrev pub most_lanes : ℕ
most_lanes = 48

-- a handle with a table of just its lanes' records, read off the flog
abbrev pub opened : bare.Handle → List ℕ → Handle
opened h a = with h (filled_by h a [])
