-- A table of lane records as an opening fills it: the lanes' records are read off the flog, and those past the lanes are as they came.
use Rattle.std.specs.Prelude.{List, ◌++◌, ℕ, ◌<◌, drop}
use Rattle.layout.specs.Place.{layout_of}
use Rattle.machine.specs.declared.handle.Handle as bare
use Rattle.machine.specs.declared.lane.Lane.{Lane}
use Rattle.machine.specs.calls.Opening.{found_lanes}
use Rattle.lanes.specs.Fit.{LaneFit}

-- each lane of a handle can be read off the flog
abbrev pub LanesFit : bare.Handle → List ℕ → Type 0
LanesFit h a = (l : ℕ) → l < h.figures.lanes → LaneFit h.distance h.figures a l

-- a table with the records of the first n lanes put in
abbrev pub filled_to : bare.Handle → List ℕ → List Lane → ℕ → List Lane
filled_to h a table n = found_lanes (layout_of h.distance h.figures) a n ++ drop n table

-- with those of all lanes
abbrev pub filled_by : bare.Handle → List ℕ → List Lane → List Lane
filled_by h a table = filled_to h a table h.figures.lanes
