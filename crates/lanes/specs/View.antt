-- An arena's bytes with the figures that fit them, as the words of its layout.
use Rattle.std.specs.Prelude.{ℕ, ◌<◌}
use Rattle.layout.specs.Place.{Layout, layout_of}
use Rattle.lanes.specs.declared.ArenaView.{ArenaView}
use Rattle.lanes.specs.Fit.{LaneFit, AllFit}

abbrev pub layout : ArenaView → Layout
layout v = layout_of v.distance v.figures

-- l is the number of a lane
abbrev pub IsLane : ArenaView → ℕ → Type 0
IsLane v l = l < v.figures.lanes

-- rule 6 lets lane l pass
abbrev pub IsReadable : ArenaView → ℕ → Type 0
IsReadable v l = LaneFit v.distance v.figures v.bytes.now l

-- rules 6, 7 and 18 let the arena pass
abbrev pub IsSound : ArenaView → Type 0
IsSound v = AllFit v.distance v.figures v.bytes.now
