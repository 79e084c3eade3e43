-- What the functions that read map words, a lane or all lanes ask of the figures and the arena, and their callers show.
use Rattle.std.specs.Prelude.{◌≡◌, true, false, List, ℕ, ◌+◌, ◌*◌, ◌/◌, ◌≤◌, ◌<◌, length}
use Rattle.layout.specs.Place.{layout_of}
use Rattle.layout.specs.Fit.{Fit}
use Rattle.layout.specs.declared.Figures.{Figures}
use Rattle.machine.specs.calls.Opening.{lane_readable, lanes_lost, word_bad, sloppy}

-- the map's words lie inside n bytes
pub record MapFit (f : Figures) (n : ℕ) : Type 0 where
  pub inside : 4 * (f.mapoff / 4 + f.sectors) ≤ n

-- a lane of the arena that rule 6 lets pass
pub record LaneFit (d : ℕ) (f : Figures) (a : List ℕ) (l : ℕ) : Type 0 where
  pub fit : Fit d f (length a)
  pub lane : l < f.lanes
  pub readable : lane_readable (layout_of d f) a l ≡ true

-- an arena that rules 6, 7 and 18 let pass
pub record AllFit (d : ℕ) (f : Figures) (a : List ℕ) : Type 0 where
  pub fit : Fit d f (length a)
  pub lanes : lanes_lost (layout_of d f) a ≡ false
  pub words : word_bad (layout_of d f) a ≡ false
  pub clean : sloppy (layout_of d f) a ≡ false
