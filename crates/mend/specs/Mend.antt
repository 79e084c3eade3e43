-- Mending: what it asks of an arena, and one lane's turn of it.
use Rattle.std.specs.Prelude.{◌≡◌, Bool, false, cond, ◌&&◌, List, ℕ}
use Rattle.layout.specs.Place.{Layout, layout_of}
use Rattle.layout.specs.declared.Figures.{Figures}
use Rattle.machine.specs.state.Stores.{stored}
use Rattle.machine.specs.state.Flog.{pending}
use Rattle.machine.specs.calls.Opening.{mend_store, unsettled}
use Rattle.lanes.specs.Fit.{AllFit}

-- an arena that rules 6 to 8 and 18 let pass
pub record Mendable (d : ℕ) (f : Figures) (a : List ℕ) : Type 0 where
  pub all : AllFit d f a
  pub settled : unsettled (layout_of d f) a ≡ false

-- the arena after lane l's turn: its store is made if it is pending and there is a store left to make
unfoldable pub mended_at : Layout → List ℕ → ℕ → Bool → List ℕ
mended_at g a l left = cond (pending g a l && left) (stored g (mend_store g a l) a) a
