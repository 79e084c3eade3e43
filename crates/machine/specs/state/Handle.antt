-- The handle of an opened arena with the table of lane records that is lent with it, and rule 16.
use Rattle.std.specs.Prelude.{Bool, ◌&&◌, List, ℕ, eqb, ltb, length, get_or, set}
use Rattle.format.specs.Tests.{every}
use Rattle.layout.specs.Figures.{length_allowed, figures_allowed}
use Rattle.layout.specs.Place.{Layout, layout_of}
use Rattle.layout.specs.declared.Figures.{Figures}
use Rattle.layout.specs.Told.{distance_allowed}
use Rattle.machine.specs.declared.handle.Handle as bare
use Rattle.machine.specs.declared.lane.Lane.{Lane}
use Rattle.machine.specs.state.Lane.{no_lane, lane_allowed}

-- the slice's length, the bytes between a lane's halves and the figures, and with them the table: first a record for each lane, then any
pub record Handle : Type 0 where
  pub length : ℕ
  pub distance : ℕ
  pub figures : Figures
  pub table : List Lane

-- a handle as the code has it, and the table that is lent with it
abbrev pub with : bare.Handle → List Lane → Handle
with h table = record { length = h.length; distance = h.distance; figures = h.figures; table = table }

-- the same without its table
abbrev pub bare_of : Handle → bare.Handle
bare_of h = record { length = h.length; distance = h.distance; figures = h.figures }

abbrev pub no_figures : Figures
no_figures = record { size = 0; sectors = 0; internal = 0; blocks = 0; lanes = 0; dataoff = 0; mapoff = 0; flogoff = 0; copyoff = 0 }

-- the handle of all zeroes, which a refused opening gives; its table is as it came
abbrev pub zero_handle : bare.Handle
zero_handle = record { length = 0; distance = 0; figures = no_figures }

abbrev pub no_handle : List Lane → Handle
no_handle table = with zero_handle table

-- where the parts of a handle's arena are
abbrev pub laid_out : Handle → Layout
laid_out h = layout_of h.distance h.figures

abbrev pub lane_at : List Lane → ℕ → Lane
lane_at table l = get_or table l no_lane

-- the handle with lane l's record replaced
abbrev pub with_lane : Handle → ℕ → Lane → Handle
with_lane h l r = record { length = h.length; distance = h.distance; figures = h.figures; table = set h.table l r }

-- rule 16 does not apply to the handle: the layout is allowed, the figures are and match the slice's length, which is allowed
unfoldable pub handle_allowed : bare.Handle → ℕ → Bool
handle_allowed h n = length_allowed n && (eqb h.length n && (distance_allowed h.distance && figures_allowed h.figures n))

-- rule 21: the table is shorter than the lanes
unfoldable pub table_short : Handle → Bool
table_short h = ltb (length h.table) h.figures.lanes

-- rule 16 does not apply to the records: the lanes' are in range; those past the lanes are not judged
unfoldable pub records_allowed : Handle → Bool
records_allowed h = every h.figures.lanes (λ l. lane_allowed (laid_out h) (lane_at h.table l))
