-- Figures that fit a slice, which functions on an arena ask of its figures, and figures that fit their fields.
use Rattle.std.specs.Prelude.{◌≡◌, ℕ, ◌+◌, ◌*◌, ◌%◌, ◌≤◌, ◌<◌}
use Rattle.layout.specs.Figures.{max_lanes}
use Rattle.layout.specs.Sizes.{max_size}
use Rattle.layout.specs.Place.{layout_of, LayoutOk}
use Rattle.layout.specs.declared.Figures.{Figures}

-- figures that fit a slice of n bytes, where the starts of a lane's two halves are d bytes apart
pub record Fit (d : ℕ) (f : Figures) (n : ℕ) : Type 0 where
  pub ok : LayoutOk (layout_of d f)
  pub few : f.lanes ≤ max_lanes
  pub size : f.size ≤ max_size
  pub starts : f.copyoff < 16777216
  pub room : 4 * (layout_of d f).copy₀ + 4096 ≤ n
  pub whole : n % 4 ≡ 0

-- figures that fit their fields of 32 and of 64 bits
pub record FiguresFit (f : Figures) : Type 0 where
  pub size : f.size < 4294967296
  pub sectors : f.sectors < 4294967296
  pub internal : f.internal < 4294967296
  pub blocks : f.blocks < 4294967296
  pub lanes : f.lanes < 4294967296
  pub data_start : f.dataoff < 18446744073709551616
  pub map-start : f.mapoff < 18446744073709551616
  pub flog-start : f.flogoff < 18446744073709551616
  pub copy-start : f.copyoff < 18446744073709551616
