-- Records field by field: a lane's as document 01 has it after opening, a start, a store and the last store, and the handle of zeroes.
use Rattle.std.specs.Prelude.{◌≡◌, ℕ, ◌+◌}
use Rattle.layout.specs.declared.Figures.{Figures}
use Rattle.machine.specs.state.Handle.{Handle}
use Rattle.machine.specs.declared.lane.Lane.{Lane}

-- idle, with free block b, next half h and next sequence q; its sector, old and stores made are 0
pub record Idle (b h q : ℕ) (r : Lane) : Type 0 where
  pub busy : r.busy ≡ 0
  pub block : r.block.0 ≡ b
  pub half : r.half ≡ h
  pub sequence : r.sequence.0 ≡ q
  pub sector : r.sector.0 ≡ 0
  pub old : r.old.0 ≡ 0
  pub made : r.made ≡ 0

-- a write to sector s begun on a lane that was so, the block that the map has being o; block, half and sequence are kept
pub record Started (was : Lane) (s o : ℕ) (r : Lane) : Type 0 where
  pub busy : r.busy ≡ 1
  pub block : r.block.0 ≡ was.block.0
  pub half : r.half ≡ was.half
  pub sequence : r.sequence.0 ≡ was.sequence.0
  pub sector : r.sector.0 ≡ s
  pub old : r.old.0 ≡ o
  pub made : r.made ≡ 0

-- one more store made, and nothing else changed
pub record OneMore (was r : Lane) : Type 0 where
  pub busy : r.busy ≡ was.busy
  pub block : r.block.0 ≡ was.block.0
  pub half : r.half ≡ was.half
  pub sequence : r.sequence.0 ≡ was.sequence.0
  pub sector : r.sector.0 ≡ was.sector.0
  pub old : r.old.0 ≡ was.old.0
  pub made : r.made ≡ was.made + 1

pub record ZeroFigures (f : Figures) : Type 0 where
  pub size : f.size ≡ 0
  pub sectors : f.sectors ≡ 0
  pub internal : f.internal ≡ 0
  pub blocks : f.blocks ≡ 0
  pub lanes : f.lanes ≡ 0
  pub data_start : f.dataoff ≡ 0
  pub map-start : f.mapoff ≡ 0
  pub flog-start : f.flogoff ≡ 0
  pub copy-start : f.copyoff ≡ 0

-- the handle that a refused opening gives, its table apart
pub record ZeroHandle (h : Handle) : Type 0 where
  pub total : h.length ≡ 0
  pub distance : h.distance ≡ 0
  pub figures : ZeroFigures h.figures
