-- Bytes that stand for a handle, and the numbers that fit them.
use Rattle.std.specs.Prelude.{◌≡◌, List, ℕ, ◌<◌, length}
use Rattle.words.specs.Bytes.{Small}
use Rattle.layout.specs.Fit.{FiguresFit}
use Rattle.machine.specs.declared.lane.Lane.{Lane}
use Rattle.machine.specs.declared.handle.Handle.{Handle}
use Rattle.handlebytes.specs.Bytes.{handle_bytes, decode_handle}

-- numbers of 32 and of 64 bits
abbrev pub Fits32 : ℕ → Type 0
Fits32 n = n < 4294967296

abbrev pub Fits64 : ℕ → Type 0
Fits64 n = n < 18446744073709551616

pub record RecordFits (r : Lane) : Type 0 where
  pub busy : Fits32 r.busy
  pub block : Fits32 r.block.0
  pub half : Fits32 r.half
  pub sequence : Fits32 r.sequence.0
  pub sector : Fits32 r.sector.0
  pub old : Fits32 r.old.0
  pub made : Fits32 r.made

-- what the type of a handle gives of its numbers
pub record HandleFits (h : Handle) : Type 0 where
  pub total : Fits64 h.length
  pub distance : Fits32 h.distance
  pub figures : FiguresFit h.figures

-- 64 bytes that decode to the handle
pub record Stands (b : List ℕ) (h : Handle) : Type 0 where
  pub size : length b ≡ handle_bytes
  pub small : Small b
  pub is : decode_handle b ≡ h
