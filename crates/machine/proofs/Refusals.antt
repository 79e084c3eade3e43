-- No refusal has the number of a call that is accepted.
use mathlib.Core.Path.{◌≡◌, refl}
use mathlib.Core.Bool.{false}
use lib.Dec.{eqb}
use Rattle.machine.specs.declared.refusal.Refusal.{Refusal}
use Rattle.machine.specs.declared.refusal.Refusal.TheVariants.{
  WrongLength,
  NoInfoBlock,
  ForbiddenFigure,
  FlagsSet,
  ShortWorkBuffer,
  LostLane,
  BadMapWord,
  NotValid,
  NoSuchSector,
  WrongBuffer,
  NoSuchLane,
  LaneBusy,
  SectorBusy,
  LaneIdle,
  BadSector,
  BadHandle,
  Sloppy,
  BadRecord,
  ShortTable,
}
use Rattle.machine.specs.state.Answer.{refusal_number}

pub not_zero : (r : Refusal) → eqb (refusal_number r) 0 ≡ false
not_zero WrongLength = refl
not_zero NoInfoBlock = refl
not_zero ForbiddenFigure = refl
not_zero FlagsSet = refl
not_zero ShortWorkBuffer = refl
not_zero LostLane = refl
not_zero BadMapWord = refl
not_zero NotValid = refl
not_zero NoSuchSector = refl
not_zero WrongBuffer = refl
not_zero NoSuchLane = refl
not_zero LaneBusy = refl
not_zero SectorBusy = refl
not_zero LaneIdle = refl
not_zero BadSector = refl
not_zero BadHandle = refl
not_zero Sloppy = refl
not_zero BadRecord = refl
not_zero ShortTable = refl
