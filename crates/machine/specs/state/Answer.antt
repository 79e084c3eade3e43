-- The number of each refusal in document 01's table, and 0 of a call that is accepted.
use Rattle.std.specs.Prelude.{ℕ, Result, Ok, Err}
use Rattle.format.specs.declared.map.WordFault.{WordFault}
use Rattle.format.specs.declared.map.WordFault.TheVariants as fault
use Rattle.machine.specs.declared.refusal.Refusal.{Refusal}
use Rattle.machine.specs.declared.refusal.Refusal.TheVariants.{
  WrongLength,
  NoInfoBlock,
  ForbiddenFigure,
  FlagsSet,
  ShortWorkBuffer,
  LostLane,
  BadMapWord,
  NotValid,
  NoSuchSector,
  WrongBuffer,
  NoSuchLane,
  LaneBusy,
  SectorBusy,
  LaneIdle,
  BadSector,
  BadHandle,
  Sloppy,
  BadRecord,
  ShortTable,
}

abbrev pub refusal_number : Refusal → ℕ
refusal_number WrongLength = 1
refusal_number NoInfoBlock = 2
refusal_number ForbiddenFigure = 3
refusal_number FlagsSet = 4
refusal_number ShortWorkBuffer = 5
refusal_number LostLane = 6
refusal_number BadMapWord = 7
refusal_number NotValid = 8
refusal_number NoSuchSector = 9
refusal_number WrongBuffer = 10
refusal_number NoSuchLane = 11
refusal_number LaneBusy = 12
refusal_number SectorBusy = 13
refusal_number LaneIdle = 14
refusal_number BadSector = 15
refusal_number BadHandle = 16
refusal_number Sloppy = 18
refusal_number BadRecord = 20
refusal_number ShortTable = 21

-- the number of what a call answers: of a refusal its own, else 0
abbrev pub number_of : {A : Type 0} → Result A Refusal → ℕ
number_of (Ok _) = 0
number_of (Err r) = refusal_number r

-- the refusal for what is wrong with a map word
abbrev pub refusal_of : WordFault → Refusal
refusal_of fault.PastLast = BadMapWord
refusal_of fault.Sloppy = Sloppy
