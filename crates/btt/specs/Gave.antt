-- What a call gave its host, in the form of the call's definition: the number returned, and the lent bytes, records and numbers at exit.
use Rattle.std.specs.Prelude.{List, ℕ}
use Rattle.machine.specs.declared.lane.Lane.{Lane}
use Rattle.machine.specs.state.Handle.{no_handle}
use Rattle.machine.specs.calls.Making.{MakeOutcome}
use Rattle.machine.specs.calls.Opening.{Opening}
use Rattle.machine.specs.calls.Reading.{Read}
use Rattle.btt.specs.Calls.{HostOpening, HostOutcome, HostLane, HostNext}
use Rattle.btt.specs.Replay.{HostReplay}

abbrev pub made : ℕ → List ℕ → MakeOutcome
made n arena = record { number = n; arena = arena }

abbrev pub opened : ℕ → ℕ → List ℕ → List Lane → List ℕ → List ℕ → HostOpening
opened n mended arena table handle work =
    record { number = n; mended = mended; arena = arena; table = table; handle = handle; work = work }

-- a cut opening gives no handle; its table is only read
abbrev pub cut : ℕ → ℕ → List ℕ → List ℕ → List Lane → Opening
cut n mended arena work table = record { number = n; mended = mended; arena = arena; handle = no_handle table; work = work }

abbrev pub read : ℕ → List ℕ → Read
read n buffer = record { number = n; buffer = buffer }

abbrev pub outcome : ℕ → List ℕ → List Lane → HostOutcome
outcome n arena table = record { number = n; arena = arena; table = table }

abbrev pub lane : ℕ → List ℕ → HostLane
lane n out = record { number = n; out = out }

abbrev pub next : ℕ → ℕ → HostNext
next n offset = record { number = n; offset = offset }

abbrev pub replayed : ℕ → ℕ → ℕ → List ℕ → List ℕ → List ℕ → HostReplay
replayed n records stopped arena work answers =
    record { number = n; records = records; stopped = stopped; arena = arena; work = work; answers = answers }
