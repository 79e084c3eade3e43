-- What a read gave, in the form of its definition.
use Rattle.std.specs.Prelude.{List, ℕ, Result}
use Rattle.machine.specs.declared.refusal.Refusal.{Refusal}
use Rattle.machine.specs.state.Answer.{number_of}
use Rattle.machine.specs.calls.Reading.{Read}

abbrev pub read_gave : {A : Type 0} → Result A Refusal → List ℕ → Read
read_gave r buffer = record { number = number_of r; buffer = buffer }
