-- What a call gave, in the form of its definition.
use Rattle.std.specs.Prelude.{List, ℕ, Result}
use Rattle.machine.specs.state.Answer.{number_of}
use Rattle.machine.specs.calls.Making.{MakeOutcome, Wanted}
use Rattle.machine.specs.declared.refusal.Refusal.{Refusal}

-- making's answer with the arena as it left it
abbrev pub make_gave : Result (Unit {0}) Refusal → List ℕ → MakeOutcome
make_gave r arena = record { number = number_of r; arena = arena }

-- what making is asked for
abbrev pub wanted_of : ℕ → ℕ → ℕ → List ℕ → List ℕ → Wanted
wanted_of size sectors lanes first second = record { size = size; sectors = sectors; lanes = lanes; first = first; second = second }
