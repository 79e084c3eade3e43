-- What the judgement of a write says.
use Rattle.std.specs.Prelude.{◌≡◌, Bool, List, ℕ, eqb, length}
use Rattle.machine.specs.state.Handle.{Handle}
use Rattle.machine.specs.calls.Writing.{write_number}

-- n is the number of every write whose buffer fits, or of every one whose buffer does not
abbrev pub WriteGives : List ℕ → Handle → ℕ → ℕ → Bool → ℕ → Type 0
WriteGives a h l s fits n = (bytes : List ℕ) → fits ≡ eqb (length bytes) h.figures.size → n ≡ write_number a h l s bytes
