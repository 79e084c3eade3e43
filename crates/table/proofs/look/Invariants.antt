-- `table::look` meets its contract. The loops' invariants: the first i records are in range and counted, and flying says whether one of the first k has the sector in flight.
use mathlib.Core.Path.{◌≡◌}
use mathlib.Core.Bool.{true}
use Rattle.machine.specs.calls.Judging.{in_flight}
use Rattle.seen.specs.Seen.{sound_to}
use Rattle.table.proofs.look.Given as goal

abbrev pub invariant-loop-i : goal.invariant-loop-i
invariant-loop-i l = record {
  sound : sound_to l.h l.table l.i ≡ true;
  counted : l.done ≡ l.i;
}

abbrev pub invariant-loop-k : goal.invariant-loop-k
invariant-loop-k l = record { flies : l.flying ≡ in_flight l.table l.k l.sector.0 }
