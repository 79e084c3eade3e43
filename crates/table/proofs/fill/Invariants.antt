-- `table::fill` meets its contract. The loop's invariant: the first l records are filled in.
use mathlib.Core.Path.{◌≡◌}
use Rattle.lanes.specs.Filled.{filled_to}
use Rattle.table.proofs.fill.Given as goal

abbrev pub invariant-loop-l : goal.invariant-loop-l
invariant-loop-l l = l.table ≡ filled_to l.h l.arena l.initial.table l.l
