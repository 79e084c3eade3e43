-- `stores::WriteInFlight::put_all` meets its contract. Both loops keep the same: the arena is the one lent with the write's first k stores.
use Rattle.stores.specs.Write.{with_first}
use mathlib.Core.Path.{◌≡◌}
use Rattle.stores.proofs.WriteInFlight.put_all.Given as goal

abbrev pub invariant-loop-k : goal.invariant-loop-k
invariant-loop-k l = l.arena ≡ with_first l.self l.buffer l.k l.fn.arena

abbrev pub invariant-loop-k-2 : goal.invariant-loop-k-2
invariant-loop-k-2 l = l.arena ≡ with_first l.self l.buffer l.k l.fn.arena
