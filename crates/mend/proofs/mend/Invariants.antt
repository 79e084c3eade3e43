-- `mend::mend` meets its contract. The loop's invariant: the arena is the one found with the first k stores of the lanes passed, and the
-- count is their pending ones.
use mathlib.Core.Path.{◌≡◌}
use Prim.Native.Nat.{◌≤◌}
use Rattle.layout.specs.Place.{layout_of}
use Rattle.machine.specs.calls.Opening.{pending_lanes}
use Rattle.mend.proofs.Mending.{part}
use Rattle.mend.proofs.mend.Given as goal

abbrev pub invariant-loop-l : goal.invariant-loop-l
invariant-loop-l l = record {
  counted : l.count ≡ pending_lanes (layout_of l.d l.f) l.initial.a l.l;
  stored : l.a ≡ part (layout_of l.d l.f) l.initial.a l.k l.l;
  few : l.count ≤ l.l;
}
