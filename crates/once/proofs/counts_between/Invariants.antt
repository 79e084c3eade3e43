-- `once::counts_between` meets its contract. The invariant: all tells whether the counts passed are from low to high.
use mathlib.Core.Path.{◌≡◌}
use Rattle.once.specs.Once.{counts_between}
use Rattle.once.proofs.counts_between.Given as goal

abbrev pub invariant-loop-m : goal.invariant-loop-m
invariant-loop-m l = l.all ≡ counts_between l.counts l.m-index l.low l.high
