-- `once::counts_between` meets its contract: each turn adds its own test to those before.
use mathlib.Core.Path.{refl}
use Rattle.once.proofs.Counts.{between_none, between_more}
use Rattle.once.proofs.counts_between.Goals as goal

pub loop-m-init : goal.loop-m-init
loop-m-init c = between_none _ _ _

pub loop-m-preserved : goal.loop-m-preserved
loop-m-preserved c = rw c.loop-m.invariant (between_more _ _ _ c.loop-m.m-index _ refl)
