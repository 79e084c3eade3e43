-- `once::count_each` meets its contract.
use Rattle.once.proofs.Counts.{counted_none, counted_more}
use Rattle.once.proofs.count_each.Goals as goal

pub loop-i-init : goal.loop-i-init
loop-i-init g c = λ f h. counted_none _ _

pub loop-i-preserved : goal.loop-i-preserved
loop-i-preserved g c = λ f h.
    counted_more _ _ _ _ _ _ (c.loop-i.invariant f h) (h _ _ c.loop-i-test.true c.block.ensures) c.bump.ensures
