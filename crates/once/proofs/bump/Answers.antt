-- `once::bump` meets its contract: the test picks the byte.
use borrow.Author.Tests.{eq-eqb, ne_eqb}
use Rattle.once.specs.Once.{bumped}
use Rattle.once.proofs.bump.Goals as goal
use Rattle.once.proofs.bump.Goals.{then-w-x-eq0, else-w-x-eq0}

pub returns : goal.returns
unfolding bumped
returns c =
    elim c.if-w-x-eq0.branch [
      | then-w-x-eq0 v ↦ rw (v.w-is, eq-eqb _ _ v.if-w-x-eq0.true)
      | else-w-x-eq0 v ↦ rw (v.w-is, ne_eqb _ _ v.if-w-x-eq0.false)
    ]
