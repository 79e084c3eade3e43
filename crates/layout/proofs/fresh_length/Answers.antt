-- `layout::fresh_length` meets its contract. Allowed sizes bound the copy's start, so that the sum does not wrap.
use native.Mathlib.Omega.{arith}
use Rattle.layout.proofs.Bounds.{copy_small}
use Rattle.layout.proofs.fresh_length.Goals as goal

pub overflow_add-result : goal.overflow_add-result
overflow_add-result c =
    let a = c.args in
    let p = copy_small a.size a.sectors a.lanes c.requires (omega arith) in
    omega (arith, c.fresh_starts.ensures.copyoff)
