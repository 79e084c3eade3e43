-- `arena::open::cut_open` meets its contract: it is told what an arena by itself is.
use Rattle.std.proofs.lemmas.Result.{err_from_is_err_and}
use Rattle.arena.proofs.open.cut_open.Goals as goal

pub returns-in_err-mended : goal.returns-in_err-mended
returns-in_err-mended c =
    let p = err_from_is_err_and c.from_residual.result c.from_residual.ensures.1 in
    rw (p.1, p.2) (rw c.alone.ensures at c.in_err-mended.ensures.for_table)

pub returns : goal.returns
returns c = rw c.alone.ensures at c.in_ok-mended.ensures.for_table
