-- `table::fill` meets its contract: each turn puts the next lane's record in its place.
use native.Mathlib.Omega.{arith}
use Rattle.table.proofs.Laws.{filled_none, filled_more}
use Rattle.table.proofs.fill.Goals as goal

pub loop-l-init : goal.loop-l-init
loop-l-init c = filled_none c.args.h c.args.arena.now c.args.table.now

pub loop-l-preserved : goal.loop-l-preserved
loop-l-preserved c =
    rw (c.found_lane.ensures, c.loop-l.invariant)
    (filled_more c.args.h c.args.arena.now c.args.table.now c.loop-l.l (omega arith))
