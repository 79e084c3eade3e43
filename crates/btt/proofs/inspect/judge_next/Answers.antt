-- `btt::inspect::judge_next` meets its contract: its order begins with that of a look at the lane's record, and then the lane is busy or not.
use mathlib.Core.Path.{sym, ap}
use mathlib.Core.Bool.{not}
use Rattle.std.proofs.lemmas.Result.{err_from_is_err_and}
use Rattle.machine.proofs.Refusals.{not_zero}
use Rattle.seen.proofs.Laws.{busy_seen}
use Rattle.btt.proofs.Looks.{lane_first, lane-idle, lane-flies}
use Rattle.btt.proofs.inspect.judge_next.Goals as goal

pub returns-in_err-judge_lane : goal.returns-in_err-judge_lane
returns-in_err-judge_lane c =
    let p = err_from_is_err_and c.from_residual.result c.from_residual.ensures.1 in
    rw (p.1, p.2) (λ t e. lane_first _ _ _ _ (c.in_err-judge_lane.ensures t e) (not_zero _))

pub returns-then-not-is_busy : goal.returns-then-not-is_busy
returns-then-not-is_busy c =
    let b = c.is_busy.ensures in
    λ t e. lane-idle _ _ _ (sym (c.in_ok-judge_lane.ensures t e)) (ap not (busy_seen _ t _ _ _ e _ _ b (c.if-not-is_busy.true)))

pub returns : goal.returns
returns c =
    let b = c.is_busy.ensures in
    λ t e. lane-flies _ _ _ (sym (c.in_ok-judge_lane.ensures t e)) (ap not (busy_seen _ t _ _ _ e _ _ b (c.if-not-is_busy.false)))
