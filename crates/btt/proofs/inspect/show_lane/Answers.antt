-- `btt::inspect::show_lane` meets its contract: a refused look leaves the bytes, and an accepted one puts the lane's own record there.
use Rattle.std.proofs.lemmas.Result.{err_from_is_err_and}
use Rattle.machine.proofs.Refusals.{not_zero}
use Rattle.seen.proofs.Laws.{seen_own}
use Rattle.btt.proofs.Looks.{lane-shown}
use Rattle.btt.specs.Calls.{lane_shown}
use Rattle.btt.proofs.inspect.show_lane.Goals as goal

pub returns-in_err-judge_lane : goal.returns-in_err-judge_lane
unfolding lane_shown
returns-in_err-judge_lane c =
    let p = err_from_is_err_and c.from_residual.result c.from_residual.ensures.1 in
    rw (p.1, p.2) (λ t e. rw (← c.in_err-judge_lane.ensures t e, not_zero _))

pub returns : goal.returns
returns c =
    let a = c.args.arena.now in
    λ t e. lane-shown _ _ _ _ _ _ (c.in_ok-judge_lane.ensures t e) (seen_own a _ t _ _ _ e) c.put_record.ensures
