-- `btt::inspect::judge_lane` meets its contract: the first rules are judged by what was seen, and then the lane.
use mathlib.Core.Path.{refl}
use borrow.Author.Tests.{le-leb, lt-leb}
use Rattle.std.proofs.lemmas.Result.{err_from_is_err_and}
use Rattle.machine.proofs.rules.Rules.{stop, pass, through}
use Rattle.seen.proofs.Laws.{refused_first, passed_walk}
use Rattle.btt.specs.Calls.{lane_number}
use Rattle.btt.proofs.inspect.judge_lane.Goals as goal

pub returns-in_err-judge_table : goal.returns-in_err-judge_table
unfolding lane_number
returns-in_err-judge_table c =
    let p = err_from_is_err_and c.from_residual.result c.from_residual.ensures.1 in
    rw (p.1, p.2) (λ t e. refused_first _ _ _ _ (c.in_err-judge_table.ensures _ _ _ refl t e))

pub returns-then-h-lane : goal.returns-then-h-lane
unfolding lane_number
returns-then-h-lane c = λ t e. passed_walk _ _ _ (c.in_ok-judge_table.ensures _ _ _ refl t e) (stop (le-leb _ _ c.if-h-lane.true))

pub returns : goal.returns
unfolding lane_number
returns c = λ t e. passed_walk _ _ _ (c.in_ok-judge_table.ensures _ _ _ refl t e) (pass (lt-leb _ _ c.if-h-lane.false) through)
