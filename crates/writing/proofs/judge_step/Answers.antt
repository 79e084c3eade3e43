-- `writing::judge_step` meets its contract: the first rules are judged by what was seen, and the other tests are those of a step's rules, in
-- their order.
use mathlib.Core.Path.{refl, ap}
use mathlib.Core.Bool.{not}
use borrow.Author.Tests.{le-leb, lt-leb, eq-eqb, ne_eqb}
use Rattle.std.proofs.lemmas.Result.{err_from_is_err_and}
use Rattle.machine.specs.calls.Judging.{call_number}
use Rattle.machine.proofs.rules.Rules.{stop, pass, through}
use Rattle.seen.proofs.Laws.{busy_seen, refused_first, passed_walk}
use Rattle.writing.proofs.judge_step.Goals as goal

pub returns-in_err-judge_table : goal.returns-in_err-judge_table
unfolding call_number
returns-in_err-judge_table c =
    let p = err_from_is_err_and c.from_residual.result c.from_residual.ensures.1 in
    rw (p.1, p.2) (λ t e. refused_first _ _ _ _ (c.in_err-judge_table.ensures _ _ _ refl t e))

pub returns-then-h-lane : goal.returns-then-h-lane
unfolding call_number
returns-then-h-lane c =
    λ t e. passed_walk _ _ _ (c.in_ok-judge_table.ensures _ _ _ refl t e) (stop (le-leb _ _ c.if-h-lane.true))

pub returns-then-not-is_busy : goal.returns-then-not-is_busy
unfolding call_number
returns-then-not-is_busy c =
    let b = c.is_busy.ensures in
    λ t e. passed_walk _ _ _ (c.in_ok-judge_table.ensures _ _ _ refl t e)
    (pass (lt-leb _ _ c.if-h-lane.false) (stop (ap not (busy_seen _ t _ _ _ e _ _ b (c.if-not-is_busy.true)))))

pub returns-then-buffer-h : goal.returns-then-buffer-h
unfolding call_number
returns-then-buffer-h c =
    let b = c.is_busy.ensures in
    λ t e. passed_walk _ _ _ (c.in_ok-judge_table.ensures _ _ _ refl t e)
    (pass (lt-leb _ _ c.if-h-lane.false) (pass (ap not (busy_seen _ t _ _ _ e _ _ b (c.if-not-is_busy.false)))
    (stop (ap not (ne_eqb _ _ c.if-buffer-h.true)))))

pub returns : goal.returns
unfolding call_number
returns c =
    let b = c.is_busy.ensures in
    λ t e. passed_walk _ _ _ (c.in_ok-judge_table.ensures _ _ _ refl t e)
    (pass (lt-leb _ _ c.if-h-lane.false) (pass (ap not (busy_seen _ t _ _ _ e _ _ b (c.if-not-is_busy.false)))
    (pass (ap not (eq-eqb _ _ c.if-buffer-h.false)) through)))
