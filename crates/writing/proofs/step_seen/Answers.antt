-- `writing::step_seen` meets its contract: what is not refused has figures that fit and a record in range, so its next store is within the
-- arena, whatever table it was of which that is seen.
use native.Mathlib.Omega.{arith}
use Rattle.std.proofs.lemmas.Result.{err_from_is_err_and}
use Rattle.machine.specs.state.Handle.{with}
use Rattle.machine.proofs.calls.Running.{handle_fit}
use Rattle.stores.proofs.Plans.{fit_at}
use Rattle.writing.proofs.Rules.{step_refused, step_passed, step_done, own_fit}
use Rattle.writing.proofs.step_seen.Goals as goal

pub returns-in_err-judge_step : goal.returns-in_err-judge_step
returns-in_err-judge_step c =
    let p = err_from_is_err_and c.from_residual.result c.from_residual.ensures.1 in
    rw (p.1, p.2) (λ t e. step_refused _ _ t _ _ _ e _ _ (c.in_err-judge_step.ensures t e))

pub invariant_of-write : goal.invariant_of-write
invariant_of-write c =
    let saw = c.requires in
    record { fit = fit_at _ _ _ _ 0 (own_fit _ _ _ _ _ _ saw.is _ (c.in_ok-judge_step.ensures saw.table saw.is)) (omega arith) }

pub put-requires : goal.put-requires
put-requires c =
    let saw = c.requires in
    let given = c.in_ok-judge_step.ensures saw.table saw.is in
    let p = step_passed _ _ _ _ _ _ saw.is _ given in
    record { fit = handle_fit (with c.args.h saw.table) _ p.judged.handle; store = (own_fit _ _ _ _ _ _ saw.is _ given).store; size = p.size }

pub after_store-requires : goal.after_store-requires
after_store-requires c =
    let saw = c.requires in
    let fit = own_fit _ _ _ _ _ _ saw.is _ (c.in_ok-judge_step.ensures saw.table saw.is) in
    (omega (arith, fit.half), omega (arith, fit.store), omega (arith, fit.size))

pub returns : goal.returns
returns c =
    λ t e. rw (c.after_store.ensures c.args.h.distance, c.put.ensures) (step_done _ _ t _ _ _ e _ (c.in_ok-judge_step.ensures t e))
