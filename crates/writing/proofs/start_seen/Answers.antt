-- `writing::start_seen` meets its contract: what is not refused has figures that fit and a lane and a sector in range, so a write can begin
-- there, whatever table it was of which that is seen.
use Rattle.std.proofs.lemmas.Result.{err_from_is_err_and}
use Rattle.machine.specs.state.Handle.{with}
use Rattle.machine.proofs.calls.Running.{handle_fit}
use Rattle.writing.proofs.Rules.{start_refused, start_done, start_passed}
use Rattle.writing.proofs.start_seen.Goals as goal

pub returns-in_err-judge_write : goal.returns-in_err-judge_write
returns-in_err-judge_write c =
    let p = err_from_is_err_and c.from_residual.result c.from_residual.ensures.1 in
    rw (p.1, p.2) (λ t e. start_refused _ _ t _ _ _ e _ (c.in_err-judge_write.ensures t e))

pub begun-requires : goal.begun-requires
begun-requires c =
    let saw = c.requires in
    let p = start_passed _ _ _ _ _ _ saw.is (c.in_ok-judge_write.ensures saw.table saw.is) in
    (handle_fit (with c.args.h saw.table) _ p.judged.handle, p.sector)

pub returns : goal.returns
returns c = λ t e. rw c.begun.ensures (start_done _ _ t _ _ _ e (c.in_ok-judge_write.ensures t e))
