-- `writing::write_seen` meets its contract. What is not refused has figures that fit and a begun record in range, so all its stores are
-- within the arena; start and all steps give the arena with these stores and the finished record, whatever table it was of which that is seen.
use mathlib.Core.Path.{refl}
use native.Mathlib.Omega.{arith}
use Rattle.std.proofs.lemmas.Result.{err_from_is_err_and}
use Rattle.machine.specs.state.Handle.{with}
use Rattle.machine.proofs.calls.Running.{handle_fit}
use Rattle.writing.proofs.Whole.{write_refused, write_found_start, write_found_size, begun_fit, write_done}
use Rattle.writing.proofs.write_seen.Goals as goal

pub returns-in_err-judge_write : goal.returns-in_err-judge_write
returns-in_err-judge_write c =
    let p = err_from_is_err_and c.from_residual.result c.from_residual.ensures.1 in
    rw (p.1, p.2) (λ t e. write_refused _ _ t _ _ _ e _ _ (c.in_err-judge_write.ensures t e _ refl))

pub begun-own-requires : goal.begun-own-requires
begun-own-requires c =
    let saw = c.requires in
    let given = c.in_ok-judge_write.ensures saw.table saw.is c.args.buffer.now refl in
    let p = write_found_start _ _ _ _ _ _ saw.is _ given in
    (handle_fit (with c.args.h saw.table) _ p.judged.handle, p.sector)

pub invariant_of-write : goal.invariant_of-write
invariant_of-write c =
    let saw = c.requires in
    let fit = begun_fit _ _ _ _ _ _ saw.is _ (c.in_ok-judge_write.ensures saw.table saw.is c.args.buffer.now refl) in
    record { fit = rw c.begun-own.ensures fit }

pub put_all-requires : goal.put_all-requires
put_all-requires c =
    let saw = c.requires in
    let given = c.in_ok-judge_write.ensures saw.table saw.is c.args.buffer.now refl in
    let p = write_found_start _ _ _ _ _ _ saw.is _ given in
    record { fit = handle_fit (with c.args.h saw.table) _ p.judged.handle; size = write_found_size _ _ _ _ _ _ saw.is _ given }

pub finished-requires : goal.finished-requires
finished-requires c =
    let saw = c.requires in
    let fit = begun_fit _ _ _ _ _ _ saw.is _ (c.in_ok-judge_write.ensures saw.table saw.is c.args.buffer.now refl) in
    rw c.begun-own.ensures (omega (arith, fit.half))

pub returns : goal.returns
returns c =
    λ t e. rw (c.finished.ensures, c.put_all.ensures, c.begun-own.ensures)
    (write_done _ _ t _ _ _ e _ (c.in_ok-judge_write.ensures t e _ refl))
