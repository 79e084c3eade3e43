-- `run_record` meets its contract: each arm's call is that record's, by what is seen of the table.
use mathlib.Core.Path.{refl}
use Rattle.std.specs.Prelude.{Ok, Err}
use Rattle.std.proofs.lemmas.Result.{err_from_is_err_and}
use Rattle.replaying.proofs.Did.{start_ran, step_ran, cut_ran}
use Rattle.replaying.proofs.run.run_record.Goals as goal

pub start_seen-requires : goal.start_seen-requires
start_seen-requires c = record { table = c.args.table.now; is = c.look-seen.ensures }

pub run_step-requires : goal.run_step-requires
run_step-requires c = (c.requires, record { table = c.args.table.now; is = c.look-seen-in-Step.ensures })

pub returns-in-Start : goal.returns-in-Start
returns-in-Start c =
    let k = c.keep.ensures in
    rw c.in-Start.is (start_ran _ _ _ _ c.args.table.now _ _ c.start_seen.result _ _ (c.start_seen.ensures _ c.look-seen.ensures) k.answer k.table_after)

pub returns-in-Step : goal.returns-in-Step
returns-in-Step c =
    let k = c.keep-in-Step.ensures in
    rw c.in-Step.is (step_ran _ _ _ _ c.args.table.now _ _ c.run_step.result _ _ (c.run_step.ensures _ c.look-seen-in-Step.ensures) k.answer k.table_after)

pub returns-in_err-opened-in-Cut : goal.returns-in_err-opened-in-Cut
returns-in_err-opened-in-Cut c =
    let p = err_from_is_err_and c.from_residual.result c.from_residual.ensures.1 in
    rw (p.1, p.2, c.in-Cut.is)
    (cut_ran _ _ _ _ c.args.table.now _ _ (Err _) _ _ _ (c.in_err-opened-in-Cut.ensures.for_table _ refl) refl refl refl)

pub returns-in_ok-opened-in-Cut : goal.returns-in_ok-opened-in-Cut
returns-in_ok-opened-in-Cut c =
    let o = c.in_ok-opened-in-Cut in
    rw c.in-Cut.is (cut_ran _ _ _ _ c.args.table.now _ _ (Ok o.opened) _ _ _ (o.ensures.for_table _ refl) refl refl c.fill.ensures)
