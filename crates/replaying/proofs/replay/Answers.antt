-- `replay` meets its contract: the first opening with a table of its own, and then the records of a log that is not too long.
use mathlib.Core.Path.{◌∙◌}
use Rattle.std.proofs.lemmas.List.{length-replicate}
use Rattle.std.proofs.lemmas.Result.{err_from_is_err_and}
use Rattle.machine.specs.state.Lane.{no_lane}
use Rattle.replaying.specs.Replay.{own_table}
use Rattle.replaying.proofs.Rest.{refused, too_long, ran_all}
use Rattle.replaying.proofs.replay.Goals as goal

pub returns-in_err-opened : goal.returns-in_err-opened
returns-in_err-opened c =
    let p = err_from_is_err_and c.from_residual.result c.from_residual.ensures.1 in
    rw (p.1, p.2) (refused _ _ _ _ _ _ _ (c.in_err-opened.ensures.for_table own_table (length-replicate 256 no_lane)))

pub returns-then-log-gt-MAX_LOG : goal.returns-then-log-gt-MAX_LOG
returns-then-log-gt-MAX_LOG c =
    let o = c.in_ok-opened in
    too_long _ _ _ _ _ _ o.opened (o.ensures.for_table own_table (length-replicate 256 no_lane)) c.if-log-gt-MAX_LOG.true

pub returns : goal.returns
returns c =
    let o = c.in_ok-opened in
    c.run_records.ensures
    ∙ ran_all _ _ _ _ _ _ o.opened (o.ensures.for_table own_table (length-replicate 256 no_lane)) c.if-log-gt-MAX_LOG.false
    c.fill.new.table (c.fill.ensures ∙ rw c.none-table.ensures)
