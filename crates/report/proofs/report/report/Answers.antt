-- `report::report::report` meets its contract: each way out is one law of the report.
use lib.ListN.{length-replicate}
use Rattle.layout.specs.Figures.{max_lanes}
use Rattle.machine.specs.state.Answer.{refusal_number}
use Rattle.machine.specs.state.Lane.{no_lane}
use Rattle.text.specs.Opened.{opened}
use Rattle.text.specs.Text.{refused_text, opened_text}
use Rattle.text.proofs.Laws.{counted}
use Rattle.report.specs.Report.{lent}
use Rattle.report.proofs.Laws.{too_long, refused_report, opened_report, few_lines}
use Rattle.report.proofs.report.report.Goals as goal

pub returns-then-input-gt-LIMIT : goal.returns-then-input-gt-LIMIT
returns-then-input-gt-LIMIT c =
    let p = c.put_refused.ensures in record {
      reported = too_long c.args.input.now c.args.out.now c.put_refused.new.out _ c.if-input-gt-LIMIT.true p.0 p.1;
      prefix_len = counted (refused_text 1) c.args.out.now _ _ p.0 p.1;
    }

pub returns-in-Err : goal.returns-in-Err
returns-in-Err c =
    let p = rw c.number.ensures at c.put_refused-in-Err.ensures in
    let x = c.in-Err.refusal in
    let given = c.in-Err.ensures.for_table lent.table (length-replicate max_lanes no_lane) in
    let r = refused_report _ _ _ c.if-input-gt-LIMIT.false x given in record {
      reported = r c.args.out.now c.put_refused-in-Err.new.out _ p.0 p.1;
      prefix_len = counted (refused_text (refusal_number x)) c.args.out.now _ _ p.0 p.1;
    }

pub put_opened-requires : goal.put_opened-requires
put_opened-requires c =
    let given = c.in-Ok.ensures.for_table lent.table (length-replicate max_lanes no_lane) in
    (c.in-Ok.ensures.lanes_fit.0, few_lines _ _ _ c.if-input-gt-LIMIT.false c.in-Ok.opened given)

pub returns-in-Ok : goal.returns-in-Ok
returns-in-Ok c =
    let p = c.put_opened.ensures in
    let o = c.in-Ok.opened in
    let given = c.in-Ok.ensures.for_table lent.table (length-replicate max_lanes no_lane) in
    let r = opened_report _ _ _ c.if-input-gt-LIMIT.false o given in record {
      reported = r c.args.out.now c.put_opened.new.out _ p.0 p.1;
      prefix_len = counted (opened_text (opened o.handle c.«open».new.arena) o.mended) c.args.out.now _ _ p.0 p.1;
    }
