-- `text::replay::put_records` meets its contract. The loop's invariant: the lines of the first i records are stored, each at most 30 bytes
-- long.
use borrow.Author.Rules.{rules}
use Rattle.text.proofs.Records.{records_none, records_more}
use Rattle.text.proofs.replay.put_records.Goals as goal

pub loop-i-init : goal.loop-i-init
loop-i-init c = (search rules, records_none _)

pub loop-i-preserved : goal.loop-i-preserved
loop-i-preserved c =
    let i = c.loop-i.invariant in
    (search rules, records_more _ _ c.loop-i-test.true i.1 c.put_record-next.ensures.0)
