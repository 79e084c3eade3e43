-- `text::replay::put_record` meets its contract: the index, a space and what was answered, one after the other, are `record_text`.
use Rattle.text.proofs.Laws.{put_append}
use Rattle.text.proofs.Records.{record_ok, record_refused}
use borrow.Author.Rules.{rules}
use Rattle.text.proofs.replay.put_record.Goals as goal

pub returns-then-number-eq0 : goal.returns-then-number-eq0
returns-then-number-eq0 c =
    let two = put_append c.put_digits-a.ensures.0 c.put_text-b.ensures in
    (rw (← record_ok _ _ c.if-number-eq0.true) (put_append two c.put_text.ensures), search rules)

pub returns : goal.returns
returns c =
    let two = put_append c.put_digits-a.ensures.0 c.put_text-b.ensures in
    let line = rw c.from.ensures at c.put_line.ensures.0 in
    (rw (← record_refused _ _ c.if-number-eq0.false) (put_append two line), search rules)
