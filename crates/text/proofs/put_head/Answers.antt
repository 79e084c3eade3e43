-- `text::put_head` meets its contract: its four lines, one after the other, are `head_text`.
use Rattle.text.proofs.Laws.{put_append, head_pieces}
use borrow.Author.Rules.{rules}
use Rattle.text.proofs.put_head.Goals as goal

pub returns : goal.returns
returns c =
    let three = put_append (put_append c.put_line-a.ensures.0 c.put_line-b.ensures.0) c.put_line-c.ensures.0 in
    (rw (← head_pieces) (put_append three c.put_line.ensures.0), search rules)
