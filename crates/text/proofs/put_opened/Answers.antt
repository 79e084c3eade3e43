-- `text::put_opened` meets its contract: the head, the lanes and the last line, from place 0 on, are `opened_text`, which fits.
use Rattle.text.proofs.Laws.{put_append, whole, opened_pieces}
use borrow.Author.Rules.{rules}
use Rattle.text.proofs.put_opened.Goals as goal

pub returns : goal.returns
returns c =
    let p = c.put_head-a.ensures.0 in
    let q = c.put_lanes-b.ensures.0 in
    rw (← opened_pieces) (whole (put_append (put_append p q) c.put_text.ensures) (search rules))
