-- `text::put_lane` meets its contract: its three named numbers, one after the other, are `lane_text`.
use Rattle.text.proofs.Laws.{put_append, lane_pieces}
use borrow.Author.Rules.{rules}
use Rattle.text.proofs.put_lane.Goals as goal

pub returns : goal.returns
returns c =
    let p = c.put_named-a.ensures.0 in
    let q = c.put_named-b.ensures.0 in
    (rw (← lane_pieces) (put_append (put_append p q) c.put_line.ensures.0), search rules)
