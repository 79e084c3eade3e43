-- `text::put_line` meets its contract: the text and the number, and then the newline.
use Rattle.text.proofs.Laws.{put_append}
use borrow.Author.Rules.{rules}
use Rattle.text.proofs.put_line.Goals as goal

pub returns : goal.returns
returns c =
    (put_append c.put_named-next.ensures.0 c.put_text.ensures, search rules)
