-- `text::put_named` meets its contract: the text and then the number.
use Rattle.text.proofs.Laws.{put_append}
use borrow.Author.Rules.{rules}
use Rattle.text.proofs.put_named.Goals as goal

pub returns : goal.returns
returns c =
    (put_append c.put_text-next.ensures c.put_digits.ensures.0, search rules)
