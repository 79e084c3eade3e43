-- `text::put_refused` meets its contract: its line from place 0 on is `refused_text`, which fits.
use Rattle.text.proofs.Laws.{whole, refused_pieces}
use borrow.Author.Rules.{rules}
use Rattle.text.proofs.put_refused.Goals as goal

pub returns : goal.returns
returns c = rw (← refused_pieces) (whole c.put_line.ensures.0 (search rules))
