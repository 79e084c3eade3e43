-- `handlebytes::handle_in` meets its contract: its numbers are read one by one.
use Rattle.handlebytes.specs.Bytes.{decode_handle}
use Rattle.handlebytes.proofs.handle_in.Goals as goal

pub returns : goal.returns
unfolding decode_handle
returns c =
    rw (c.figures_at-figures.ensures, c.long_at.ensures, c.word_at.ensures)
