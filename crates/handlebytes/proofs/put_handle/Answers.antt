-- `handlebytes::put_handle` meets its contract: its words are stored in two runs, one after the other.
use mathlib.Core.Path.{sym}
use Rattle.words.proofs.Runs.{put_words-append}
use Rattle.handlebytes.specs.Bytes.{start_words, figure_words, handle_words}
use Rattle.handlebytes.proofs.put_handle.Goals as goal

pub returns : goal.returns
unfolding handle_words start_words figure_words
returns c =
    let h = c.args.h in
    rw (c.put_figures.ensures, c.put_starts.ensures)
    (sym (put_words-append (start_words h.length h.figures) (figure_words h.figures h.distance) c.args.b.now 0))
