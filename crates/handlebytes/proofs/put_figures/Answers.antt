-- `handlebytes::put_figures` meets its contract: the stores are those of the run of words.
use Rattle.words.specs.Word.{put_words}
use Rattle.handlebytes.specs.Bytes.{figure_words}
use Rattle.handlebytes.proofs.put_figures.Goals as goal

pub returns : goal.returns
unfolding figure_words put_words
returns c =
    rw (
      c.put_word-6.ensures,
      c.put_word-5.ensures,
      c.put_word-4.ensures,
      c.put_word-3.ensures,
      c.put_word-2.ensures,
      c.put_word.ensures,
    )
