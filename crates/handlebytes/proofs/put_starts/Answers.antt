-- `handlebytes::put_starts` meets its contract: the stores are those of the run of words.
use Rattle.words.specs.Word.{put_words, put_long}
use Rattle.handlebytes.specs.Bytes.{start_words}
use Rattle.handlebytes.proofs.put_starts.Goals as goal

pub returns : goal.returns
unfolding start_words put_words put_long
returns c =
    rw (
      c.put_long-5.ensures,
      c.put_long-4.ensures,
      c.put_long-3.ensures,
      c.put_long-2.ensures,
      c.put_long.ensures,
    )
