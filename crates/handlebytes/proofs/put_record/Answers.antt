-- `handlebytes::put_record` meets its contract: the stores are those of the run of words.
use Rattle.words.specs.Word.{put_words}
use Rattle.handlebytes.specs.Bytes.{record_words}
use Rattle.handlebytes.proofs.put_record.Goals as goal

pub returns : goal.returns
unfolding record_words put_words
returns c =
    rw (
      c.put_word-7.ensures,
      c.put_word-6.ensures,
      c.put_word-5.ensures,
      c.put_word-4.ensures,
      c.put_word-3.ensures,
      c.put_word-2.ensures,
      c.put_word.ensures,
    )
