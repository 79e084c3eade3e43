-- `format::flog::half_at` meets its contract. Each word is read by `word_at`, which ensures that it is that word.
use Rattle.format.specs.Flog.{half_at}
use Rattle.format.proofs.flog.half_at.Goals as goal

pub returns : goal.returns
unfolding half_at
returns c = rw (c.word_at-4.ensures, c.word_at-3.ensures, c.word_at-2.ensures, c.word_at.ensures)
