-- `words::zero_words` meets its contract: one zero word more is stored.
use mathlib.Core.Path.{refl, sym}
use Rattle.words.proofs.Runs.{put_words-zeros}
use Rattle.words.specs.Word.{put_words}
use Rattle.words.proofs.zero_words.Goals as goal

pub loop-k-init : goal.loop-k-init
unfolding put_words
loop-k-init c = refl

pub loop-k-preserved : goal.loop-k-preserved
loop-k-preserved c = rw (c.put_word.ensures, c.loop-k.invariant) (sym (put_words-zeros _ _ c.loop-k.k))
