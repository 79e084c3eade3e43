-- `reading::copy_words` meets its contract. The loop's invariant: k words are copied.
use mathlib.Core.Path.{refl, sym}
use Rattle.words.specs.Word.{put_words, words_from}
use Rattle.reading.proofs.Copies.{copy_step}
use Rattle.reading.proofs.copy_words.Goals as goal

pub loop-k-init : goal.loop-k-init
unfolding put_words words_from
loop-k-init c = refl

pub loop-k-preserved : goal.loop-k-preserved
loop-k-preserved c = rw (c.put_word.ensures, c.word_at.ensures, c.loop-k.invariant) (sym (copy_step _ _ _ c.loop-k.k))
