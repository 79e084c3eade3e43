-- `infoblock::put_head` meets its contract. The invariant: the first k words are stored.
use mathlib.Core.Path.{sym, refl, ◌∙◌}
use native.Mathlib.Omega.{arith}
use Rattle.infoblock.proofs.Stored.{put_words-take}
use Rattle.words.specs.Word.{put_words}
use Rattle.infoblock.proofs.put_head.Goals as goal

pub loop-k-init : goal.loop-k-init
unfolding put_words
loop-k-init c = refl

pub loop-k-preserved : goal.loop-k-preserved
loop-k-preserved c = c.put_word.ensures ∙ rw c.loop-k.invariant (sym (put_words-take c.args.head c.args.a.now c.args.i c.loop-k.k (omega arith)))
