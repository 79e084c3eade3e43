-- `fill_words` meets its contract. The loop's invariant: the words from k on are left.
use mathlib.Core.Path.{◌≡◌, sym, ap, ◌∙◌}
use Prim.Native.Nat.{◌/◌}
use native.Mathlib.Omega.{arith}
use lib.ListN.{length}
use Rattle.words.proofs.Laws.{length-put_word}
use Rattle.layout.specs.Sizes.{max_size}
use Rattle.replaying.proofs.Words.{fill_more, fill_end}
use Rattle.replaying.proofs.run.fill_words.Goals as goal

pub loop-k-preserved : goal.loop-k-preserved
loop-k-preserved c =
    let l = c.loop-k in
    let e = c.put_word.ensures in
    (l.invariant.0 ∙ rw e (fill_more _ _ l.k (max_size / 4) (omega (arith, c.loop-k-test.true))), ap length e ∙ length-put_word _ _ _ ∙ l.invariant.1)

pub returns : goal.returns
returns c =
    let l = c.loop-k in
    let e : max_size / 4 ≡ l.k = omega (arith, l.auto.k-end, c.loop-k-test.false) in
    sym (l.invariant.0 ∙ fill_end _ _ l.k (max_size / 4) e)
