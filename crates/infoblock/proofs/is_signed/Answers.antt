-- `is_signed` meets its contract. The invariant: every word of the signature before k is right. A wrong word makes the whole test
-- false.
use borrow.Author.Tests.{ne_eqb, eq-eqb}
use native.Mathlib.Omega.{arith}
use mathlib.Core.Path.{◌≡◌, sym, refl, ◌∙◌}
use Rattle.infoblock.proofs.Signed.{signature-word}
use Rattle.infoblock.specs.Info.{signed}
use Rattle.format.specs.Tests.{every}
use Rattle.format.proofs.Tests.{every_more, every_fails}
use Rattle.infoblock.proofs.is_signed.Goals as goal

pub loop-k-init : goal.loop-k-init
unfolding every
loop-k-init c = refl

pub returns-then-word_at-word : goal.returns-then-word_at-word
unfolding signed
returns-then-word_at-word c =
    sym (every_fails 4 _ c.loop-k.k c.loop-k-test.true (ne_eqb _ _ (λ e. c.if-word_at-word.true
    (c.word_at.ensures ∙ e ∙ sym (signature-word c.loop-k.k c.loop-k-test.true)))))

pub loop-k-preserved : goal.loop-k-preserved
loop-k-preserved c =
    every_more c.loop-k.k _ c.loop-k.invariant
    (eq-eqb _ _ (sym c.word_at.ensures ∙ c.if-word_at-word.false ∙ signature-word c.loop-k.k c.loop-k-test.true))

pub returns : goal.returns
unfolding signed
returns c = let e : c.loop-k.k ≡ 4 = omega arith in sym (rw e at c.loop-k.invariant)
