-- `is_signed` meets its contract. The invariant: every word of the signature before k is right. A wrong word makes the whole test
-- false.
use lib.Dec.{eqb}
use mathlib.Core.Bool.{true}
use mathlib.Core.Path.{◌≡◌}
use Rattle.infoblock.specs.Info.{signature}
use Rattle.format.specs.Tests.{every}
use Rattle.words.specs.Word.{word}
use Rattle.infoblock.proofs.is_signed.Given as goal

abbrev pub invariant-loop-k : goal.invariant-loop-k
invariant-loop-k l = every l.k (λ j. eqb (word l.b j) (word signature j)) ≡ true
