-- `fletcher::Sums::add_singly` meets its contract. The loop's invariant: the sums are those with k words more.
use Rattle.std.proofs.Common.{◌≡◌}
use Rattle.words.specs.Word.{words_from}
use Rattle.fletcher.specs.Fletcher.{added_all}
use Rattle.fletcher.proofs.Sums.add_singly.Given as goal

abbrev pub invariant-loop-k : goal.invariant-loop-k
invariant-loop-k l = l.sums ≡ added_all l.initial.sums (words_from l.a l.i l.k)
