-- `fletcher::columns::Columns::of_turns` meets its contract. The invariant: the columns stand for the sums of k turns.
use Rattle.std.proofs.Common.{◌≡◌, ◌*◌}
use Rattle.words.specs.Word.{words_from}
use Rattle.fletcher.specs.Fletcher.{added_all}
use Rattle.fletcher.specs.Columns.{sums_of}
use Rattle.fletcher.proofs.columns.Columns.of_turns.Given as goal

abbrev pub invariant-loop-k : goal.invariant-loop-k
invariant-loop-k l = sums_of l.columns ≡ added_all (record { low = 0; high = 0 }) (words_from l.a l.i (8 * l.k))
