-- `words::zero_words` meets its contract. The loop's invariant: k zero words are stored.
use lib.ListN.{replicate}
use mathlib.Core.Path.{◌≡◌}
use Rattle.words.specs.Word.{put_words}
use Rattle.words.proofs.zero_words.Given as goal

abbrev pub invariant-loop-k : goal.invariant-loop-k
invariant-loop-k l = l.a ≡ put_words l.initial.a l.i (replicate l.k 0)
