-- `infoblock::put_head` meets its contract. The invariant: the first k words are stored.
use Rattle.std.proofs.Common.{◌≡◌, take}
use Rattle.words.specs.Word.{put_words}
use Rattle.infoblock.proofs.put_head.Given as goal

abbrev pub invariant-loop-k : goal.invariant-loop-k
invariant-loop-k l = l.a ≡ put_words l.initial.a l.i (take l.k l.word-items)
