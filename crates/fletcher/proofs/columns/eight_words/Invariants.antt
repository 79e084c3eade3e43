-- `fletcher::columns::eight_words` meets its contract. The invariant: the first j are stored.
use Rattle.std.proofs.Common.{◌≡◌, length, take}
use Rattle.words.specs.Word.{words_from}
use Rattle.fletcher.proofs.columns.eight_words.Given as goal

abbrev pub invariant-loop-j : goal.invariant-loop-j
invariant-loop-j l = (length l.words ≡ 8) × (take l.j l.words ≡ take l.j (words_from l.a l.i 8))
