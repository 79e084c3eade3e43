-- `reading::copy_words` meets its contract. The loop's invariant: k words are copied.
use mathlib.Core.Path.{◌≡◌}
use Rattle.words.specs.Word.{put_words, words_from}
use Rattle.reading.proofs.copy_words.Given as goal

abbrev pub invariant-loop-k : goal.invariant-loop-k
invariant-loop-k l = l.buffer ≡ put_words l.initial.buffer 0 (words_from l.arena l.i l.k)
