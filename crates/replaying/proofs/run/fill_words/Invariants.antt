-- `fill_words` meets its contract. The loop's invariant: the words from k on are left.
use mathlib.Core.Path.{◌≡◌}
use Prim.Native.Nat.{◌+◌, ◌-◌, ◌/◌}
use lib.ListN.{length}
use Rattle.words.specs.Word.{put_words}
use Rattle.layout.specs.Sizes.{max_size}
use Rattle.replaying.specs.Replay.{rising, words_for}
use Rattle.replaying.proofs.run.fill_words.Given as goal

abbrev pub invariant-loop-k : goal.invariant-loop-k
invariant-loop-k l =
    (words_for l.index l.initial.buffer ≡ put_words l.buffer l.k (rising (l.index + l.k) (max_size / 4 - l.k))) × (length l.buffer ≡ max_size)
