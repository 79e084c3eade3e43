-- `making::put_flog` meets its contract. The loop's invariant: l lanes are stored.
use mathlib.Core.Path.{◌≡◌}
use Rattle.words.specs.Word.{put_words}
use Rattle.machine.specs.calls.Making.{fresh_flog}
use Rattle.making.proofs.put_flog.Given as goal

abbrev pub invariant-loop-l : goal.invariant-loop-l
invariant-loop-l l = l.a ≡ put_words l.initial.a l.i (fresh_flog l.sectors 0 l.l)
