-- `text::replay::put_records` meets its contract. The loop's invariant: the lines of the first i records are stored, each at most 30 bytes
-- long.
use Prim.Native.Nat.{◌*◌, ◌≤◌}
use lib.ListN.{take}
use Rattle.text.specs.Put.{Put}
use Rattle.text.specs.Replay.{records_text}
use Rattle.text.proofs.replay.put_records.Given as goal

abbrev pub invariant-loop-i : goal.invariant-loop-i
invariant-loop-i l = (l.next ≤ 30 * l.i) × Put l.initial.out l.out 0 l.next (records_text 0 (take l.i l.numbers))
