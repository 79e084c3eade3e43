-- `text::put_lanes` meets its contract. The loop's invariant: the lines of the lanes below l are stored, each at most 48 bytes long.
use Prim.Native.Nat.{◌+◌, ◌*◌, ◌≤◌}
use Rattle.text.specs.Put.{Put}
use Rattle.text.specs.Opened.{opened}
use Rattle.text.specs.Text.{lanes_text}
use Rattle.text.proofs.put_lanes.Given as goal

abbrev pub invariant-loop-l : goal.invariant-loop-l
invariant-loop-l l = (l.next ≤ l.at + 48 * l.l) × Put l.initial.out l.out l.at l.next (lanes_text (opened l.h l.arena).table l.l)
