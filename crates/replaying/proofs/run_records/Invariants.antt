-- `run_records` meets its contract. The loop's invariant: what is left of the replay is what was left at first.
use Rattle.std.proofs.Common.{◌≡◌, ◌-◌, ◌≤◌, length}
use Rattle.replaying.specs.Gave.{point_at, rest}
use Rattle.replaying.proofs.run_records.Given as goal

abbrev pub invariant-loop-taken : goal.invariant-loop-taken
invariant-loop-taken l =
    (rest l.log l.reader.at l.records (point_at l.arena l.work l.handle l.table) l.answers
    ≡ rest l.log 0 0 (point_at l.fn.arena l.fn.work l.fn.opened l.fn.table) l.fn.answers)
    × (l.reader.log.now ≡ l.log) × (l.records ≤ l.reader.at) × (l.reader.at ≤ length l.log)

abbrev pub decreases-loop-taken : goal.decreases-loop-taken
decreases-loop-taken l = length l.log - l.reader.at
