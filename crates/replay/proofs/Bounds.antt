-- How many records run, and where they stop: as many as the log has, and within its 8,192 bytes.
use mathlib.Core.Bool.{Bool, true, false, cond}
use mathlib.Core.List.{List}
use Prim.Native.Nat.{ℕ, ◌≤◌}
use native.Mathlib.Omega.{arith}
use lib.Dec.{eqb}
use lib.ListN.{length}
use Rattle.format.proofs.Tests.{by_bool}
use Rattle.layout.specs.Told.{alone_near}
use Rattle.machine.specs.calls.Opening.{open_of}
use Rattle.runlog.specs.Log.{log_of}
use Rattle.runlog.proofs.Logs.{log_within}
use Rattle.replaying.specs.Replay.{own_table, room_of, opened_point, replay_of}
use Rattle.replaying.proofs.Claimed.{answers_length}

at_most : (stopped : Bool) (n : ℕ) → n ≤ 8192 → cond stopped n 0 ≤ 8192
at_most true n h = h
at_most false n h = omega arith

pub replay_within : (a work log : List ℕ)
    → (length (replay_of a work log).numbers ≤ 2048) × ((replay_of a work log).at ≤ 8192)
unfolding replay_of
replay_within a work log =
    let o = open_of alone_near a (room_of work own_table) in
    let l = log_within log in
    by_bool (eqb o.number 0) _
    (λ t. rw t (omega (arith, answers_length 0 (opened_point o) (log_of log).records, l.0), at_most (log_of log).stopped _ l.1))
    (λ t. rw t (omega arith, omega arith))
