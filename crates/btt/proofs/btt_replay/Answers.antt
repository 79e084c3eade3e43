-- `btt::btt_replay` meets its contract: the counts and the lent bytes are the replay's, and each way out gives its number.
use Rattle.btt.proofs.Replays.{replay_done, replay_refused}
use Rattle.btt.proofs.btt_replay.Goals as goal

pub returns-then-is_some : goal.returns-then-is_some
returns-then-is_some c =
    rw (c.from.ensures, c.from-in-Ok.ensures, c.unwrap_or.ensures) (replay_done _ _ _ _ _ _ _ _ c.in-Ok.ensures _ (rw (c.number.ensures, ← c.is_some.ensures, c.if-is_some.true)))

pub returns-else-is_some : goal.returns-else-is_some
returns-else-is_some c =
    rw (c.from.ensures, c.from-in-Ok.ensures, c.unwrap_or.ensures) (replay_done _ _ _ _ _ _ _ _ c.in-Ok.ensures _ (rw (← c.is_some.ensures, c.if-is_some.false)))

pub returns-in-Err : goal.returns-in-Err
returns-in-Err c = replay_refused _ _ _ _ _ _ _ _ c.in-Err.ensures _ c.number-in-Err.ensures
