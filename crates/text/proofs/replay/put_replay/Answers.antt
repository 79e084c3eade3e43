-- `text::replay::put_replay` meets its contract: on each way out its lines, from place 0 on, are `replay_text`, which fits.
use Rattle.text.proofs.Laws.{put_append, whole}
use Rattle.text.proofs.Records.{replay_refused, replay_stopped, replay_ended}
use borrow.Author.Rules.{rules}
use mathlib.Core.Path.{refl}
use mathlib.Core.Bool.{true, false}
use Rattle.text.proofs.replay.put_replay.Goals as goal

pub returns-then-first-ne0 : goal.returns-then-first-ne0
returns-then-first-ne0 c =
    rw (← replay_refused _ _ _ _ c.if-first-ne0.true) (whole c.put_line.ensures.0 (search rules))

pub returns-in-Some : goal.returns-in-Some
returns-in-Some c =
    rw (c.in-Some.is, ← replay_stopped c.args.first c.args.numbers.now true c.in-Some.at c.if-first-ne0.false refl)
    (whole (put_append c.put_records-next.ensures.0 c.put_line-in-Some.ensures.0) (search rules))

pub returns-in-None : goal.returns-in-None
returns-in-None c =
    rw (c.in-None.is, ← replay_ended c.args.first c.args.numbers.now false 0 c.if-first-ne0.false refl)
    (whole c.put_records-next.ensures.0 (search rules))
