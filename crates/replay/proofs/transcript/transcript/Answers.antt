-- `replay::transcript::transcript` meets its contract: each way out is one law of the transcript.
use mathlib.Core.Path.{sym}
use native.Mathlib.Omega.{arith}
use lib.Seq.{length-take-le}
use Rattle.replay.proofs.Laws.{too_long, few, transcribed, refused}
use Rattle.replay.proofs.transcript.transcript.Goals as goal

pub returns-then-arena-gt-LIMIT-clause-transcribed : goal.returns-then-arena-gt-LIMIT-clause-transcribed
returns-then-arena-gt-LIMIT-clause-transcribed c =
    let s = c.args in
    let p = rw c.number.ensures at c.put_replay.ensures in
    too_long s.arena.now s.log.now s.out.now c.put_replay.new.out _ c.if-arena-gt-LIMIT.true p.0 p.1

pub slice_bounds-answers-end : goal.slice_bounds-answers-end
slice_bounds-answers-end c = let r = c.in-Ok in omega (arith, few _ _ _ _ _ r.done r.ensures)

pub slice_bounds-put_replay-end-in-Ok : goal.slice_bounds-put_replay-end-in-Ok
slice_bounds-put_replay-end-in-Ok c = let r = c.in-Ok in sym (length-take-le _ _ (omega (arith, few _ _ _ _ _ r.done r.ensures)))

pub returns-in-Ok-clause-transcribed : goal.returns-in-Ok-clause-transcribed
returns-in-Ok-clause-transcribed c =
    let r = c.in-Ok in
    let p = c.put_replay-in-Ok.ensures in
    transcribed _ _ _ _ _ r.done r.ensures c.if-arena-gt-LIMIT.false c.args.out.now c.put_replay-in-Ok.new.out _ p.0 p.1

pub returns-in-Err-clause-transcribed : goal.returns-in-Err-clause-transcribed
returns-in-Err-clause-transcribed c =
    let r = c.in-Err in
    let p = c.put_replay-in-Err.ensures in
    refused _ _ _ _ _ r.refusal r.ensures c.if-arena-gt-LIMIT.false c.args.out.now c.put_replay-in-Err.new.out _ _ c.number-in-Err.ensures p.0 p.1
