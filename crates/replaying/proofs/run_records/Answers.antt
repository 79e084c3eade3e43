-- `run_records` meets its contract. The loop's invariant: what is left of the replay is what was left at first.
use mathlib.Core.Path.{◌≡◌, sym, ◌∙◌}
use native.Mathlib.Omega.{arith}
use Rattle.std.specs.Prelude.{Some, None}
use Rattle.runlog.specs.Record.{taken_at}
use Rattle.replaying.proofs.Rest.{taken_in, rest_more, rest_none, rest_first}
use Rattle.replaying.proofs.run_records.Goals as goal

pub loop-taken-smaller : goal.loop-taken-smaller
loop-taken-smaller c =
    let l = c.loop-taken in
    let e : Some c.in-Some.taken ≡ taken_at c.args.log.now l.reader.at = rw (← l.invariant.1) (sym c.in-Some.is ∙ c.next.ensures) in
    omega (arith, taken_in _ _ c.in-Some.taken e)

pub loop-taken-preserved : goal.loop-taken-preserved
loop-taken-preserved c =
    let l = c.loop-taken in
    let p = c.past-reader.ensures in
    let e : Some c.in-Some.taken ≡ taken_at c.args.log.now l.reader.at = rw (← l.invariant.1) (sym c.in-Some.is ∙ c.next.ensures) in
    let t = taken_in _ _ c.in-Some.taken e in (
      rw p.1 (rest_more _ _ c.in-Some.taken e l.records _ _ _ _ _ c.run_record-answer.ensures c.put_answer.ensures) ∙ l.invariant.0,
      rw p.0 l.invariant.1,
      omega arith,
      omega arith,
    )

pub returns : goal.returns
returns c =
    let l = c.loop-taken in
    let e : None ≡ taken_at c.args.log.now l.reader.at = rw (← l.invariant.1) (sym c.in_default.is ∙ c.next.ensures) in
    rw c.then_some.ensures (rest_none _ _ e l.records _ _) ∙ l.invariant.0 ∙ rest_first _ _ _
