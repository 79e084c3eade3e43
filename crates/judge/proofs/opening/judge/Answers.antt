-- `judge::opening::judge` meets its contract: one law for each way in which judging ends.
use mathlib.Core.Path.{refl, ap, ◌∙◌}
use mathlib.Core.List.{List, ◌++◌}
use Prim.Native.Nat.{ℕ}
use lib.ListN.{drop}
use Rattle.std.proofs.lemmas.Result.{err_from_is_err_and}
use Rattle.once.proofs.Blocks.{zeroed}
use Rattle.judge.proofs.Rules.{info_refuses, figures_fit, room-refuses, table-refuses, map_ends}
use Rattle.judge.proofs.opening.judge.Goals as goal

pub returns-in_err-f-clause-answer_value : goal.returns-in_err-f-clause-answer_value
returns-in_err-f-clause-answer_value c =
    let p = err_from_is_err_and c.from_residual.result c.from_residual.ensures.1 in
    rw (p.1, p.2) (info_refuses c.args.told c.args.a.now c.args.work.now c.args.records _ (c.in_err-f.ensures.answer_value _)).number

pub returns-in_err-f-clause-work_after : goal.returns-in_err-f-clause-work_after
returns-in_err-f-clause-work_after c =
    (info_refuses c.args.told c.args.a.now c.args.work.now c.args.records _ (c.in_err-f.ensures.answer_value _)).buffer

pub returns-then-work-f-clause-answer_value : goal.returns-then-work-f-clause-answer_value
returns-then-work-f-clause-answer_value c =
    let i = c.in_ok-f.ensures in
    (room-refuses c.args.told c.args.a.now c.args.work.now c.args.records _ (i.answer_value _) i.figures_value c.if-work-f.true).number

pub returns-then-work-f-clause-work_after : goal.returns-then-work-f-clause-work_after
returns-then-work-f-clause-work_after c =
    let i = c.in_ok-f.ensures in
    (room-refuses c.args.told c.args.a.now c.args.work.now c.args.records _ (i.answer_value _) i.figures_value c.if-work-f.true).buffer

pub returns-then-records-f-clause-answer_value : goal.returns-then-records-f-clause-answer_value
returns-then-records-f-clause-answer_value c =
    let i = c.in_ok-f.ensures in
    (table-refuses c.args.told c.args.a.now c.args.work.now c.args.records _ (i.answer_value _) i.figures_value c.if-work-f.false c.if-records-f.true).number

pub returns-then-records-f-clause-work_after : goal.returns-then-records-f-clause-work_after
returns-then-records-f-clause-work_after c =
    let i = c.in_ok-f.ensures in
    ap (λ (x : List ℕ). x ++ drop c.in_ok-f.f.blocks c.args.work.now) (zeroed _ _ _ c.if-work-f.false (c.fill.ensures.after (λ y e. e)))
    ∙ (table-refuses c.args.told c.args.a.now c.args.work.now c.args.records _ (i.answer_value _) i.figures_value c.if-work-f.false c.if-records-f.true).buffer

pub invariant_of-view : goal.invariant_of-view
invariant_of-view c =
    let i = c.in_ok-f.ensures in
    record { fit = figures_fit c.args.told c.args.a.now c.args.work.now c.args.records _ (i.answer_value _) i.figures_value }

pub returns-in_err-judge_map-clause-answer_value : goal.returns-in_err-judge_map-clause-answer_value
returns-in_err-judge_map-clause-answer_value c =
    let i = c.in_ok-f.ensures in
    let p = err_from_is_err_and c.from_residual-in_err-judge_map.result c.from_residual-in_err-judge_map.ensures.1 in
    rw (p.1, p.2) (map_ends c.args.told c.args.a.now c.args.work.now c.args.records _ (i.answer_value _) i.figures_value c.if-work-f.false c.if-records-f.false
    _ (c.in_err-judge_map.ensures.result_value _ _ refl (λ i. (c.type_inv.a i).fits))).number

pub returns-in_err-judge_map-clause-work_after : goal.returns-in_err-judge_map-clause-work_after
returns-in_err-judge_map-clause-work_after c =
    let i = c.in_ok-f.ensures in
    c.judge_map.ensures.work_after
    ∙ (map_ends c.args.told c.args.a.now c.args.work.now c.args.records _ (i.answer_value _) i.figures_value c.if-work-f.false c.if-records-f.false
    _ (c.judge_map.ensures.result_value _ _ refl (λ i. (c.type_inv.a i).fits))).buffer

pub returns-clause-answer_value : goal.returns-clause-answer_value
returns-clause-answer_value c =
    let i = c.in_ok-f.ensures in
    (map_ends c.args.told c.args.a.now c.args.work.now c.args.records _ (i.answer_value _) i.figures_value c.if-work-f.false c.if-records-f.false
    _ (c.in_ok-judge_map.ensures.result_value _ _ refl (λ i. (c.type_inv.a i).fits))).number

pub returns-clause-work_after : goal.returns-clause-work_after
returns-clause-work_after c =
    let i = c.in_ok-f.ensures in
    c.judge_map.ensures.work_after
    ∙ (map_ends c.args.told c.args.a.now c.args.work.now c.args.records _ (i.answer_value _) i.figures_value c.if-work-f.false c.if-records-f.false
    _ (c.judge_map.ensures.result_value _ _ refl (λ i. (c.type_inv.a i).fits))).buffer
