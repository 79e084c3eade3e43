-- `arena::open::judge_and_mend` meets its contract: a refusal stores nothing, and an accepted arena can be mended.
use mathlib.Core.Path.{refl}
use Rattle.std.proofs.lemmas.Result.{err_from_is_err_and}
use Rattle.machine.proofs.Refusals.{not_zero}
use Rattle.arena.proofs.Cut.{cut-refused, cut_done}
use Rattle.arena.proofs.Opened.{mendable}
use Rattle.arena.proofs.open.judge_and_mend.Goals as goal

pub returns-in_err-figures : goal.returns-in_err-figures
returns-in_err-figures c =
    let p = err_from_is_err_and c.from_residual.result c.from_residual.ensures.1 in
    let j = c.in_err-figures.ensures in
    rw (p.1, p.2) (record {
      for_table = λ t long. cut-refused _ _ (record { work = _; table = t }) _ _ _ _ long j.answer_value c.judge.ensures.work_after (not_zero _);
      figures_value = tt;
    })

pub mend-count-requires : goal.mend-count-requires
mend-count-requires c =
    let j = c.in_ok-figures.ensures in
    mendable _ _ _ _ _ j.answer_value refl j.figures_value

pub returns : goal.returns
returns c =
    let j = c.in_ok-figures.ensures in
    let m = c.mend-count.ensures in
    record {
      for_table = λ t long. cut_done _ _ (record { work = _; table = t }) _ _ _ _ long j.answer_value c.judge.ensures.work_after refl _ j.figures_value _ _ m.value m.a_after;
      figures_value = j.figures_value;
    }
