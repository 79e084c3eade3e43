-- `judge::opening::judge_words` meets its contract: a word is bad, sloppy or neither, by what is wrong with it.
use mathlib.Core.Path.{refl, sym, ◌∙◌}
use native.Mathlib.Omega.{arith}
use Rattle.std.proofs.lemmas.Result.{err_from_is_err_and}
use Rattle.format.proofs.Tests.{some_zero}
use Rattle.judge.proofs.Words.{unwritten_in, unwritten_sloppy, written_clean, past_only, bad_next, sloppy_next, bad_found, bad_more, sloppy_more, ends_sloppy, ends_done}
use Rattle.judge.proofs.opening.judge_words.Goals as goal
use Rattle.judge.proofs.opening.judge_words.Goals.{in-Unwritten, in_default+in_ok-judge_word-in_default}

pub loop-s-init : goal.loop-s-init
loop-s-init c = record { good = λ d. some_zero _; told = λ d. sym (some_zero _) }

pub returns-in_err-judge_word-in_default : goal.returns-in_err-judge_word-in_default
returns-in_err-judge_word-in_default c = λ d.
    let p = err_from_is_err_and c.from_residual.result c.from_residual.ensures.1 in
    let e = c.in_err-judge_word-in_default.ensures in
    let q = past_only c.args.f.blocks c.map_word-word.result c.in_err-judge_word-in_default.field-0.0 e (written_clean _ _ c.of_word.ensures c.in_default.not-Unwritten) in
    rw (p.1, p.2, q) (bad_found d _ _ c.loop-s.s c.map_word-word.result 7 (c.map_word-word.ensures d) (rw q at e) c.loop-s-test.true refl)

pub loop-s-preserved : goal.loop-s-preserved
loop-s-preserved c =
    let m = c.map_word-word.ensures in
    let i = c.loop-s.invariant in
    elim c.match-of_word.branch [
      | in-Unwritten w ↦
          let z = w.in-Unwritten.ensures in
          record {
            good = λ d. bad_next d _ _ _ _ (m d) (unwritten_in _ _ z) (i.good d);
            told = λ d. w.sloppy-is ∙ sloppy_next d _ _ _ _ (m d) _ _ (i.told d) (unwritten_sloppy _ z);
          }
      | in_default+in_ok-judge_word-in_default w ↦
          let e = w.in_ok-judge_word-in_default.ensures in
          record {
            good = λ d. bad_more d _ _ _ _ _ (m d) e (λ z. omega arith) (i.good d);
            told = λ d. w.sloppy-is ∙ i.told d ∙ sloppy_more d _ _ _ _ _ (m d) e (λ z. omega arith) (λ z. omega arith);
          }
    ]

pub returns-then-sloppy : goal.returns-then-sloppy
returns-then-sloppy c = λ d.
    let i = c.loop-s.invariant in
    ends_sloppy d _ _ _ c.loop-s.auto.s-end c.loop-s-test.false (i.good d) _ (i.told d) c.if-sloppy.true

pub returns : goal.returns
returns c = λ d.
    let i = c.loop-s.invariant in
    ends_done d _ _ _ c.loop-s.auto.s-end c.loop-s-test.false (i.good d) _ (i.told d) c.if-sloppy.false
