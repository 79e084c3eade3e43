-- `making::make` meets its contract. What is not refused has figures that fit, and the stores are those of a made arena.
use native.Mathlib.Omega.{arith}
use Rattle.words.proofs.Runs.{length-put_words}
use Rattle.machine.specs.calls.Making.{fresh_arena}
use Rattle.std.proofs.lemmas.Result.{err_from_is_err_and}
use Rattle.making.proofs.Laws.{make_refused, make_done, done_passed, made_fit}
use Rattle.making.proofs.make.Goals as goal

pub returns-in_err-judge_make : goal.returns-in_err-judge_make
returns-in_err-judge_make c =
    let p = err_from_is_err_and c.from_residual.result c.from_residual.ensures.1 in
    rw (p.1, p.2) (make_refused _ _ _ c.in_err-judge_make.ensures)

pub fresh_figures-f-requires : goal.fresh_figures-f-requires
fresh_figures-f-requires c =
    let p = done_passed _ c.args.arena.now c.in_ok-judge_make.ensures in
    let m = p.most in
    let e = p.made in
    (p.sizes, rw (← e) m)

pub put_info-requires : goal.put_info-requires
put_info-requires c =
    let p = done_passed _ c.args.arena.now c.in_ok-judge_make.ensures in
    let r = (made_fit _ _ p).room in
    record { i_in_bounds = omega arith; in_bounds = (omega (arith, p.first), omega (arith, p.second)) }

pub put_tail-requires : goal.put_tail-requires
put_tail-requires c =
    let p = done_passed _ c.args.arena.now c.in_ok-judge_make.ensures in
    let f = made_fit _ _ p in
    record {
      fit = rw (c.fresh_figures-f.ensures, c.put_info.ensures, length-put_words) f;
      in_bounds = (omega (arith, p.first), omega (arith, p.second));
    }

pub returns : goal.returns
unfolding fresh_arena
returns c =
    rw (c.put_tail.ensures, c.put_info.ensures, c.fresh_figures-f.ensures)
    (make_done _ _ c.in_ok-judge_make.ensures)
