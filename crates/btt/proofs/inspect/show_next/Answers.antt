-- `btt::inspect::show_next` meets its contract: a refused look leaves the offset; where it is accepted the lane's next store has a place.
use mathlib.Core.Path.{sym}
use mathlib.Core.List.{[]}
use Prim.Native.Nat.{◌+◌, ◌*◌, ◌≤◌}
use lib.ListN.{length}
use native.Mathlib.Omega.{arith}
use borrow.Author.Rules.{rules}
use Rattle.std.proofs.lemmas.Result.{err_from_is_err_and}
use Rattle.machine.proofs.Refusals.{not_zero}
use Rattle.machine.specs.state.Handle.{with}
use Rattle.machine.proofs.calls.Running.{handle_fit}
use Rattle.seen.proofs.Laws.{seen_own}
use Rattle.stores.proofs.Plans.{store_inside, fit_at}
use Rattle.writing.proofs.Rules.{next_fit}
use Rattle.btt.proofs.Looks.{next-found, next-shown}
use Rattle.btt.specs.Calls.{next_shown}
use Rattle.btt.proofs.inspect.show_next.Goals as goal

pub returns-in_err-judge_next : goal.returns-in_err-judge_next
unfolding next_shown
returns-in_err-judge_next c =
    let p = err_from_is_err_and c.from_residual.result c.from_residual.ensures.1 in
    rw (p.1, p.2) (λ t e. rw (← c.in_err-judge_next.ensures t e, not_zero _))

pub invariant_of-write : goal.invariant_of-write
invariant_of-write c =
    let saw = c.requires in
    let f = next-found _ _ _ (sym (c.in_ok-judge_next.ensures saw.table saw.is)) in
    record { fit = fit_at _ _ _ _ 0 (next_fit _ _ f.judged _ f.lane _ (seen_own c.args.arena.now _ _ _ _ _ saw.is)) (omega arith) }

pub place-place-requires : goal.place-place-requires
place-place-requires c =
    let saw = c.requires in
    let f = next-found _ _ _ (sym (c.in_ok-judge_next.ensures saw.table saw.is)) in
    (next_fit _ _ f.judged _ f.lane _ (seen_own c.args.arena.now _ _ _ _ _ saw.is)).store

pub overflow_mul-offset : goal.overflow_mul-offset
overflow_mul-offset c =
    let saw = c.requires in
    let f = next-found _ _ _ (sym (c.in_ok-judge_next.ensures saw.table saw.is)) in
    let fit = next_fit _ _ f.judged _ f.lane _ (seen_own c.args.arena.now _ _ _ _ _ saw.is) in
    let u = store_inside _ _ _ _ [] _ fit _ (handle_fit (with c.args.h saw.table) _ f.judged.handle) in
    let v : 4 * c.place-place.result + 4 ≤ length c.args.arena.now = rw (c.place-place.ensures []) u in
    search rules

pub returns : goal.returns
returns c =
    let a = c.args.arena.now in
    λ t e. next-shown _ _ _ _ _ _ (c.in_ok-judge_next.ensures t e) (seen_own a _ t _ _ _ e) (c.place-place.ensures [])
