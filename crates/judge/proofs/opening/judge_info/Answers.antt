-- `judge::opening::judge_info` meets its contract: each return walks the order of rules 16 and 1 to 4, and only a block that passes gives figures.
use mathlib.Core.Path.{ap}
use native.Mathlib.Omega.{arith}
use borrow.Author.Tests.{eq-eqb, ne_eqb}
use lib.ListN.{length}
use Rattle.machine.proofs.rules.Rules.{walked, stop, pass, through}
use Rattle.judge.proofs.opening.judge_info.Goals as goal

pub returns-then-not-distance_allowed-clause-answer_value :
    goal.returns-then-not-distance_allowed-clause-answer_value
returns-then-not-distance_allowed-clause-answer_value c = λ room.
    walked (stop (rw (← c.distance_allowed.ensures, c.if-not-distance_allowed.true)))

pub returns-then-not-length_allowed-clause-answer_value :
    goal.returns-then-not-length_allowed-clause-answer_value
returns-then-not-length_allowed-clause-answer_value c = λ room.
    walked (pass (rw (← c.distance_allowed.ensures, c.if-not-distance_allowed.false))
    (stop (rw (← c.length_allowed.ensures, c.if-not-length_allowed.true))))

pub returns-in_default-clause-answer_value : goal.returns-in_default-clause-answer_value
returns-in_default-clause-answer_value c = λ room.
    let b = c.in_default.ensures.bytes in
    walked (pass (rw (← c.distance_allowed.ensures, c.if-not-distance_allowed.false))
    (pass (rw (← c.length_allowed.ensures, c.if-not-length_allowed.false))
    (stop (eq-eqb _ 0 (ap length b)))))

pub returns-then-not-info_allowed-clause-answer_value :
    goal.returns-then-not-info_allowed-clause-answer_value
returns-then-not-info_allowed-clause-answer_value c = λ room.
    let b = c.in-Some.ensures.bytes in
    let z = ne_eqb (length c.in-Some.b.now) 0 (λ e. omega (arith, e, c.in-Some.ensures.whole)) in
    walked (pass (rw (← c.distance_allowed.ensures, c.if-not-distance_allowed.false))
    (pass (rw (← c.length_allowed.ensures, c.if-not-length_allowed.false)) (pass (rw (← b) z)
    (stop (rw (← b, ← c.info_allowed.ensures, c.if-not-info_allowed.true))))))

pub returns-then-not-flags_allowed-clause-answer_value :
    goal.returns-then-not-flags_allowed-clause-answer_value
returns-then-not-flags_allowed-clause-answer_value c = λ room.
    let b = c.in-Some.ensures.bytes in
    let z = ne_eqb (length c.in-Some.b.now) 0 (λ e. omega (arith, e, c.in-Some.ensures.whole)) in
    walked (pass (rw (← c.distance_allowed.ensures, c.if-not-distance_allowed.false))
    (pass (rw (← c.length_allowed.ensures, c.if-not-length_allowed.false)) (pass (rw (← b) z)
    (pass (rw (← b, ← c.info_allowed.ensures, c.if-not-info_allowed.false))
    (stop (rw (← b, ← c.flags_allowed.ensures, c.if-not-flags_allowed.true)))))))

pub returns-clause-answer_value : goal.returns-clause-answer_value
returns-clause-answer_value c = λ room.
    let b = c.in-Some.ensures.bytes in
    let z = ne_eqb (length c.in-Some.b.now) 0 (λ e. omega (arith, e, c.in-Some.ensures.whole)) in
    walked (pass (rw (← c.distance_allowed.ensures, c.if-not-distance_allowed.false))
    (pass (rw (← c.length_allowed.ensures, c.if-not-length_allowed.false)) (pass (rw (← b) z)
    (pass (rw (← b, ← c.info_allowed.ensures, c.if-not-info_allowed.false))
    (pass (rw (← b, ← c.flags_allowed.ensures, c.if-not-flags_allowed.false)) through)))))
