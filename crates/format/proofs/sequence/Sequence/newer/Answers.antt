-- `format::sequence::Sequence::newer` meets its contract. Each return is one law of `newer`, by the tests that led to it.
use native.Mathlib.Omega.{arith}
use borrow.Author.Tests.{eqb-true, eqb-false}
use mathlib.Core.Path.{sym, ap, ◌∙◌}
use Rattle.format.proofs.NewerCases.{newer_big, newer_big_second, newer_same, newer-unset, newer-unset_second, newer-next, newer-first}
use Rattle.format.specs.declared.sequence.Sequence.{Sequence}
use Rattle.format.proofs.sequence.Sequence.newer.Goals as goal
use Rattle.format.proofs.sequence.Sequence.newer.Goals.{then-self-gt3-via-then-self-gt3, then-self-gt3-via-else-self-gt3+then-second-gt3}

pub returns-then-self-gt3 : goal.returns-then-self-gt3
returns-then-self-gt3 c =
    elim c.then-self-gt3.branch [
      | then-self-gt3-via-then-self-gt3 w ↦ sym (newer_big _ _ w.if-self-gt3.true)
      | then-self-gt3-via-else-self-gt3+then-second-gt3 w ↦ sym (newer_big_second _ _ w.if-second-gt3.true)
    ]

pub returns-then-eq : goal.returns-then-eq
returns-then-eq c = sym (newer_same _ _ c.if-second-gt3.false (eqb-true _ _ (sym c.if-eq.ensures)))

pub returns-then-eq-2 : goal.returns-then-eq-2
returns-then-eq-2 c =
    let z = eqb-true c.args.self.0 0 (sym c.if-eq-2.ensures) in
    let n = eqb-false c.args.self.0 c.args.second.0 (sym c.if-eq.ensures) in
    sym (newer-unset _ _ (omega arith) z (omega arith))

pub returns-then-eq-3 : goal.returns-then-eq-3
returns-then-eq-3 c =
    let z = eqb-true c.args.second.0 0 (sym c.if-eq-3.ensures) in
    let n = eqb-false c.args.self.0 0 (sym c.if-eq-2.ensures) in
    sym (newer-unset_second _ _ (omega arith) z (omega arith))

pub returns-then-eq-4 : goal.returns-then-eq-4
returns-then-eq-4 c =
    let e = eqb-true c.next.result.0 c.args.second.0 (sym c.if-eq-4.ensures) in
    let n = eqb-false c.args.self.0 0 (sym c.if-eq-2.ensures) in
    sym (newer-next _ _ (omega arith) (omega arith) (sym (ap (λ (s : Sequence). s.0) c.next.ensures) ∙ e))

pub returns : goal.returns
returns c =
    let n0 = eqb-false c.args.self.0 c.args.second.0 (sym c.if-eq.ensures) in
    let n1 = eqb-false c.args.self.0 0 (sym c.if-eq-2.ensures) in
    let n2 = eqb-false c.args.second.0 0 (sym c.if-eq-3.ensures) in
    let n3 = eqb-false c.next.result.0 c.args.second.0 (sym c.if-eq-4.ensures) in
    sym (newer-first _ _ (omega arith) (omega arith) (omega arith) (omega arith) (omega arith) (λ e. n3 (ap (λ (s : Sequence). s.0)
    c.next.ensures ∙ e)))
