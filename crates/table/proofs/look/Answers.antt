-- `table::look` meets its contract. Record by record the laws of what is seen carry the invariants on; judging ends at the end, or at a record out of range.
use mathlib.Core.Path.{refl, sym, ap, ◌∙◌}
use native.Mathlib.Omega.{arith}
use native.Mathlib.Nat.{le_antisymm}
use Prim.Native.Nat.{ℕ}
use borrow.Author.Tests.{ne_eqb}
use Rattle.format.proofs.Tests.{true_false}
use Rattle.machine.specs.calls.Judging.{in_flight}
use Rattle.seen.proofs.Laws.{none-sound, none-flies, sound_more, flies_more, sound_end, sound_broken, seen_is}
use Rattle.table.proofs.look.Goals as goal
use Rattle.table.proofs.look.Goals.{else-loop-i-test, then-loop-i-test+then-out_of_range}

pub loop-i-init : goal.loop-i-init
loop-i-init c = record { sound = none-sound c.args.h c.args.table.now c.args.sector.0; counted = refl }

pub loop-i-preserved : goal.loop-i-preserved
loop-i-preserved c =
    let inv = c.loop-i.invariant in
    record {
      sound = sound_more c.args.h c.args.table.now c.args.sector.0 c.loop-i.i c.out_of_range.result inv.sound c.out_of_range.ensures
          c.if-out_of_range.false;
      counted = omega arith;
    }

pub loop-k-init : goal.loop-k-init
loop-k-init c = record { flies = sym (none-flies c.args.h c.args.table.now c.args.sector.0) }

pub loop-k-preserved : goal.loop-k-preserved
loop-k-preserved c = record {
  flies = c.also_flies-flying.ensures
      ∙ flies_more c.args.h c.args.table.now c.args.sector.0 c.loop-k.k c.loop-k.flying c.loop-k.invariant.flies;
}

pub returns : goal.returns
returns c =
    let h = c.args.h in
    let t = c.args.table.now in
    let s = c.args.sector.0 in
    let i = c.loop-i.i in
    let n = c.judged-end.result in
    let b = c.loop-k.flying in
    let inv = c.loop-i.invariant in
    let all = le_antisymm c.loop-k.auto.k-end c.loop-k-test.false in
    c.seen_of.ensures
    ∙ (elim c.loop-i-test.branch [
      | else-loop-i-test w ↦
          let e = le_antisymm c.loop-i.auto.i-end w.loop-i-test.false in
          rw (inv.counted, e) (seen_is h t c.args.lane.0 s n n _ b c.lane_at-own.result c.judged-end.ensures.0
          (sound_end h t s n n (rw e at inv.sound) (omega arith) (omega arith))
          (λ y. c.loop-k.invariant.flies ∙ ap (λ (m : ℕ). in_flight t m s) (all ∙ inv.counted ∙ e)) refl c.lane_at-own.ensures)
      | then-loop-i-test+then-out_of_range w ↦
          let l = w.loop-i-test.true in
          rw inv.counted (seen_is h t c.args.lane.0 s n i _ b c.lane_at-own.result c.judged-end.ensures.0
          (sound_broken h t s i n w.out_of_range.result l w.out_of_range.ensures w.if-out_of_range.true)
          (λ y. true_false (sym y ∙ ne_eqb i n (λ e. omega (arith, e, l)))) refl c.lane_at-own.ensures)
    ])
