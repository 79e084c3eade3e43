-- `mend::mend` meets its contract: each lane's turn leads on from the lanes passed.
use mathlib.Core.Path.{◌≡◌, sym, ap, ◌∙◌, subst}
use Prim.Native.Nat.{◌+◌}
use native.Mathlib.Omega.{arith}
use mathlib.Core.Bool.{cond}
use lib.ListN.{length}
use Rattle.layout.specs.Fit.{Fit}
use Rattle.layout.specs.Place.{layout_of}
use Rattle.machine.specs.state.Flog.{pending}
use Rattle.mend.proofs.Mending.{mendable_consistent, part_none, part_length, part_readable, pending-none, turn, count_none, count_one}
use Rattle.mend.proofs.mend.Goals as goal
use Rattle.mend.proofs.mend.Goals.{then-mend_lane, else-mend_lane}

pub loop-l-init : goal.loop-l-init
loop-l-init c = record { counted = pending-none _ _; stored = part_none _ _ c.args.k; few = omega arith }

pub mend_lane-requires : goal.mend_lane-requires
unfolding layout_of
mend_lane-requires c =
    let a = c.args.a.now in
    let g = layout_of c.args.d c.args.f in
    let l = c.loop-l.l in
    let e = c.loop-l.invariant.stored in
    let j = mendable_consistent _ _ _ c.requires (λ i. (c.slice_known-1.given i).fits) in
    record {
      fit = subst (Fit c.args.d c.args.f) (sym (ap length e ∙ part_length g a c.args.k l)) c.requires.all.fit;
      lane = c.loop-l-test.true;
      readable = rw e (part_readable g a j c.args.k l c.loop-l-test.true);
    }

pub loop-l-preserved : goal.loop-l-preserved
unfolding layout_of
loop-l-preserved c =
    let m = c.mend_lane in
    let x = c.loop-l in
    let i = x.invariant in
    let p = sym m.ensures.value in
    let n : c.if-mend_lane.count ≡ x.count + cond (pending (layout_of c.args.d c.args.f) x.a x.l) 1 0 =
    elim c.if-mend_lane.branch [
      | then-mend_lane w ↦ w.count-is ∙ count_one _ _ (p ∙ w.if-mend_lane.true)
      | else-mend_lane w ↦ w.count-is ∙ count_none _ _ (p ∙ w.if-mend_lane.false)
    ]
    in
    let j = mendable_consistent _ _ _ c.requires (λ i. (c.slice_known-1.given i).fits) in
    let t = turn (layout_of c.args.d c.args.f) c.args.a.now j c.args.k x.l c.loop-l-test.true x.a m.new.a x.count c.if-mend_lane.count i.counted i.stored n m.ensures.a_after in
    record { counted = t.0; stored = t.1.0; few = omega (arith, t.1.1) }
