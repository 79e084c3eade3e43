-- `lanes::ArenaView::lane_readable` meets its contract: one law for each test that fails, and one for what the last test decides.
use mathlib.Core.Path.{sym}
use mathlib.Core.Logic.{inl, inr}
use native.Mathlib.Omega.{arith}
use Rattle.lanes.proofs.Lanes.{far_sector, far_old, all_but_new, no_newer, newer_is, half_below}
use Rattle.lanes.proofs.ArenaView.lane_readable.Goals as goal

pub returns-in_default : goal.returns-in_default
returns-in_default c = let e = c.in_default.ensures in sym (no_newer _ _ _ (omega (arith, e)))

pub returns-then-h-f-2 : goal.returns-then-h-f-2
returns-then-h-f-2 c =
    let e = c.in-Some.ensures in
    let h = newer_is _ _ _ _ _ c.half-h.ensures e in
    sym (all_but_new _ _ _ _ _ h (rw e at (half_below c.in-Some.newer)) c.if-h-f-2.true.0 c.if-h-f-2.true.1)

pub returns-else-h-f-2 : goal.returns-else-h-f-2
returns-else-h-f-2 c =
    let h = newer_is _ _ _ _ _ c.half-h.ensures c.in-Some.ensures in
    elim c.if-h-f-2.either [
      | inl p ↦ let e = far_old _ _ _ _ _ h p.1 in cc
      | inr p ↦ let e = far_sector _ _ _ _ _ h p in cc
    ]
