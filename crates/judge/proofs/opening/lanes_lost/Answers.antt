-- `judge::opening::lanes_lost` meets its contract: the search ends at the first lane that is not readable, or passes all.
use mathlib.Core.Path.{◌≡◌, refl}
use mathlib.Core.Bool.{true, false}
use native.Mathlib.Omega.{arith}
use borrow.Author.Rules.{rules}
use borrow.Author.Tests.{tests}
use Rattle.std.proofs.lemmas.Iterator.{cases_from_any, YieldsList-from_range}
use Rattle.layout.specs.Place.{layout_of}
use Rattle.machine.specs.calls.Opening.{lane_readable}
use Rattle.lanes.specs.View.{layout}
use Rattle.judge.proofs.Lanes.{lost_told}
use Rattle.judge.proofs.opening.lanes_lost.Goals as goal

pub returns : goal.returns
unfolding layout_of
returns c =
    let v = c.args.view.now in
    let t = lane_readable (layout v) v.bytes.now in
    lost_told v.figures.lanes t c.any.result
    (cases_from_any _ _ _ (λ l. t l ≡ false) (λ l. t l ≡ true) c.any.ensures.ran (YieldsList-from_range 0 v.figures.lanes v.figures.lanes refl (omega arith))
    (λ x q k. search (rules, tests)) (λ x q k. search (rules, tests)))
