-- `judge::opening::lane_padded` meets its contract: the search ends at the first lane whose padding is set, or passes all.
use mathlib.Core.Path.{◌≡◌, refl}
use mathlib.Core.Bool.{true, false}
use native.Mathlib.Omega.{arith}
use borrow.Author.Rules.{rules}
use borrow.Author.Tests.{tests}
use Rattle.std.proofs.lemmas.Iterator.{cases_from_any, YieldsList-from_range}
use Rattle.layout.specs.Place.{layout_of}
use Rattle.machine.specs.state.Flog.{padding_set}
use Rattle.lanes.specs.View.{layout}
use Rattle.judge.proofs.Lanes.{some_told}
use Rattle.judge.proofs.opening.lane_padded.Goals as goal

pub returns : goal.returns
unfolding layout_of
returns c =
    let v = c.args.view.now in
    let t = padding_set (layout v) v.bytes.now in
    some_told v.figures.lanes t c.any.result
    (cases_from_any _ _ _ (λ l. t l ≡ true) (λ l. t l ≡ false) c.any.ensures.ran (YieldsList-from_range 0 v.figures.lanes v.figures.lanes refl (omega arith))
    (λ x q k. search (rules, tests)) (λ x q k. search (rules, tests)))
