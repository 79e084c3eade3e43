-- `once::blocks_once` meets its contract: the course of its calls is one law over the counts between them.
use mathlib.Core.Path.{sym, ◌∙◌}
use native.Mathlib.Omega.{arith}
use Rattle.std.proofs.Common.{length-take-le}
use Rattle.lanes.proofs.Lanes.{lane_fit}
use Rattle.once.proofs.Blocks.{mapped_under, free_under, spare_under, zeroed, claimed}
use Rattle.once.proofs.blocks_once.Goals as goal

pub count_each-requires-clause-callable : goal.count_each-requires-clause-callable
count_each-requires-clause-callable c = λ i h. lane_fit _ _ _ c.requires.0 i h

pub count_each-requires-clause-inside : goal.count_each-requires-clause-inside
count_each-requires-clause-inside c = λ i b h e.
    omega (arith, e, free_under _ _ _ c.requires.0 i h, c.fill.ensures.len, length-take-le _ c.args.w.now c.requires.1)

pub count_each-requires-2-clause-inside : goal.count_each-requires-2-clause-inside
count_each-requires-2-clause-inside c = λ i b h e.
    omega (arith, e, mapped_under _ _ _ c.requires.0 i h, c.fill.ensures.len, c.fill-2.ensures.len, c.count_each.auto.w, length-take-le _ c.args.w.now c.requires.1)

pub count_each-requires-3-clause-callable : goal.count_each-requires-3-clause-callable
count_each-requires-3-clause-callable c = λ i h. lane_fit _ _ _ c.requires.0 i h

pub count_each-requires-3-clause-inside : goal.count_each-requires-3-clause-inside
count_each-requires-3-clause-inside c = λ i b h e.
    omega (arith, e, spare_under _ _ _ c.requires.0 i h, c.fill.ensures.len, c.fill-2.ensures.len, c.count_each.auto.w, c.count_each-2.auto.w, length-take-le _ c.args.w.now c.requires.1)

pub returns-then-distinct-clause-value : goal.returns-then-distinct-clause-value
returns-then-distinct-clause-value c =
    let p = claimed _ _ _ c.requires.0 _ _ _ _ _ _ _ (zeroed _ _ _ c.requires.1 (c.fill.ensures.after (λ y e. e)))
    (c.count_each.ensures _ (λ i b h e. e)) c.counts_between-distinct.ensures (c.fill-2.ensures.after (λ y e. e))
    (c.count_each-2.ensures _ (λ i b h e. e)) (c.count_each-3.ensures _ (λ i b h e. e)) c.counts_between-once.ensures in
    sym (p ∙ rw c.if-distinct.true)

pub returns-else-distinct-clause-value : goal.returns-else-distinct-clause-value
returns-else-distinct-clause-value c =
    let p = claimed _ _ _ c.requires.0 _ _ _ _ _ _ _ (zeroed _ _ _ c.requires.1 (c.fill.ensures.after (λ y e. e)))
    (c.count_each.ensures _ (λ i b h e. e)) c.counts_between-distinct.ensures (c.fill-2.ensures.after (λ y e. e))
    (c.count_each-2.ensures _ (λ i b h e. e)) (c.count_each-3.ensures _ (λ i b h e. e)) c.counts_between-once.ensures in
    sym (p ∙ rw c.if-distinct.false)
