-- `text::put_lanes` meets its contract. The loop's invariant: the lines of the lanes below l are stored, each at most 48 bytes long.
use mathlib.Core.Path.{sym, ◌∙◌}
use mathlib.Core.List.{[]}
use borrow.Author.Rules.{rules}
use Rattle.text.proofs.Laws.{lanes-none, lanes_more, found_at}
use Rattle.text.proofs.put_lanes.Goals as goal

pub loop-l-init : goal.loop-l-init
loop-l-init c = (search rules, lanes-none _ _ _)

pub loop-l-preserved : goal.loop-l-preserved
loop-l-preserved c =
    let e = found_at c.args.h _ [] _ c.loop-l-test.true ∙ sym c.found_lane-lane.ensures in
    (search rules, lanes_more _ _ c.loop-l.invariant.1 (rw e c.put_lane-next.ensures.0))
