-- `lanes::ArenaView::newer_half` meets its contract: the pair at a lane's first word is the lane's.
use mathlib.Core.Path.{◌∙◌}
use native.Mathlib.Omega.{arith}
use Rattle.lanes.proofs.Lanes.{pair_inside, pair_newer}
use Rattle.lanes.proofs.ArenaView.newer_half.Goals as goal

pub newer_of_pair-requires : goal.newer_of_pair-requires
newer_of_pair-requires c =
    omega (arith, c.flog_place-first.ensures, pair_inside _ _ _ c.args.self.now.fit _ c.requires)

pub returns : goal.returns
returns c = c.newer_of_pair.ensures ∙ rw c.flog_place-first.ensures (pair_newer _ _ _ _)
