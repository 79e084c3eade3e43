-- `lanes::ArenaView::newer_flog` meets its contract: the words of the half that is the newer.
use Rattle.lanes.proofs.Lanes.{newer_is}
use Rattle.lanes.proofs.ArenaView.newer_flog.Goals as goal

pub returns : goal.returns
returns c = newer_is _ _ _ _ _ c.half.ensures (rw c.unwrap.ensures at c.newer_half.ensures)
