-- `lanes::ArenaView::free_block` meets its contract: the old block of the newer half.
use Rattle.lanes.proofs.Lanes.{old_is, reads}
use Rattle.lanes.proofs.ArenaView.free_block.Goals as goal

pub newer_flog-requires-clause-newer : goal.newer_flog-requires-clause-newer
newer_flog-requires-clause-newer c = (reads _ _ _ _ c.requires).newer

pub returns : goal.returns
returns c = old_is _ _ _ _ _ c.newer_flog.ensures
