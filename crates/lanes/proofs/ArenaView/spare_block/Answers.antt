-- `lanes::ArenaView::spare_block` meets its contract: the new block of a pending lane, else the old one.
use Rattle.machine.specs.state.Flog.{spare_of}
use Rattle.lanes.proofs.Lanes.{old_is, new_is, reads}
use Rattle.lanes.proofs.ArenaView.spare_block.Goals as goal

pub newer_flog-h-requires-clause-newer : goal.newer_flog-h-requires-clause-newer
newer_flog-h-requires-clause-newer c = (reads _ _ _ _ c.requires).newer

pub returns-then-is_pending : goal.returns-then-is_pending
unfolding spare_of
returns-then-is_pending c =
    rw (← c.is_pending.ensures, c.if-is_pending.true) (new_is _ _ _ _ _ c.newer_flog-h.ensures)

pub returns-else-is_pending : goal.returns-else-is_pending
unfolding spare_of
returns-else-is_pending c =
    rw (← c.is_pending.ensures, c.if-is_pending.false) (old_is _ _ _ _ _ c.newer_flog-h.ensures)
