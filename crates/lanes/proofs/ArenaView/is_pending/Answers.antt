-- `lanes::ArenaView::is_pending` meets its contract: the half's sector is in range, so its map word can be asked.
use mathlib.Core.Path.{◌∙◌}
use Rattle.layout.specs.Place.{layout_of}
use Rattle.machine.specs.state.Flog.{pending}
use Rattle.lanes.proofs.Lanes.{sector_is, old_is, reads}
use Rattle.lanes.proofs.ArenaView.is_pending.Goals as goal

pub newer_flog-h-requires-clause-newer : goal.newer_flog-h-requires-clause-newer
newer_flog-h-requires-clause-newer c = (reads _ _ _ _ c.requires).newer

pub map_block-requires : goal.map_block-requires
unfolding layout_of
map_block-requires c =
    rw (sector_is _ _ _ _ _ c.newer_flog-h.ensures) (reads _ _ _ _ c.requires).sector

pub returns : goal.returns
unfolding pending
returns c =
    let h = c.newer_flog-h.ensures in
    c.eq.ensures ∙ rw (c.map_block.ensures, sector_is _ _ _ _ _ h, old_is _ _ _ _ _ h)
