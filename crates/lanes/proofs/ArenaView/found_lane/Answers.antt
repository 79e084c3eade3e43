-- `lanes::ArenaView::found_lane` meets its contract: each field of the record is rewritten by what the calls ensure.
use Rattle.lanes.proofs.Lanes.{old_is, sequence_is, reads, newer_is, half_tag, some_newer}
use Rattle.lanes.proofs.ArenaView.found_lane.Goals as goal

pub unwrap-newer-requires : goal.unwrap-newer-requires
unwrap-newer-requires c = some_newer _ _ c.newer_half.ensures (reads _ _ _ _ c.requires).newer

pub returns : goal.returns
returns c =
    let n = rw c.unwrap-newer.ensures at c.newer_half.ensures in
    let h = newer_is _ _ _ _ _ c.half-h.ensures n in
    rw (c.idle.ensures, c.next.ensures, half_tag c.unwrap-newer.result, n, old_is _ _ _ _ _ h, sequence_is _ _ _ _ _ h)
