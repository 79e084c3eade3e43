-- `lanes::ArenaView::half` meets its contract: each half of a lane lies within the arena.
use native.Mathlib.Omega.{arith}
use Rattle.lanes.proofs.Lanes.{half_inside, half_tag, half_below}
use Rattle.lanes.proofs.ArenaView.half.Goals as goal

pub half_at-requires : goal.half_at-requires
half_at-requires c =
    let h = c.args.half in
    rw (c.flog_place.ensures, half_tag h) (omega (arith, half_inside _ _ _ c.args.self.now.fit _ _ c.requires (half_below h)))
