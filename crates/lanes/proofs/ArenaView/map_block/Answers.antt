-- `lanes::ArenaView::map_block` meets its contract: figures that fit leave the map inside the arena.
use Rattle.lanes.proofs.Lanes.{map_fit}
use Rattle.lanes.proofs.ArenaView.map_block.Goals as goal

pub map_block-requires : goal.map_block-requires
map_block-requires c = (map_fit _ _ _ c.args.self.now.fit, c.requires)
