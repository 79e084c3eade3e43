-- `claims::fresh_blocks` ensures its claim, which is proved in `FreshBlock`.
use Rattle.infoblock.proofs.FreshBlock.{made_block_claim}
use Rattle.infoblock.proofs.claims.fresh_blocks.Goals as goal

pub returns : goal.returns
returns c = record { fresh_blocks = made_block_claim }
