-- `claims::sound_blocks` ensures its claim, which is proved in `InBytes`.
use Rattle.infoblock.proofs.InBytes.{sound_claim}
use Rattle.infoblock.proofs.claims.sound_blocks.Goals as goal

pub returns : goal.returns
returns c = record { sound_blocks = sound_claim }
