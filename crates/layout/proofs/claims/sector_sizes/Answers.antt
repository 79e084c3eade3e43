-- `claims::sector_sizes` ensures its claim, which is proved in `InBytes`.
use Rattle.layout.proofs.InBytes.{sizes_claim}
use Rattle.layout.proofs.claims.sector_sizes.Goals as goal

pub returns : goal.returns
returns c = record { sector_sizes = sizes_claim }
