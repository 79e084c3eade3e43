-- `claims::fresh_layout` ensures its claim, which is proved in `InBytes`.
use Rattle.layout.proofs.InBytes.{made_claim}
use Rattle.layout.proofs.claims.fresh_layout.Goals as goal

pub returns : goal.returns
returns c = record { fresh_layout = made_claim }
