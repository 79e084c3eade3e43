-- `claims::allowed_figures` ensures its claim, which is proved in `InBytes`.
use Rattle.layout.proofs.InBytes.{allowed_claim}
use Rattle.layout.proofs.claims.allowed_figures.Goals as goal

pub returns : goal.returns
returns c = record { allowed_figures = allowed_claim }
