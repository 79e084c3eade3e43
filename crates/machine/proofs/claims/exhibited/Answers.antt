-- `claims::exhibited` ensures that there is a run that the claims speak of, which is proved in `Exhibit`.
use Rattle.machine.proofs.exhibit.Made.{exhibited}
use Rattle.machine.proofs.claims.exhibited.Goals as goal

pub returns : goal.returns
returns c = record { exhibited = exhibited }
