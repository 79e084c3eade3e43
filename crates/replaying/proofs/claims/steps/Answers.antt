-- `claims::steps` ensures the claim about the sectors that steps lend, which is proved in `Lent`.
use Rattle.replaying.proofs.Lent.{steps_claim}
use Rattle.replaying.proofs.claims.steps.Goals as goal

pub returns : goal.returns
returns c = record { steps = steps_claim }
