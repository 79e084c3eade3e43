-- `claims::few_lanes` ensures its claim, which is proved in `Suffices`.
use Rattle.report.proofs.Suffices.{few_lanes}
use Rattle.report.proofs.claims.few_lanes.Goals as goal

pub returns : goal.returns
returns c = record { few_lanes = few_lanes }
