-- `claims::flog_pairs` ensures its claim, which is proved in `InNumbers`.
use Rattle.format.proofs.InNumbers.{flog_claim}
use Rattle.format.proofs.claims.flog_pairs.Goals as goal

pub returns : goal.returns
returns c = record { flog_pairs = flog_claim }
