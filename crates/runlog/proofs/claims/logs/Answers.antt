-- `claims::logs` ensures the claim about logs, which is proved in `Logs`.
use Rattle.runlog.proofs.Logs.{log_claim}
use Rattle.runlog.proofs.claims.logs.Goals as goal

pub returns : goal.returns
returns c = record { logs = log_claim }
