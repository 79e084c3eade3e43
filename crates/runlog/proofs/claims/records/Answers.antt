-- `claims::records` ensures the claim about records, which is proved in `Logs`.
use Rattle.runlog.proofs.Logs.{record_claim}
use Rattle.runlog.proofs.claims.records.Goals as goal

pub returns : goal.returns
returns c = record { records = record_claim }
