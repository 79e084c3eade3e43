-- `claims::reports` ensures its claim, which is proved in `Reports`.
use Rattle.report.proofs.Reports.{report_claim}
use Rattle.report.proofs.claims.reports.Goals as goal

pub returns : goal.returns
returns c = record { reports = report_claim }
