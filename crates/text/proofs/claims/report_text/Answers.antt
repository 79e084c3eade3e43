-- `claims::report_text` ensures its claim, which is proved in `Reported`.
use Rattle.text.proofs.Reported.{report_text}
use Rattle.text.proofs.claims.report_text.Goals as goal

pub returns : goal.returns
returns c = record { report_text = report_text }
