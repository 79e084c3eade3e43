-- `claims::decimals` ensures its claim, which is proved in `Decimals`.
use Rattle.text.proofs.Decimals.{decimal_claim}
use Rattle.text.proofs.claims.decimals.Goals as goal

pub returns : goal.returns
returns c = record { decimals = decimal_claim }
