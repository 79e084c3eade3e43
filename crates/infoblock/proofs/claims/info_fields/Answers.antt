-- `claims::info_fields` ensures its claim, which is proved in `InBytes`.
use Rattle.infoblock.proofs.InBytes.{fields_claim}
use Rattle.infoblock.proofs.claims.info_fields.Goals as goal

pub returns : goal.returns
returns c = record { info_fields = fields_claim }
