-- `claims::table_suffices` ensures its claim, which is proved in `Suffices`.
use Rattle.replay.proofs.Suffices.{records_suffice}
use Rattle.replay.proofs.claims.table_suffices.Goals as goal

pub returns : goal.returns
returns c = record { table_suffices = records_suffice }
