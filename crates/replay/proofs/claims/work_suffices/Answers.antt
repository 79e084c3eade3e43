-- `claims::work_suffices` ensures its claim, which is proved in `Suffices`.
use Rattle.replay.proofs.Suffices.{work_suffices}
use Rattle.replay.proofs.claims.work_suffices.Goals as goal

pub returns : goal.returns
returns c = record { work_suffices = work_suffices }
