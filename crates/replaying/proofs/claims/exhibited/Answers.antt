-- `claims::exhibited` ensures that a replay meets the premise, which is proved in `Exhibit`.
use Rattle.replaying.proofs.Exhibit.{replay_exhibited}
use Rattle.replaying.proofs.claims.exhibited.Goals as goal

pub returns : goal.returns
returns c = record { exhibited = replay_exhibited }
