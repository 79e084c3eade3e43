-- `claims::replays` ensures the claim about replays, which is proved in `Claimed`.
use Rattle.replaying.proofs.Claimed.{replay_claim}
use Rattle.replaying.proofs.claims.replays.Goals as goal

pub returns : goal.returns
returns c = record { replays = replay_claim }
