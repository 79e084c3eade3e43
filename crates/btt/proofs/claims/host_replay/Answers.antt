-- `btt::claims::host_replay` ensures the claim about a host's replays, which is proved in `Replays`.
use Rattle.btt.proofs.Replays.{never_short, nothing_ran, records_ran}
use Rattle.btt.proofs.claims.host_replay.Goals as goal

pub returns : goal.returns
returns c = record { host_replay = record { own-table = never_short; refused = nothing_ran; accepted = records_ran } }
