-- `btt::claims::host_list` ensures the claim about a host's lists of calls, which is proved in `Listing`.
use Rattle.btt.proofs.Listing.{calls_same, events_same, first_same}
use Rattle.btt.proofs.claims.host_list.Goals as goal

pub returns : goal.returns
returns c = record { host_list = record { calls = calls_same; events = events_same; first = first_same } }
