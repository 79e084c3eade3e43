-- `btt::claims::host_demands` ensures demands 2 and 3 for a host's lists, which are proved in `Demands`.
use Rattle.btt.proofs.Demands.{host_demands}
use Rattle.btt.proofs.claims.host_demands.Goals as goal

pub returns : goal.returns
returns c = record { host_demands = host_demands }
