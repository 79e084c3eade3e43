-- `claims::demand_one` ensures demand 1, which is proved in `DemandOne`.
use Rattle.machine.proofs.calls.DemandOne.{demand_one}
use Rattle.machine.proofs.claims.demand_one.Goals as goal

pub returns : goal.returns
returns c = record { demand_one = demand_one }
