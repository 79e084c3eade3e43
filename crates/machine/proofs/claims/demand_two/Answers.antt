-- `claims::demand_two` ensures demand 2, which is proved in `DemandTwo`.
use Rattle.machine.proofs.row.DemandTwo.{demand_two}
use Rattle.machine.proofs.claims.demand_two.Goals as goal

pub returns : goal.returns
returns c = record { demand_two = demand_two }
