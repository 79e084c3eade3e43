-- `claims::demand_three` ensures demand 3, which is proved in `DemandThree`.
use Rattle.machine.proofs.book.DemandThree.{demand_three}
use Rattle.machine.proofs.claims.demand_three.Goals as goal

pub returns : goal.returns
returns c = record { demand_three = demand_three }
