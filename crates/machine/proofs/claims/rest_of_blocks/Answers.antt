-- `claims::rest_of_blocks` ensures what is claimed of the rest of each block, which is proved in `Rest`.
use Rattle.machine.proofs.calls.Rest.{rest_of_blocks}
use Rattle.machine.proofs.claims.rest_of_blocks.Goals as goal

pub returns : goal.returns
returns c = record { rest_of_blocks = rest_of_blocks }
