-- `btt::btt_make` meets its contract: the answer's number, and the arena as making leaves it.
use Rattle.btt.proofs.btt_make.Goals as goal

pub returns : goal.returns
returns c = rw c.number_of.ensures c.make.ensures
