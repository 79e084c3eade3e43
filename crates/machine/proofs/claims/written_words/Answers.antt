-- `claims::written_words` ensures what is claimed of the map words that the calls leave, which is proved in `Written`.
use Rattle.machine.proofs.calls.Written.{written_words}
use Rattle.machine.proofs.claims.written_words.Goals as goal

pub returns : goal.returns
returns c = record { written_words = written_words }
