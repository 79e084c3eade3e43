-- `claims::map_words` ensures its claim, which is proved in `InNumbers`.
use Rattle.format.proofs.InNumbers.{map_words}
use Rattle.format.proofs.claims.map_words.Goals as goal

pub returns : goal.returns
returns c = record { map_words = map_words }
