-- `claims::words_in_bytes` ensures the claim about words, which is proved in `Bytes`.
use Rattle.words.proofs.Bytes.{words_claim}
use Rattle.words.proofs.claims.words_in_bytes.Goals as goal

pub returns : goal.returns
returns c = record { words_in_bytes = words_claim }
