-- `claims::replay_texts` ensures its claim, which is proved in `Records`.
use Rattle.text.proofs.Records.{text_claim}
use Rattle.text.proofs.claims.replay_texts.Goals as goal

pub returns : goal.returns
returns c = record { replay_texts = text_claim }
