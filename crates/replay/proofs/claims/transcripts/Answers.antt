-- `claims::transcripts` ensures the claim about what is written, which is proved in `Transcripts`.
use Rattle.replay.proofs.Transcripts.{transcript_claim}
use Rattle.replay.proofs.claims.transcripts.Goals as goal

pub returns : goal.returns
returns c = record { transcripts = transcript_claim }
