-- `claims::checksums` ensures the claim about checksums, which is proved in `PlainSums`.
use Rattle.fletcher.proofs.PlainSums.{checksum_claim}
use Rattle.fletcher.proofs.claims.checksums.Goals as goal

pub returns : goal.returns
returns c = record { checksums = checksum_claim }
