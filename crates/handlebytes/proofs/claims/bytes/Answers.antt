-- `handlebytes::claims::bytes` ensures the claim about the bytes of a handle and of a record, which is proved in `Offsets`, `Round` and `Whole`.
use Rattle.handlebytes.proofs.Offsets.{head_at}
use Rattle.handlebytes.proofs.Round.{record_stored, fits_back}
use Rattle.handlebytes.proofs.Whole.{encoded_stands, zeroes_stand}
use Rattle.handlebytes.proofs.claims.bytes.Goals as goal

pub returns : goal.returns
returns c = record {
  bytes = record {
    head = head_at;
    encoded = encoded_stands;
    zeroes = zeroes_stand;
    fits = fits_back;
    stored = record_stored;
  };
}
