-- `claims::places` ensures its claim, which is proved in `InBytes`.
use Rattle.layout.proofs.InBytes.{places_claim}
use Rattle.layout.proofs.claims.places.Goals as goal

pub returns : goal.returns
returns c = record { places = places_claim }
