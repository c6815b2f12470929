use Rattle.query_laws.proofs.KeptPlaces.{places_found}
use Rattle.query_laws.proofs.law_places.Goals as goal

pub returns : goal.returns
returns c = places_found
