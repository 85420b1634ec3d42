use Rattle.base_words.proofs.Listing.{has_place}
use Rattle.base_words.proofs.list_laws.has_place.Goals as goal

pub returns : goal.returns
returns g c = has_place
