use Rattle.base_words.proofs.Listing.{has_joined}
use Rattle.base_words.proofs.list_laws.has_joined.Goals as goal

pub returns : goal.returns
returns g c = has_joined
