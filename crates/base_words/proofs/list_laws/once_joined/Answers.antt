use Rattle.base_words.proofs.Listing.{once_joined}
use Rattle.base_words.proofs.list_laws.once_joined.Goals as goal

pub returns : goal.returns
returns g c = once_joined
