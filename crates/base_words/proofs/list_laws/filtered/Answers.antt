use Rattle.base_words.proofs.Listing.{filtered}
use Rattle.base_words.proofs.list_laws.filtered.Goals as goal

pub returns : goal.returns
returns g c = filtered
