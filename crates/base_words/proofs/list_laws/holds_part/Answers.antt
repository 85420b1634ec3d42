use Rattle.base_words.proofs.Adding.{none_added, in_first, behind_first}
use Rattle.base_words.proofs.list_laws.holds_part.Goals as goal

pub returns : goal.returns
returns g c = record { nothing = none_added; first = in_first; second = behind_first }
