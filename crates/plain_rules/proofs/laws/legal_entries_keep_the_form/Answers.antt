use Rattle.plain_rules.proofs.FormEntries.{legal_form}
use Rattle.plain_rules.proofs.laws.legal_entries_keep_the_form.Goals as goal

pub returns : goal.returns
returns c = legal_form
