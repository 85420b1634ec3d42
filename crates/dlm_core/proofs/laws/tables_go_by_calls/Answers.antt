use Rattle.dlm_core.proofs.Truth.{all-calls}
use Rattle.dlm_core.proofs.laws.tables_go_by_calls.Goals as goal

pub returns : goal.returns
returns c = all-calls
