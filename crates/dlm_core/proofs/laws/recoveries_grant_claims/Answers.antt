use Rattle.dlm_core.proofs.Claims.{all-restored}
use Rattle.dlm_core.proofs.laws.recoveries_grant_claims.Goals as goal

pub returns : goal.returns
returns c = all-restored
