use Rattle.fx_dir.proofs.Based.{read-fits}
use Rattle.fx_dir.proofs.laws.packing_is_least.Goals as goal

pub returns : goal.returns
returns c = read-fits
