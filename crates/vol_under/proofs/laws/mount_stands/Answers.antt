use Rattle.vol_under.proofs.Steps.{mount_stands}
use Rattle.vol_under.proofs.laws.mount_stands.Goals as goal

pub returns : goal.returns
returns c = mount_stands
