use Rattle.vol_spell.proofs.Handing.{out_regroups}
use Rattle.vol_spell.proofs.owner_laws.out_regroups.Goals as goal

pub returns : goal.returns
returns c = out_regroups
