use Rattle.vol_spell.proofs.Handing.{outside_to_file}
use Rattle.vol_spell.proofs.owner_laws.outside_to_file.Goals as goal

pub returns : goal.returns
returns c = outside_to_file
