use Rattle.vol_spell.proofs.Handing.{file_to_outside}
use Rattle.vol_spell.proofs.owner_laws.file_to_outside.Goals as goal

pub returns : goal.returns
returns c = file_to_outside
