use Rattle.vol_spell.proofs.Owned.{each_is_owned}
use Rattle.vol_spell.proofs.laws.each_is_owned.Goals as goal

pub returns : goal.returns
returns c = each_is_owned
