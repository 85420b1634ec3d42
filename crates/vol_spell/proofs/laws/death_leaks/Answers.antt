use Rattle.vol_spell.proofs.Keeping.{death_leaks}
use Rattle.vol_spell.proofs.laws.death_leaks.Goals as goal

pub returns : goal.returns
returns c = death_leaks
