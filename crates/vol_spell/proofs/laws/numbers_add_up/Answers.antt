use Rattle.vol_spell.proofs.NumberAdds.{numbers_add_up}
use Rattle.vol_spell.proofs.laws.numbers_add_up.Goals as goal

pub returns : goal.returns
returns c = numbers_add_up
