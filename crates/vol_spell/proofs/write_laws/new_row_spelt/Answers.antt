use Rattle.vol_spell.proofs.RowNew.{new_row_spelt}
use Rattle.vol_spell.proofs.write_laws.new_row_spelt.Goals as goal

pub returns : goal.returns
returns c = new_row_spelt
