use Rattle.vol_spell.proofs.RowKinds.{row_spelt}
use Rattle.vol_spell.proofs.write_laws.row_spelt.Goals as goal

pub returns : goal.returns
returns c = row_spelt
