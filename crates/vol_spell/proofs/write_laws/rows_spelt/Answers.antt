use Rattle.vol_spell.proofs.RowKinds.{rows_spelt}
use Rattle.vol_spell.proofs.write_laws.rows_spelt.Goals as goal

pub returns : goal.returns
returns c = rows_spelt
