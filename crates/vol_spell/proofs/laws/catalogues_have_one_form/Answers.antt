use Rattle.vol_spell.proofs.Forms.{spelt_form, read_form}
use Rattle.vol_spell.proofs.laws.catalogues_have_one_form.Goals as goal

pub returns : goal.returns
returns c = record { spelt = spelt_form; read = read_form }
