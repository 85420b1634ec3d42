use Rattle.base_words.proofs.Puts.{field-put_below, field-put_above}
use Rattle.base_words.proofs.laws.fields_stay_apart.Goals as goal

pub returns : goal.returns
returns c = record { below = field-put_below; above = field-put_above }
