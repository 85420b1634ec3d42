use Rattle.base_words.proofs.Puts.{field-put_same}
use Rattle.base_words.proofs.laws.fields_read_back.Goals as goal

pub returns : goal.returns
returns c = field-put_same
