use Rattle.vol_records.proofs.PrintsBack.{prints_back}
use Rattle.vol_records.proofs.laws.texts_print_back.Goals as goal

pub returns : goal.returns
returns c = prints_back
