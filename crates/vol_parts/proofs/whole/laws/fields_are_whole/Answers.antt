use Rattle.vol_parts.proofs.WholeFields.{whole_zeros, whole_put, whole_field, whole_summed}
use Rattle.vol_parts.proofs.whole.laws.fields_are_whole.Goals as goal

pub returns : goal.returns
returns c = record { zeros = whole_zeros; put = whole_put; field = whole_field; summed = whole_summed }
