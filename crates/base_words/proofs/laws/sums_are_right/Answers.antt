use Rattle.std.proofs.Common.{sym, ◌∙◌}
use Rattle.base_words.proofs.Puts.{field-summed, checksum-summed, get_or-summed_below}
use Rattle.base_words.proofs.laws.sums_are_right.Goals as goal

pub returns : goal.returns
returns c = record {
  right = λ b l. field-summed b l ∙ sym (checksum-summed b l);
  others = λ b k l h. get_or-summed_below b k 0 l h;
}
