use Rattle.std.proofs.Common.{List, Err, ap, subst}
use Rattle.base_words.specs.Fields.{Block}
use Rattle.vol_sound.specs.Beyond.{IsFirstBeyond}
use Rattle.vol_show.proofs.showing.salvaged.Goals as goal

pub returns-in-Err-NotRepairable : goal.returns-in-Err-NotRepairable
returns-in-Err-NotRepairable c =
    subst (λ (bs : List Block). IsFirstBeyond bs c.in-Err-NotRepairable.found) c.in_ok-copy.ensures (c.in-Err-NotRepairable.ensures.refused c.in-Err-NotRepairable.found (ap Err c.in-Err-NotRepairable.field-0-is))
