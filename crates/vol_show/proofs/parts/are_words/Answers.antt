use Rattle.std.proofs.Common.{rules, tests, eqb}
use Rattle.std.proofs.lemmas.Iterator.Search.{all_from_yields_List}
use Rattle.std.proofs.lemmas.Iterator.Splits.{YieldsList-from_slice_split}
use Rattle.vol_show.specs.Specifying.{is_word}
use Rattle.vol_show.proofs.parts.are_words.Goals as goal

pub returns : goal.returns
returns c =
    all_from_yields_List is_word c.all.new.self _ c.all.result c.all.ensures.ran
    (YieldsList-from_slice_split _ (λ b. eqb b 46) c.args.text.now c.split.ensures.rest c.split.ensures.done c.split.ensures.closure (λ x r q k. search (rules, tests)))
    (λ x b q k. search (rules, tests))
