use Rattle.std.proofs.Common.{refl, rules, tests, eqb}
use Rattle.std.proofs.lemmas.Iterator.Consumers.{nth_from_yields_List}
use Rattle.std.proofs.lemmas.Iterator.Splits.{YieldsList-from_slice_split}
use Rattle.run_script.specs.Lines.{parts}
use Rattle.dlm_run.proofs.words.word_at.Goals as goal
use Rattle.base_words.proofs.Listing.{unwrapped}

pub returns : goal.returns
returns c =
    let is =
    nth_from_yields_List c.nth.result c.nth.new.self c.args.n c.nth.ensures.ran
    (YieldsList-from_slice_split _ (λ b. eqb b 32) c.args.line.now c.split.ensures.rest c.split.ensures.done c.split.ensures.closure (λ x r q k. search (rules, tests))) in
    unwrapped (λ x. x.now) c.nth.result _ c.unwrap_or.result (parts 32 c.args.line.now) c.args.n is c.unwrap_or.ensures refl
