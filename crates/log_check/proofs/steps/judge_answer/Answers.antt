use Rattle.std.proofs.Common.{◌≡◌, ◌∙◌, ℕ, true, false, List, length, sym, ap, subst, arith}
use Rattle.std.proofs.lemmas.Bool.{both_ways}
use Rattle.log_check.specs.Lines.{reply_of}
use Rattle.log_check.specs.Steps.{BeginsWith, IsChosen, IsNext}
use Rattle.log_check.proofs.Replies.{answer_stops, answer_nexts}
use Rattle.log_check.proofs.steps.judge_answer.Goals as goal

pub returns-then-not-starts_so : goal.returns-then-not-starts_so
returns-then-not-starts_so c =
    let chosen : List ℕ → Type 0 = λ t. IsChosen c.args.cat c.args.given.cmd t c.choose-new.result in
    let choice = subst chosen (c.reply_of.ensures ∙ ap reply_of c.body_of.ensures) c.choose-new.ensures in
    let P : List ℕ → Type 0 = λ l. BeginsWith c.args.text.now l in
    answer_stops c.args.i c.args.cat c.args.text.now c.args.given.node c.args.given.cmd c.choose-new.result c.in_ok-outcome.outcome c.ranges.i.fits c.requires.cat c.requires.given choice c.in_ok-outcome.ensures
    (λ b. both_ways c.starts_so.result c.if-not-starts_so.true (c.starts_so.ensures.begins.1 (subst P (sym (c.as_slice.ensures.value ∙ c.in_ok-line.ensures)) b)))

pub returns : goal.returns
returns c =
    let chosen : List ℕ → Type 0 = λ t. IsChosen c.args.cat c.args.given.cmd t c.choose-new.result in
    let choice = subst chosen (c.reply_of.ensures ∙ ap reply_of c.body_of.ensures) c.choose-new.ensures in
    let same : length c.as_slice.result.now ≡ c.len.result = omega (arith, ap length c.as_slice.ensures.value) in
    let P : ℕ → Type 0 = λ n. IsNext c.args.i c.args.cat c.args.text.now c.in_ok-outcome.outcome.after n true false in
    subst P same
    (answer_nexts c.args.i c.args.cat c.args.text.now c.args.given.node c.args.given.cmd c.choose-new.result c.in_ok-outcome.outcome c.ranges.i.fits c.requires.cat c.requires.given choice c.in_ok-outcome.ensures
    c.as_slice.result.now (c.as_slice.ensures.value ∙ c.in_ok-line.ensures) (c.starts_so.ensures.rest c.if-not-starts_so.false) (c.starts_so.ensures.within c.if-not-starts_so.false))
