use Rattle.std.proofs.Common.{ℕ, List, Option, sym, subst}
use Rattle.log_check.specs.declared.commands.Given.{Given}
use Rattle.log_check.specs.Commands.{ReadsCommand}
use Rattle.log_check.specs.Lines.{IsDrafted}
use Rattle.log_check.proofs.Drafted.{mending_drafted, death_drafted, answer_of, answer_drafted}
use Rattle.log_check.proofs.lines.draft_of.Goals as goal

pub returns-in-Some : goal.returns-in-Some
returns-in-Some c = mending_drafted c.args.body.now c.in-Some.counts (sym c.in-Some.ensures)

pub returns-in-Some-read_death : goal.returns-in-Some-read_death
returns-in-Some-read_death c = death_drafted c.args.body.now c.in-Some-read_death.death (sym c.in_default.ensures) (sym c.in-Some-read_death.ensures)

pub returns-in-Some-2 : goal.returns-in-Some-2
returns-in-Some-2 c =
    let reads = let P : List ℕ → Type 0 = λ w. ReadsCommand w c.in_ok-given.field-0 in subst P c.words_of.ensures c.in_ok-given.ensures.back in
    let P : Option Given → Type 0 = λ o. IsDrafted c.args.body.now (answer_of o) in
    subst P c.in-Some-2.is
    (answer_drafted c.args.body.now c.in_ok-given.field-0 (sym c.in_default.ensures) (sym c.in_default-read_death.ensures) reads c.in_ok-given.ensures.form)

pub returns-in-None : goal.returns-in-None
returns-in-None c =
    let reads = let P : List ℕ → Type 0 = λ w. ReadsCommand w c.in_ok-given.field-0 in subst P c.words_of.ensures c.in_ok-given.ensures.back in
    let P : Option Given → Type 0 = λ o. IsDrafted c.args.body.now (answer_of o) in
    subst P c.in-None.is
    (answer_drafted c.args.body.now c.in_ok-given.field-0 (sym c.in_default.ensures) (sym c.in_default-read_death.ensures) reads c.in_ok-given.ensures.form)
