use Rattle.std.proofs.Common.{◌≡◌, ◌∙◌, ℕ, true, false, length, ap, subst, arith}
use Rattle.std.proofs.lemmas.Bool.{both_ways}
use Rattle.log_check.specs.Steps.{IsNext}
use Rattle.log_check.proofs.Entries.{told_nexts, told_illegal, told_stops}
use Rattle.log_check.proofs.steps.judge_told.Goals as goal

pub returns-then-not-starts_so : goal.returns-then-not-starts_so
returns-then-not-starts_so c =
    told_stops c.args.i c.args.cat c.args.text.now c.args.death c.new.result c.as_slice.result.now c.new.ensures c.requires.told (c.as_slice.ensures.value ∙ c.in_ok-line.ensures)
    (λ b. both_ways c.starts_so.result c.if-not-starts_so.true (c.starts_so.ensures.begins.1 b))

pub returns-in-Some : goal.returns-in-Some
returns-in-Some c =
    let same : length c.as_slice.result.now ≡ c.len.result = omega (arith, ap length c.as_slice.ensures.value) in
    let P : ℕ → Type 0 = λ n. IsNext c.args.i c.args.cat c.args.text.now c.in-Some.after n false true in
    subst P same
    (told_nexts c.args.i c.args.cat c.args.text.now c.args.death c.new.result c.in-Some.after c.as_slice.result.now c.new.ensures c.requires.told c.requires.node (omega arith) c.requires.cat
    c.in-Some.ensures.some.0 c.in-Some.ensures.some.1 (c.as_slice.ensures.value ∙ c.in_ok-line.ensures) (c.starts_so.ensures.rest c.if-not-starts_so.false) (c.starts_so.ensures.within c.if-not-starts_so.false))

pub returns : goal.returns
returns c = told_illegal c.args.i c.args.cat c.args.text.now c.args.death c.new.result c.new.ensures c.requires.told (c.died_on.ensures.none c.in-None.is)
