use Rattle.std.proofs.Common.{◌+◌, ◌<◌, ℕ, length, sym, ap, subst, arith, length-drop}
use Rattle.std.proofs.lemmas.Bool.{both_ways}
use Rattle.log_check.specs.declared.steps.Step.{Step}
use Rattle.log_check.specs.Steps.{IsStep, IsNext, one_if}
use Rattle.log_check.proofs.Settling.{next_settled}
use Rattle.log_check.proofs.Going.{Going, begins, goes, closes, unchecks, stops}
use Rattle.log_check.proofs.judging.judge_from.Goals as goal

pub loop-now-init : goal.loop-now-init
loop-now-init c = (begins c.args.cat c.args.text.now c.requires.cat, c.requires.settled)

pub loop-now-preserved : goal.loop-now-preserved
loop-now-preserved c =
    let S : Step → Type 0 = λ s. IsStep (c.loop-now.entries + 1) c.loop-now.now c.loop-now.rest.now s in
    let gone = goes c.args.cat c.args.text.now c.loop-now.now c.loop-now.rest.now c.loop-now.entries c.loop-now.answers c.loop-now.deaths c.in-Next.after c.in-Next.used c.in-Next.answered c.in-Next.died c.behind-rest.result.now
    c.loop-now.invariant.0 (subst S c.in-Next.is c.in_ok-step.ensures) c.behind-rest.ensures in
    let A : ℕ → Type 0 = λ a. Going c.args.cat c.args.text.now c.in-Next.after c.behind-rest.result.now (c.loop-now.entries + 1) a (c.loop-now.deaths + one_if c.in-Next.died) in
    let D : ℕ → Type 0 = λ d. Going c.args.cat c.args.text.now c.in-Next.after c.behind-rest.result.now (c.loop-now.entries + 1) c.one_more-answers.result d in (
      subst D (sym c.one_more-deaths.ensures) (subst A (sym c.one_more-answers.ensures) gone),
      λ known. next_settled (c.loop-now.entries + 1) c.loop-now.now c.loop-now.rest.now c.in-Next.after c.in-Next.used c.in-Next.answered c.in-Next.died (c.loop-now.invariant.1 known) (subst S c.in-Next.is c.in_ok-step.ensures),
    )

pub loop-now-smaller : goal.loop-now-smaller
loop-now-smaller c =
    let S : Step → Type 0 = λ s. IsStep (c.loop-now.entries + 1) c.loop-now.now c.loop-now.rest.now s in
    let next : IsNext (c.loop-now.entries + 1) c.loop-now.now c.loop-now.rest.now c.in-Next.after c.in-Next.used c.in-Next.answered c.in-Next.died = subst S c.in-Next.is c.in_ok-step.ensures in
    let shorter : length c.behind-rest.result.now < length c.loop-now.rest.now = omega (arith, ap length c.behind-rest.ensures, length-drop c.in-Next.used c.loop-now.rest.now, next.some, next.within) in
    shorter

pub returns-then-closed : goal.returns-then-closed
returns-then-closed c = closes c.args.cat c.args.text.now c.loop-now.now c.loop-now.rest.now c.loop-now.entries c.loop-now.answers c.loop-now.deaths c.loop-now.invariant.0 (c.in_ok-closed.ensures.0 c.if-closed.true)

pub returns-in-Untold : goal.returns-in-Untold
returns-in-Untold c =
    let S : Step → Type 0 = λ s. IsStep (c.loop-now.entries + 1) c.loop-now.now c.loop-now.rest.now s in
    unchecks c.args.cat c.args.text.now c.loop-now.now c.loop-now.rest.now c.loop-now.entries c.loop-now.answers c.loop-now.deaths c.loop-now.invariant.0 (subst S c.in-Untold.is c.in_ok-step.ensures)

pub returns-in-Stop : goal.returns-in-Stop
returns-in-Stop c =
    let S : Step → Type 0 = λ s. IsStep (c.loop-now.entries + 1) c.loop-now.now c.loop-now.rest.now s in
    stops c.args.cat c.args.text.now c.loop-now.now c.loop-now.rest.now c.loop-now.entries c.loop-now.answers c.loop-now.deaths c.loop-now.invariant.0
    (λ e. both_ways c.in_ok-closed.closed c.if-closed.false (c.in_ok-closed.ensures.1 e)) (subst S c.in-Stop.is c.in_ok-step.ensures)
