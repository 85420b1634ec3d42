use Rattle.std.proofs.Common.{Some, subst}
use Rattle.log_check.specs.declared.lines.Draft.{Draft}
use Rattle.log_check.specs.Lines.{body_of, IsDrafted, IsDraftInForm}
use Rattle.log_check.proofs.Told.{answer_steps, death_steps, mending_steps}
use Rattle.log_check.proofs.steps.judge_draft.Goals as goal

pub judge_answer-requires-clause-given : goal.judge_answer-requires-clause-given
judge_answer-requires-clause-given c = subst IsDraftInForm c.in-Answer.is c.requires.drafted.form

pub judge_death-requires-clause-node : goal.judge_death-requires-clause-node
judge_death-requires-clause-node c = subst IsDraftInForm c.in-Death.is c.requires.drafted.form

pub returns-in_ok-answered-in-Answer : goal.returns-in_ok-answered-in-Answer
returns-in_ok-answered-in-Answer c =
    let P : Draft → Type 0 = λ d. IsDrafted (body_of c.args.text.now) (Some d) in
    answer_steps c.args.i c.args.cat c.args.text.now c.ranges.i.fits c.in-Answer.given c.in_ok-answered-in-Answer.answered (subst P c.in-Answer.is c.requires.drafted) c.in_ok-answered-in-Answer.ensures

pub returns-in_ok-died-in-Death : goal.returns-in_ok-died-in-Death
returns-in_ok-died-in-Death c =
    let P : Draft → Type 0 = λ d. IsDrafted (body_of c.args.text.now) (Some d) in
    death_steps c.args.i c.args.cat c.args.text.now c.ranges.i.fits c.in-Death.death c.in_ok-died-in-Death.died (subst P c.in-Death.is c.requires.drafted) c.in_ok-died-in-Death.ensures

pub returns-in_ok-mended-in-Mending : goal.returns-in_ok-mended-in-Mending
returns-in_ok-mended-in-Mending c =
    let P : Draft → Type 0 = λ d. IsDrafted (body_of c.args.text.now) (Some d) in
    mending_steps c.args.i c.args.cat c.args.text.now c.ranges.i.fits c.in-Mending.counts c.in_ok-mended-in-Mending.mended (subst P c.in-Mending.is c.requires.drafted) c.in_ok-mended-in-Mending.ensures
