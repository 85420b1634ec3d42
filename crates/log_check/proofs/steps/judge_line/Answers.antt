use Rattle.std.proofs.Common.{ℕ, List, Option, subst}
use Rattle.log_check.specs.declared.lines.Draft.{Draft}
use Rattle.log_check.specs.Lines.{body_of, IsDrafted}
use Rattle.log_check.proofs.Told.{none_stops}
use Rattle.log_check.proofs.steps.judge_line.Goals as goal

pub judge_draft-requires-clause-drafted : goal.judge_draft-requires-clause-drafted
judge_draft-requires-clause-drafted c =
    let P : List ℕ → Type 0 = λ t. IsDrafted t c.in_ok-read.read in
    let Q : Option Draft → Type 0 = λ o. IsDrafted (body_of c.args.text.now) o in
    subst Q c.in-Some.is (subst P c.body_of.ensures c.in_ok-read.ensures)

pub returns-in-None : goal.returns-in-None
returns-in-None c =
    let P : List ℕ → Type 0 = λ t. IsDrafted t c.in_ok-read.read in
    let Q : Option Draft → Type 0 = λ o. IsDrafted (body_of c.args.text.now) o in
    none_stops c.args.i c.args.cat c.args.text.now c.ranges.i.fits (subst Q c.in-None.is (subst P c.body_of.ensures c.in_ok-read.ensures))
