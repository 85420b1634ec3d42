use Rattle.std.proofs.Common.{◌≡◌, ◌∙◌, ◌+◌, Some, ap, sym, subst}
use Rattle.vol_records.proofs.TextLines.{AreTaken, taken_more, taken_long, none_long}
use Rattle.vol_records.proofs.lines.Lines8.of_text.Goals as goal

pub returns-then-split-gt-LARGEST-clause-long : goal.returns-then-split-gt-LARGEST-clause-long
returns-then-split-gt-LARGEST-clause-long c k e =
    let count = c.len.ensures in
    let same : c.len.result + 1 ≡ k = cc in
    taken_long c.args.text.now c.loop-split.rest.now c.in-Some.split.line.now c.in-Some.split.rest.now c.loop-split.lines c.loop-split.invariant c.in-Some.ensures.value c.if-split-gt-LARGEST.true
    ∙ ap (λ n. Some (n + 1)) (sym count) ∙ ap (λ n. Some n) same

pub loop-split-preserved : goal.loop-split-preserved
loop-split-preserved c =
    subst (AreTaken c.args.text.now c.in-Some.split.rest.now) (sym c.in_ok-push.ensures.ok)
    (taken_more c.args.text.now c.loop-split.rest.now c.in-Some.split.line.now c.in-Some.split.rest.now c.loop-split.lines c.loop-split.invariant c.in-Some.ensures.value c.if-split-gt-LARGEST.false)

pub returns-clause-short : goal.returns-clause-short
returns-clause-short c = none_long c.args.text.now c.loop-split.rest.now c.loop-split.lines c.loop-split.invariant c.in_default.ensures.value
