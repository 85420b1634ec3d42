use Rattle.std.proofs.Common.{◌≡◌, ◌∙◌, ◌<◌, ◌≤◌, ◌-◌, true, None, Some, refl, sym, ap, arith}
use Rattle.std.proofs.lemmas.List.{length-set}
use Rattle.vol_parts.specs.Catalogues.{flagged}
use Rattle.vol_parts.specs.Volumes.{volume, headers_of}
use Rattle.vol_parts.specs.Chains.{held, next_header, most_headers}
use Rattle.vol_parts.proofs.ChainSteps.{step-ends, step-stops, step-goes, step-done, next-number}
use Rattle.vol_sound.proofs.kept.flag_chain.Goals as goal

pub loop-count-init : goal.loop-count-init
loop-count-init c = record { number = c.requires.number; all = c.requires.all; whole = refl }

pub returns-then-left-eq0 : goal.returns-then-left-eq0
returns-then-left-eq0 c =
    let h = headers_of (volume c.args.home.now c.args.blocks.now) in
    let l = c.loop-count in
    let enough : l.left ≤ held h l.at = omega (arith, c.left_behind-left.ensures) in
    ap (λ ns. flagged ns l.flags) (sym (step-ends h most_headers l._count l.at l.header l.left c.loop-count-test.true enough)) ∙ l.invariant.whole

pub returns-in_default : goal.returns-in_default
returns-in_default c =
    let h = headers_of (volume c.args.home.now c.args.blocks.now) in
    let l = c.loop-count in
    let past : held h l.at < l.left = omega (arith, c.left_behind-left.ensures) in
    let none : next_header h l.header ≡ None = sym c.next_header.ensures ∙ c.in_default.is in
    ap (λ ns. flagged ns l.flags) (sym (step-stops h most_headers l._count l.at l.header l.left c.loop-count-test.true past none)) ∙ l.invariant.whole

pub loop-count-preserved : goal.loop-count-preserved
loop-count-preserved c =
    let v = volume c.args.home.now c.args.blocks.now in
    let h = headers_of v in
    let l = c.loop-count in
    let past : held h l.at < l.left = omega (arith, c.left_behind-left.ensures) in
    let next : next_header h l.header ≡ Some c.in-Some.next = sym c.next_header.ensures ∙ c.in-Some.is in
    let step = step-goes h most_headers l._count l.at l.header c.in-Some.next l.left c.loop-count-test.true past next in
    record {
      number = next-number v l.header c.in-Some.next next;
      all = length-set l.flags (l.at - 1) true ∙ l.invariant.all;
      whole = rw c.left_behind-left.ensures (ap (λ ns. flagged ns l.flags) (sym step) ∙ l.invariant.whole);
    }

pub returns : goal.returns
returns c =
    let h = headers_of (volume c.args.home.now c.args.blocks.now) in
    let l = c.loop-count in
    ap (λ ns. flagged ns l.flags) (sym (step-done h most_headers l._count l.at l.header l.left c.loop-count-test.false)) ∙ l.invariant.whole
