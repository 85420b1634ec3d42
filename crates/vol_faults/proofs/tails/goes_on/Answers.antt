use Rattle.std.proofs.Common.{◌≡◌, ◌∙◌, ◌<◌, ◌≤◌, ◌==◌, nat_lt, Some, None, sym, ap, arith}
use Rattle.std.specs.Prelude.{not}
use Rattle.std.proofs.lemmas.Bool.{eq-eqb, ne_eqb}
use Rattle.vol_parts.specs.Volumes.{volume, headers_of}
use Rattle.vol_parts.specs.Chains.{held, next_header, most_headers}
use Rattle.vol_parts.proofs.ChainSteps.{next-number}
use Rattle.vol_faults.proofs.TailLemmas.{goes-ends, goes-stops, goes-goes, goes-done, or-left, or-right}
use Rattle.vol_faults.proofs.tails.goes_on.Goals as goal

pub returns-then-header-ne0 : goal.returns-then-header-ne0
returns-then-header-ne0 c =
    let h = headers_of (volume c.args.home.now c.args.blocks.now) in
    let l = c.loop-count in
    let enough : l.left ≤ held h l.at = omega (arith, c.left_behind-behind.ensures) in
    or-left (not (l.header.ext == 0)) (nat_lt l.left (held h l.at)) (ap not (ne_eqb l.header.ext 0 c.if-header-ne0.true))
    ∙ goes-ends h most_headers l._count l.at l.header l.left _ l.invariant.whole c.loop-count-test.true enough

pub returns-else-header-ne0 : goal.returns-else-header-ne0
returns-else-header-ne0 c =
    let h = headers_of (volume c.args.home.now c.args.blocks.now) in
    let l = c.loop-count in
    let enough : l.left ≤ held h l.at = omega (arith, c.left_behind-behind.ensures) in
    c.lists_more.ensures ∙ or-right (not (l.header.ext == 0)) (nat_lt l.left (held h l.at)) (ap not (eq-eqb l.header.ext 0 c.if-header-ne0.false))
    ∙ goes-ends h most_headers l._count l.at l.header l.left _ l.invariant.whole c.loop-count-test.true enough

pub returns-in_default : goal.returns-in_default
returns-in_default c =
    let h = headers_of (volume c.args.home.now c.args.blocks.now) in
    let l = c.loop-count in
    let past : held h l.at < l.left = omega (arith, c.left_behind-behind.ensures) in
    let none : next_header h l.header ≡ None = sym c.next_header.ensures ∙ c.in_default.is in
    goes-stops h most_headers l._count l.at l.header l.left _ l.invariant.whole c.loop-count-test.true past none

pub loop-count-preserved : goal.loop-count-preserved
loop-count-preserved c =
    let v = volume c.args.home.now c.args.blocks.now in
    let h = headers_of v in
    let l = c.loop-count in
    let past : held h l.at < l.left = omega (arith, c.left_behind-behind.ensures) in
    let next : next_header h l.header ≡ Some c.in-Some.next = sym c.next_header.ensures ∙ c.in-Some.is in
    record {
      number = next-number v l.header c.in-Some.next next;
      whole = rw c.left_behind-behind.ensures
          (goes-goes h most_headers l._count l.at l.header c.in-Some.next l.left _ l.invariant.whole c.loop-count-test.true past next);
    }

pub returns : goal.returns
returns c =
    let l = c.loop-count in
    goes-done (headers_of (volume c.args.home.now c.args.blocks.now)) most_headers l._count l.at l.header l.left _ l.invariant.whole c.loop-count-test.false
