use Rattle.std.proofs.Common.{◌≡◌, ◌∙◌, ◌+◌, ◌-◌, ◌*◌, ◌<◌, ◌≤◌, Some, sym, arith}
use Rattle.vol_parts.specs.Volumes.{volume, headers_of}
use Rattle.vol_parts.specs.Chains.{held, next_header, most_headers}
use Rattle.vol_parts.proofs.ChainSteps.{next-number}
use Rattle.vol_parts.proofs.Splits.{split-begins, split-goes, split-short, split-full, split-ends, split-over}
use Rattle.vol_parts.proofs.chains.is_well_split.Goals as goal

pub loop-count-init : goal.loop-count-init
loop-count-init c =
    let v = volume c.args.home.now c.args.blocks.now in
    let begins = split-begins (headers_of v) c.args.home.now.cluster c.args.n c.args.first.now c.requires.whole in
    record { number = c.requires.number; some = λ one. absurd (omega arith); all = begins.all; split = begins.split }

pub returns-then-behind-eq0 : goal.returns-then-behind-eq0
returns-then-behind-eq0 c =
    let h = headers_of (volume c.args.home.now c.args.blocks.now) in
    let l = c.loop-count in
    let enough : l.left ≤ held h l.at = omega (arith, c.left_behind-behind.ensures) in
    rw c.from-full.ensures (sym (split-ends h (77 * c.args.home.now.cluster) most_headers l._count l.at l.header l.left c.loop-count-test.true enough) ∙ l.invariant.split)

pub returns-then-left-behind : goal.returns-then-left-behind
returns-then-left-behind c =
    let h = headers_of (volume c.args.home.now c.args.blocks.now) in
    let l = c.loop-count in
    let full = 77 * c.args.home.now.cluster in
    let past : held h l.at < l.left = omega (arith, c.left_behind-behind.ensures) in
    let goes = split-goes h full most_headers l._count l.at l.header l.left c.loop-count-test.true past l.invariant.all in
    let short = split-short h full (most_headers - l._count) (most_headers - (l._count + 1)) l.at l.header l.left goes
    (λ e. c.if-left-behind.true (omega (arith, c.from-full.ensures, c.left_behind-behind.ensures, e))) in
    sym (sym l.invariant.split ∙ short)

pub returns-in_default : goal.returns-in_default
returns-in_default c =
    let h = headers_of (volume c.args.home.now c.args.blocks.now) in
    let l = c.loop-count in
    let past : held h l.at < l.left = omega (arith, c.left_behind-behind.ensures) in
    let goes = split-goes h (77 * c.args.home.now.cluster) most_headers l._count l.at l.header l.left c.loop-count-test.true past l.invariant.all in
    let is = goes.is in
    absurd (cc (is, c.next_header.ensures, c.in_default.is))

pub loop-count-preserved : goal.loop-count-preserved
loop-count-preserved c =
    let v = volume c.args.home.now c.args.blocks.now in
    let h = headers_of v in
    let l = c.loop-count in
    let full = 77 * c.args.home.now.cluster in
    let past : held h l.at < l.left = omega (arith, c.left_behind-behind.ensures) in
    let goes = split-goes h full most_headers l._count l.at l.header l.left c.loop-count-test.true past l.invariant.all in
    let next : next_header h l.header ≡ Some c.in-Some.next = sym c.next_header.ensures ∙ c.in-Some.is in
    let one : goes.next ≡ c.in-Some.next = let is = goes.is in cc in
    let is : held h l.at ≡ full = omega (arith, c.if-left-behind.false, c.from-full.ensures, c.left_behind-behind.ensures) in
    let same = split-full h full (most_headers - l._count) (most_headers - (l._count + 1)) l.at l.header l.left goes is in
    record {
      number = next-number v l.header c.in-Some.next next;
      some = λ _. omega arith;
      all = rw (c.left_behind-behind.ensures, sym one) goes.all;
      split = rw (c.left_behind-behind.ensures, sym one) (sym same ∙ l.invariant.split);
    }

pub returns : goal.returns
returns c =
    let h = headers_of (volume c.args.home.now c.args.blocks.now) in
    let l = c.loop-count in
    let none = split-over h most_headers l._count l.at l.header l.left c.loop-count-test.false l.invariant.all in
    let some = l.invariant.some (omega arith) in
    absurd (omega arith)
