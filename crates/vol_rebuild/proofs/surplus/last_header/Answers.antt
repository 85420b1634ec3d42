use Rattle.std.proofs.Common.{◌≡◌, ◌∙◌, ◌<◌, ◌≤◌, Some, None, sym, arith}
use Rattle.vol_parts.specs.Volumes.{volume, headers_of}
use Rattle.vol_parts.specs.Chains.{held, next_header, most_headers}
use Rattle.vol_parts.proofs.ChainSteps.{next-number}
use Rattle.vol_parts.proofs.Splits.{split-begins, split-goes, split-over}
use Rattle.vol_rebuild.proofs.Lasts.{ends_here, ends_on}
use Rattle.vol_rebuild.proofs.surplus.last_header.Goals as goal

pub loop-count-init : goal.loop-count-init
loop-count-init c =
    let begins = split-begins (headers_of (volume c.args.home.now c.args.blocks.now)) 0 c.args.n c.args.first.now c.requires.whole in
    record { number = c.requires.number; some = λ one. absurd (omega (arith, one)); all = begins.all; ends = λ m x k e. e }

pub returns-then-behind-eq0 : goal.returns-then-behind-eq0
returns-then-behind-eq0 c =
    let h = headers_of (volume c.args.home.now c.args.blocks.now) in
    let l = c.loop-count in
    let enough : l.rest ≤ held h l.slot = omega (arith, c.left_behind-behind.ensures) in
    l.invariant.ends l.slot l.header l.rest (ends_here h most_headers l._count l.slot l.header l.rest c.loop-count-test.true enough)

pub unreachable-requires : goal.unreachable-requires
unreachable-requires c =
    let h = headers_of (volume c.args.home.now c.args.blocks.now) in
    let l = c.loop-count in
    let past : held h l.slot < l.rest = omega (arith, c.left_behind-behind.ensures) in
    let goes = split-goes h 0 most_headers l._count l.slot l.header l.rest c.loop-count-test.true past l.invariant.all in
    let is = goes.is in
    let none : next_header h l.header ≡ None = sym c.next_header.ensures ∙ c.in_default.is in
    let both : Some goes.next ≡ None = sym is ∙ none in
    cc both

pub loop-count-preserved : goal.loop-count-preserved
loop-count-preserved c =
    let v = volume c.args.home.now c.args.blocks.now in
    let h = headers_of v in
    let l = c.loop-count in
    let past : held h l.slot < l.rest = omega (arith, c.left_behind-behind.ensures) in
    let next : next_header h l.header ≡ Some c.in-Some.next = sym c.next_header.ensures ∙ c.in-Some.is in
    let goes = split-goes h 0 most_headers l._count l.slot l.header l.rest c.loop-count-test.true past l.invariant.all in
    let one : goes.next ≡ c.in-Some.next = let is = goes.is in cc in
    record {
      number = next-number v l.header c.in-Some.next next;
      some = λ _. omega arith;
      all = rw (c.left_behind-behind.ensures, sym one) goes.all;
      ends = λ m x k. rw c.left_behind-behind.ensures (λ e. l.invariant.ends m x k (ends_on h most_headers l._count l.slot l.header c.in-Some.next l.rest m x k c.loop-count-test.true past next e));
    }

pub unreachable-requires-2 : goal.unreachable-requires-2
unreachable-requires-2 c =
    let h = headers_of (volume c.args.home.now c.args.blocks.now) in
    let l = c.loop-count in
    let none = split-over h most_headers l._count l.slot l.header l.rest c.loop-count-test.false l.invariant.all in
    let some = l.invariant.some (omega (arith, c.loop-count-test.false)) in
    omega (arith, none, some)
