use Rattle.std.proofs.Common.{◌∙◌, ◌+◌, [], get_or, drop, sym, subst, refl}
use Rattle.std.specs.Prelude.{IsSome}
use Rattle.op_law.proofs.Wanted.{left-first, left-here, block-tells, block-passed}
use Rattle.op_law.proofs.events.first_found.Goals as goal

pub loop-block-init : goal.loop-block-init
loop-block-init c = left-first c.args.name.now c.args.ver c.args.seen.now c.requires

pub find_in-requires : goal.find_in-requires
find_in-requires c =
    let left = left-here c.args.name.now c.args.ver c.args.seen.now c.loop-block.block-index (0, []) c.loop-block-test.true c.loop-block.invariant in
    subst IsSome (sym left.read.0) refl

pub returns-in-Some : goal.returns-in-Some
returns-in-Some c =
    let seen = c.args.seen.now in
    let i = c.loop-block.block-index in
    let left = left-here c.args.name.now c.args.ver seen i (0, []) c.loop-block-test.true c.loop-block.invariant in
    sym (block-tells c.args.name.now c.args.ver seen (drop (i + 1) seen) (get_or seen i (0, [])) left c.in-Some.found (sym c.find_in.ensures ∙ c.in-Some.is))

pub loop-block-preserved : goal.loop-block-preserved
loop-block-preserved c =
    let seen = c.args.seen.now in
    let i = c.loop-block.block-index in
    let left = left-here c.args.name.now c.args.ver seen i (0, []) c.loop-block-test.true c.loop-block.invariant in
    block-passed c.args.name.now c.args.ver seen (drop (i + 1) seen) (get_or seen i (0, [])) left (sym c.find_in.ensures ∙ c.in_default.is)
