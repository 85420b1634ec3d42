use Rattle.std.proofs.Common.{arith}
use Rattle.vol_init.proofs.PutLemmas.{parts-lie, put-all}
use Rattle.vol_init.proofs.making.put_parts.Goals as goal

pub put_part-requires-clause-inside : goal.put_part-requires-clause-inside
put_part-requires-clause-inside g c =
    let lie = parts-lie _ c.requires.plan in
    omega (arith, lie.inside, c.end_of_parts-lbn-end.ensures, c.requires.blocks, c.loop-lbn.invariant.count)

pub returns-clause-there : goal.returns-clause-there
returns-clause-there g c =
    let lie = parts-lie _ c.requires.plan in
    put-all c.args.plan.now c.loop-lbn.lbn _ _ _ c.requires.plan (omega (arith, c.end_of_parts-lbn-end.ensures, c.loop-lbn-test.false))
    (omega (arith, lie.some, lie.inside, c.end_of_parts-lbn-end.ensures, c.requires.blocks, c.loop-lbn.auto.lbn-end)) c.loop-lbn.invariant.put
