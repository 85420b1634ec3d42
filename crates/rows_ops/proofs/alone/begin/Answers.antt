use Rattle.std.proofs.Common.{refl, rules}
use Rattle.vol_spell.proofs.Accepted.{catalogue_is_spelt}
use Rattle.rows_ops.specs.Alone.{Fatal, NotInOrder}
use Rattle.rows_ops.proofs.Meeting.{begins_alone}
use Rattle.rows_ops.proofs.alone.begin.Goals as goal

pub returns-in_default : goal.returns-in_default
returns-in_default g c = let found = rw c.in_default.is at c.in_ok-cat.ensures in Fatal found.0 found.1

pub returns-then-not-is_accounted : goal.returns-then-not-is_accounted
returns-then-not-is_accounted g c =
    let told = rw c.in-Some.is at c.in_ok-cat.ensures in
    NotInOrder c.in-Some.cat told (λ accounted. let yes = c.is_accounted.ensures.1 accounted in search rules)

pub returns : goal.returns
returns g c =
    let told = rw c.in-Some.is at c.in_ok-cat.ensures in
    begins_alone (g.O.Operation.cmd_is c.args.op.now) _ c.args.blocks.now c.in-Some.cat c.requires.lawful
    (catalogue_is_spelt c.args.blocks.now c.in-Some.cat c.requires.size.from c.requires.size.to c.blocks_are_whole.ensures told) told (c.is_accounted.ensures.0 (search rules)) c.geometry.ensures.told refl c.new.ensures c.new-2.ensures
    (record { clusters = c.new-3.ensures; number = refl; short = refl })
