use Rattle.std.proofs.Common.{◌≡◌, ◌+◌, length, refl, arith}
use Rattle.std.proofs.Math.ListN.{replicate}
use Rattle.std.proofs.lemmas.Grind.{common_steps}
use Rattle.vol_faults.specs.declared.loops.Place.TheVariants.{New}
use Rattle.vol_faults.proofs.WalkLemmas.{walk-none}
use Rattle.vol_faults.proofs.loops.no_walk.Goals as goal

pub returns-clause-walk : goal.returns-clause-walk
returns-clause-walk c =
    let places : c.in_ok-vec.field-0.items ≡ replicate (length c.args.cat.now.files + 1) New = grind (arith, common_steps) in
    let looks : c.in_ok-vec-2.field-0.items ≡ replicate (length c.args.cat.now.files + 1) 0 = grind (arith, common_steps) in
    walk-none c.args.cat.now _ c.new.ensures.items c.new-2.ensures.items places looks refl refl
