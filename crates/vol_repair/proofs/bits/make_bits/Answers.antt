use Rattle.std.proofs.Common.{refl}
use Rattle.vol_repair.proofs.Stepping.{first_well, ends_so}
use Rattle.vol_repair.proofs.bits.make_bits.Goals as goal

pub returns-clause-step : goal.returns-clause-step
returns-clause-step g c first before =
    ends_so _ _ _ _ _ _ _ _ _ _ (first_well _ _ _ _ _ _ _ _ refl (c.in_ok-set_numbers.ensures.step first before)) (c.set_clusters.ensures.step first c.args.m.now.blocks (c.in_ok-set_numbers.ensures.ok first before))
