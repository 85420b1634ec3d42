use Rattle.std.proofs.Common.{refl}
use Rattle.vol_mends.specs.Bits.{numbers_left}
use Rattle.vol_rebuild.proofs.Stepping.{first_well, ends_so}
use Rattle.vol_rebuild.proofs.Spacing.{tidied}
use Rattle.vol_rebuild.proofs.bits.set_all_bits.Goals as goal

pub set_space-requires-clause-told : goal.set_space-requires-clause-told
set_space-requires-clause-told g c = (numbers_left c.requires.told.0, (c.in_ok-set_index.ensures.ok c.requires.told.0 c.requires.told.1).told)

pub returns-clause-step : goal.returns-clause-step
returns-clause-step g c = ends_so _ _ _ _ _ _ _ _ _ _ (first_well _ _ _ _ _ _ _ _ refl c.in_ok-set_index.ensures.step) c.set_space.ensures.step

pub returns-clause-ok : goal.returns-clause-ok
returns-clause-ok g c x t = let set = c.in_ok-set_index.ensures.ok x t in tidied c.args.g.now c.args.m.now.blocks _ _ x c.set_space.result set (c.set_space.ensures.ok (numbers_left x) set.told)
