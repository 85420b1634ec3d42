use Rattle.std.proofs.Common.{◌∙◌}
use Rattle.plain_cat.specs.declared.mode.Mode.TheVariants.{NL}
use Rattle.core_space.proofs.Staying.{stays-so}
use Rattle.core_step.proofs.giving.stays.Goals as goal

pub returns-clause-stays : goal.returns-clause-stays
returns-clause-stays c es e = c.stays_behind.ensures.stays ∙ stays-so c.args.stocked es c.args.walk.now (c.args.name, NL) e
