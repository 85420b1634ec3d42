use Rattle.std.proofs.Common.{◌∙◌}
use Rattle.core_space.proofs.Loops.{first_say_all}
use Rattle.core_space.proofs.bits.count_free.Goals as goal

pub returns-clause-count : goal.returns-clause-count
returns-clause-count c = c.count_first.ensures.count ∙ first_say_all c.args.geometry.now c.args.storage.now c.min-last.result c.requires c.min-last.ensures
