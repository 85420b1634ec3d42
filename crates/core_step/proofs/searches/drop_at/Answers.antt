use Rattle.std.proofs.Common.{◌∙◌, arith}
use Rattle.core_step.proofs.Places.{index_keeps}
use Rattle.core_step.proofs.searches.drop_at.Goals as goal

pub returns-then-lbn-g-clause-clusters : goal.returns-then-lbn-g-clause-clusters
returns-then-lbn-g-clause-clusters c = c.give_back_one.ensures.clusters ∙ index_keeps c.args.g.now c.args.stock.now.clusters c.args.lbn (omega arith) c.requires.place
