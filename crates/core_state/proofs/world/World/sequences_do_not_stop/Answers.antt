use Rattle.core_state.proofs.SmallWorlds.{all_go_on}
use Rattle.core_state.proofs.world.World.sequences_do_not_stop.Goals as goal

pub returns : goal.returns
returns g c = all_go_on c.args.self.now.world c.keeps_the_rules.ensures.good c.keeps_the_rules.ensures.few c.keeps_the_rules.ensures.lines
