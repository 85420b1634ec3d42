use Rattle.vol_repair.proofs.Spelt.{spellable_systems, spellable_runs, spellable_index}
use Rattle.vol_repair.proofs.patching.told_catalogue.Goals as goal

pub count_clusters-requires-clause-runs : goal.count_clusters-requires-clause-runs
count_clusters-requires-clause-runs c = spellable_runs c.args.home.now c.args.blocks.now c.requires

pub count_outside-leaked-requires-clause-systems : goal.count_outside-leaked-requires-clause-systems
count_outside-leaked-requires-clause-systems c = spellable_systems c.args.home.now c.args.blocks.now c.requires

pub read_catalogue-requires-clause-there : goal.read_catalogue-requires-clause-there
read_catalogue-requires-clause-there c = spellable_index c.args.home.now c.args.blocks.now c.requires

pub read_catalogue-requires-clause-systems : goal.read_catalogue-requires-clause-systems
read_catalogue-requires-clause-systems c = spellable_systems c.args.home.now c.args.blocks.now c.requires

pub read_catalogue-requires-clause-runs : goal.read_catalogue-requires-clause-runs
read_catalogue-requires-clause-runs c = spellable_runs c.args.home.now c.args.blocks.now c.requires
