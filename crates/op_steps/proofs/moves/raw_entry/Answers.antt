use Rattle.fx_dir.proofs.Steps.{name-short}
use Rattle.op_steps.proofs.moves.raw_entry.Goals as goal

pub new-requires : goal.new-requires
new-requires c = rw c.items.ensures (name-short c.args.e.now.name c.requires.named)
