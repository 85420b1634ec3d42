use Rattle.vol_spell.proofs.EntryGoes.{entry_leaves}
use Rattle.vol_spell.proofs.write_laws.entry_leaves.Goals as goal

pub returns : goal.returns
returns c = entry_leaves
