use Rattle.vol_spell.proofs.EntryAdds.{entry_enters}
use Rattle.vol_spell.proofs.write_laws.entry_enters.Goals as goal

pub returns : goal.returns
returns c = entry_enters
