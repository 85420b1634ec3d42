use Rattle.vol_spell.proofs.EntryMoves.{moves_leave}
use Rattle.vol_spell.proofs.write_laws.moves_leave.Goals as goal

pub returns : goal.returns
returns c = moves_leave
