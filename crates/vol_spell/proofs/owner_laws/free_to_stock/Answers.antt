use Rattle.vol_spell.proofs.Handing.{free_to_stock}
use Rattle.vol_spell.proofs.owner_laws.free_to_stock.Goals as goal

pub returns : goal.returns
returns c = free_to_stock
