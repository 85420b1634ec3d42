use Rattle.std.proofs.Common.{◌≡◌, take}
use Rattle.vol_spell.specs.Spread.{blocks_at}
use Rattle.vol_repair.proofs.bodies.blocks_at.Given as goal

abbrev pub invariant-loop-l : goal.invariant-loop-l
invariant-loop-l l = l.all.items ≡ blocks_at l.blocks (take l.l-index l.places)
