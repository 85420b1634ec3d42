use Rattle.core_space.proofs.Refused.{looks_at_bitmaps}
use Rattle.core_space.proofs.laws.looks_at_bitmaps.Goals as goal

pub returns : goal.returns
returns c = looks_at_bitmaps
