use Rattle.vol_under.proofs.Stops.{drive_spells}
use Rattle.vol_under.proofs.laws.drive_spells.Goals as goal

pub returns : goal.returns
returns c = drive_spells
