use Rattle.vol_under.proofs.Files.{file_gives}
use Rattle.vol_under.proofs.laws.file_gives.Goals as goal

pub returns : goal.returns
returns c = file_gives
