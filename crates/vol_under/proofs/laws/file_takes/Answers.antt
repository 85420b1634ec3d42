use Rattle.vol_under.proofs.Files.{file_takes}
use Rattle.vol_under.proofs.laws.file_takes.Goals as goal

pub returns : goal.returns
returns c = file_takes
