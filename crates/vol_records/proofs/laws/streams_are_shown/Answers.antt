use Rattle.vol_records.proofs.Shown.{streams-shown}
use Rattle.vol_records.proofs.laws.streams_are_shown.Goals as goal

pub returns : goal.returns
returns c = streams-shown
