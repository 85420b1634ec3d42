use Rattle.vol_parts.proofs.Groups.{whole_entries}
use Rattle.vol_parts.proofs.Moving.{whole_insertion, whole_removal}
use Rattle.vol_parts.proofs.whole.laws.directories_are_whole.Goals as goal

pub returns : goal.returns
returns c = record { entries = whole_entries; insertion = whole_insertion; removal = whole_removal }
