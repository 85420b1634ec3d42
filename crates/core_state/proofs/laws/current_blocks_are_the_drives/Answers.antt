use Rattle.core_state.proofs.CachedUses.{current_is_drives}
use Rattle.core_state.proofs.laws.current_blocks_are_the_drives.Goals as goal

pub returns : goal.returns
returns c = current_is_drives
