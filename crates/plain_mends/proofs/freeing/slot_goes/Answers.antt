use Rattle.plain_mends.proofs.SlotSteps.{slot_ends, slot_stays, slot_settled, slot_none, slot_full}
use Rattle.plain_mends.proofs.freeing.slot_goes.Goals as goal

pub returns : goal.returns
returns _ = record { ends = slot_ends; stay = slot_stays; settled = slot_settled; none = slot_none; full = slot_full }
