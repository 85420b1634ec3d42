-- The slots of the numbers so far that are not kept are free.
use Rattle.vol_repair.specs.Steps.{IsStep}
use Rattle.vol_repair.specs.Touched.{IsTouched}
use Rattle.vol_repair.proofs.SlotSteps.{AreFreeBelow}
use Rattle.vol_repair.proofs.freeing.free_slots.Given as goal

abbrev pub invariant-loop-n : goal.invariant-loop-n
invariant-loop-n g l =
    let I = g.I.ImageDev in
    record {
      step : IsStep (IsTouched l.home l.fn.m.blocks) l.fn.m.blocks l.m.blocks (I.told l.fn.m.image) (I.told l.m.image) (I.faults l.fn.m.image) (I.faults l.m.image) ⊥;
      below : AreFreeBelow l.home l.fn.m.blocks l.m.blocks l.n;
    }
