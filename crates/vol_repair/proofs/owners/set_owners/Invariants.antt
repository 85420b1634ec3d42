-- The files below the next number have their owners.
use Rattle.std.proofs.Common.{◌≡◌, ◌-◌}
use Rattle.vol_repair.specs.Alike.{IsSpeltAs, TellsAlike}
use Rattle.vol_repair.specs.Steps.{IsStep}
use Rattle.vol_repair.proofs.OwnerSteps.{owned_to}
use Rattle.vol_repair.proofs.owners.set_owners.Given as goal

abbrev pub invariant-loop-n : goal.invariant-loop-n
invariant-loop-n g l =
    let I = g.I.ImageDev in
    record {
      step : IsStep (TellsAlike l.g l.fn.cat) l.fn.m.blocks l.m.blocks (I.told l.fn.m.image) (I.told l.m.image) (I.faults l.fn.m.image) (I.faults l.m.image) ⊥;
      told : IsSpeltAs l.g l.m.blocks l.cat;
      so_far : l.cat ≡ owned_to l.fn.cat (l.n - 1);
    }
