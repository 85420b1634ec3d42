use Rattle.std.proofs.Common.{◌≡◌, drop, map}
use Rattle.vol_sound.specs.Begun.{with_each}
use Rattle.vol_repair.specs.Alike.{IsSpeltAs, IsSameBut, TellsAlike}
use Rattle.vol_repair.specs.Removing.{place_from, without_told}
use Rattle.vol_repair.specs.Steps.{IsStep}
use Rattle.vol_repair.proofs.removing.remove_entries.Given as goal

abbrev pub invariant-loop-l : goal.invariant-loop-l
invariant-loop-l g l =
    let I = g.I.ImageDev in
    record {
      step : IsStep (TellsAlike l.g l.fn.cat) l.fn.m.blocks l.m.blocks (I.told l.fn.m.image) (I.told l.m.image) (I.faults l.fn.m.image) (I.faults l.m.image) ⊥;
      told : IsSpeltAs l.g l.m.blocks l.cat;
      alike : IsSameBut l.fn.cat l.cat;
      left : with_each (without_told (map place_from (drop l.l-index l.leavers))) l.cat ≡ with_each (without_told (map place_from l.leavers)) l.fn.cat;
    }
