use Rattle.std.proofs.Common.{◌≤◌, ◌<◌, ℕ}
use Rattle.vol_mends.specs.Told.{IsTold, IsSingle}
use Rattle.vol_rebuild.specs.Ways.{IsStep}
use Rattle.vol_rebuild.proofs.doubles.pack_doubles.Given as goal

abbrev pub invariant-loop-n : goal.invariant-loop-n
invariant-loop-n g l =
    let I = g.I.ImageDev in
    record {
      step : IsStep l.fn.m.blocks l.m.blocks (I.told l.fn.m.image) (I.told l.m.image) (I.faults l.fn.m.image) (I.faults l.m.image) ⊥;
      told : IsTold l.g l.m.blocks l.cat;
      singles : (i : ℕ) → 1 ≤ i → i < l.n → IsSingle l.g l.m.blocks i;
    }
