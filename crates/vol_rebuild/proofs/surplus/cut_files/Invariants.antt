use Rattle.std.proofs.Common.{◌≤◌, ◌<◌, ℕ}
use Rattle.plain_cat.specs.declared.cat.Cat.{Cat}
use Rattle.vol_mends.specs.Told.{IsTold, KeepsSingles}
use Rattle.vol_rebuild.specs.Tails.{HasNoSurplus}
use Rattle.vol_rebuild.specs.Ways.{IsStep}
use Rattle.vol_rebuild.proofs.surplus.cut_files.Given as goal

abbrev pub invariant-loop-n : goal.invariant-loop-n
invariant-loop-n g l =
    let I = g.I.ImageDev in
    record {
      step : IsStep l.fn.m.blocks l.m.blocks (I.told l.fn.m.image) (I.told l.m.image) (I.faults l.fn.m.image) (I.faults l.m.image) ⊥;
      told : (c : Cat) → IsTold l.g l.fn.m.blocks c → IsTold l.g l.m.blocks c;
      singles : KeepsSingles l.g l.fn.m.blocks l.m.blocks;
      cut : (i : ℕ) → 1 ≤ i → i < l.n → i ≤ l.g.files → HasNoSurplus l.g l.m.blocks i;
    }
