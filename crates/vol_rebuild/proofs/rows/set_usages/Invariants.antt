use Rattle.std.proofs.Common.{◌<◌, ℕ, List}
use Rattle.plain_cat.specs.declared.cat.Cat.{Cat}
use Rattle.plain_cat.specs.declared.cat.QuotaRow.{QuotaRow}
use Rattle.vol_mends.specs.Told.{IsTold, KeepsSingles}
use Rattle.vol_mends.specs.Clean.{KeepsClean}
use Rattle.vol_rebuild.specs.Steps.{IsOfFiles}
use Rattle.vol_rebuild.specs.Sums.{AreRight}
use Rattle.vol_rebuild.specs.Ways.{IsStep}
use Rattle.vol_rebuild.proofs.rows.set_usages.Given as goal

abbrev pub invariant-loop-k : goal.invariant-loop-k
invariant-loop-k g l =
    let I = g.I.ImageDev in
    record {
      step : IsStep l.fn.m.blocks l.m.blocks (I.told l.fn.m.image) (I.told l.m.image) (I.faults l.fn.m.image) (I.faults l.m.image) ⊥;
      told : (c : Cat) → IsOfFiles l.cat c → IsTold l.g l.fn.m.blocks c → (rows : List QuotaRow) × IsTold l.g l.m.blocks (record c { quota = rows });
      set : (c : Cat) → IsOfFiles l.cat c → (j : ℕ) → j < l.k → AreRight l.g l.m.blocks c j;
      singles : KeepsSingles l.g l.fn.m.blocks l.m.blocks;
      clean : KeepsClean l.g l.fn.m.blocks l.m.blocks;
    }
