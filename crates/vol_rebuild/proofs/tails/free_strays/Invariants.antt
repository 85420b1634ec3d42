use Rattle.std.proofs.Common.{◌≤◌, ℕ}
use Rattle.plain_cat.specs.declared.cat.Cat.{Cat}
use Rattle.vol_spell.specs.Reading.{header_block}
use Rattle.vol_spell.specs.Spelling.{IsBlank}
use Rattle.vol_mends.specs.Told.{IsTold, KeepsSingles}
use Rattle.vol_mends.specs.Clean.{IsNoSlot}
use Rattle.vol_rebuild.specs.Tails.{AreFilesKept}
use Rattle.vol_rebuild.specs.Ways.{IsStep}
use Rattle.vol_rebuild.proofs.tails.free_strays.Given as goal

abbrev pub invariant-loop-i : goal.invariant-loop-i
invariant-loop-i g l =
    let I = g.I.ImageDev in
    record {
      step : IsStep l.fn.m.blocks l.m.blocks (I.told l.fn.m.image) (I.told l.m.image) (I.faults l.fn.m.image) (I.faults l.m.image) ⊥;
      told : (c : Cat) → IsTold l.g l.fn.m.blocks c → IsTold l.g l.m.blocks c;
      singles : KeepsSingles l.g l.fn.m.blocks l.m.blocks;
      files : AreFilesKept l.g l.fn.m.blocks l.m.blocks;
      clear : (j : ℕ) → 1 ≤ j → j ≤ l.i → IsNoSlot l.g l.fn.m.blocks j → IsBlank (header_block l.g l.m.blocks j);
    }
