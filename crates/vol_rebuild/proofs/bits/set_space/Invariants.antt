use Rattle.std.proofs.Common.{◌≡◌, ◌==◌, ◌/◌, ◌<◌, ℕ}
use Rattle.std.specs.Prelude.{slice_index}
use Rattle.plain_cat.specs.declared.cat.Cat.{Cat}
use Rattle.vol_parts.specs.Volumes.{volume, is_free_cluster}
use Rattle.vol_spell.specs.Reading.{total_of}
use Rattle.vol_mends.specs.Told.{IsTold, KeepsSingles}
use Rattle.vol_mends.specs.Clean.{KeepsClean}
use Rattle.vol_rebuild.specs.Space.{IsCounted}
use Rattle.vol_rebuild.specs.Ways.{IsStep}
use Rattle.vol_rebuild.proofs.bits.set_space.Given as goal

abbrev pub invariant-loop-k : goal.invariant-loop-k
invariant-loop-k g l =
    let I = g.I.ImageDev in
    record {
      step : IsStep l.fn.m.blocks l.m.blocks (I.told l.fn.m.image) (I.told l.m.image) (I.faults l.fn.m.image) (I.faults l.m.image) ⊥;
      counted : (c : Cat) → IsTold l.g l.fn.m.blocks c → IsCounted l.g l.home l.counts.items l.m.blocks c;
      set : (q : ℕ) → q < total_of l.g → q / 4096 < l.k → is_free_cluster (volume l.home l.m.blocks) q ≡ (slice_index l.counts.items q == 0);
      singles : KeepsSingles l.g l.fn.m.blocks l.m.blocks;
      clean : KeepsClean l.g l.fn.m.blocks l.m.blocks;
    }
