use Rattle.std.proofs.Common.{◌≡◌, ◌+◌, [], true, false, drop}
use Rattle.plain_rules.specs.Mending.{lost}
use Rattle.plain_mends.specs.Waiting.{Settled, AreFull}
use Rattle.vol_mends.specs.Told.{KeepsSingles}
use Rattle.vol_rebuild.specs.Leaving.{gone_numbers}
use Rattle.vol_rebuild.specs.Steps.{TellsFiles, used_count}
use Rattle.vol_rebuild.specs.Ways.{IsStep}
use Rattle.vol_rebuild.proofs.slots.free_slots.Given as goal

abbrev pub invariant-loop-n : goal.invariant-loop-n
invariant-loop-n g l =
    let I = g.I.ImageDev in
    record {
      step : IsStep l.fn.m.blocks l.m.blocks (I.told l.fn.m.image) (I.told l.m.image) (I.faults l.fn.m.image) (I.faults l.m.image) ⊥;
      told : TellsFiles l.g l.m.blocks l.cat;
      settled : Settled l.cat;
      none : lost l.cat false ≡ [];
      full : AreFull l.cat (lost l.cat true);
      left : drop l.n-index l.n-items ≡ gone_numbers l.cat;
      files : used_count l.cat + l.n-index ≡ used_count l.fn.cat;
      singles : KeepsSingles l.g l.fn.m.blocks l.m.blocks;
    }
