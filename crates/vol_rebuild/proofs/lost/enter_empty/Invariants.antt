use Rattle.std.proofs.Common.{◌≡◌, ◌≤◌, ◌+◌, [], false, drop, length}
use Rattle.plain_rules.specs.Mending.{places, lost, enter_some}
use Rattle.plain_mends.specs.Waiting.{Settled, LostIsWritten}
use Rattle.vol_mends.specs.Told.{IsTold, KeepsSingles}
use Rattle.vol_rebuild.specs.Steps.{used_count, AreSkipped}
use Rattle.vol_rebuild.specs.Ways.{IsStep}
use Rattle.vol_rebuild.proofs.lost.enter_empty.Given as goal

abbrev pub invariant-loop-n : goal.invariant-loop-n
invariant-loop-n g l =
    let I = g.I.ImageDev in
    record {
      step : IsStep l.fn.m.blocks l.m.blocks (I.told l.fn.m.image) (I.told l.m.image) (I.faults l.fn.m.image) (I.faults l.m.image) ⊥;
      told : IsTold l.g l.m.blocks l.cat;
      settled : Settled l.cat;
      written : LostIsWritten l.cat;
      none : lost l.cat false ≡ [];
      left : AreSkipped l.cat (drop l.n-index l.numbers);
      entered : enter_some (drop l.n-index l.numbers) l.cat ≡ enter_some l.numbers l.fn.cat;
      counted : length (places l.cat) ≡ length (places l.fn.cat) + l.count;
      few : l.count ≤ l.n-index;
      files : used_count l.cat ≡ used_count l.fn.cat;
      singles : KeepsSingles l.g l.fn.m.blocks l.m.blocks;
    }
