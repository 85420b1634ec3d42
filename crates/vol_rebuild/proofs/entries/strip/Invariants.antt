use Rattle.std.proofs.Common.{◌≡◌, ◌+◌, length, map, drop}
use Rattle.plain_rules.specs.Mending.{places, stripped}
use Rattle.vol_mends.specs.Told.{IsTold}
use Rattle.vol_rebuild.specs.Leaving.{leavers, place_from}
use Rattle.vol_rebuild.specs.Steps.{used_count}
use Rattle.vol_rebuild.specs.Ways.{IsStep}
use Rattle.vol_rebuild.proofs.entries.strip.Given as goal

abbrev pub invariant-loop-l : goal.invariant-loop-l
invariant-loop-l g l =
    let I = g.I.ImageDev in
    record {
      step : IsStep l.fn.m.blocks l.m.blocks (I.told l.fn.m.image) (I.told l.m.image) (I.faults l.fn.m.image) (I.faults l.m.image) ⊥;
      told : IsTold l.g l.m.blocks l.cat;
      left : map place_from (drop l.l-index l.l-items) ≡ leavers l.cat;
      first : stripped l.cat ≡ stripped l.fn.cat;
      counted : length (places l.cat) + l.l-index ≡ length (places l.fn.cat);
      files : used_count l.cat ≡ used_count l.fn.cat;
    }
