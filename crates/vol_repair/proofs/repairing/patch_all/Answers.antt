use Rattle.std.proofs.Common.{List, sym, subst}
use Rattle.base_words.specs.Fields.{Block}
use Rattle.vol_repair.specs.Patching.{IsPatched}
use Rattle.vol_repair.proofs.Keepings.{mendable_at}
use Rattle.vol_repair.proofs.repairing.patch_all.Goals as goal

pub prepare-requires-clause-mendable : goal.prepare-requires-clause-mendable
prepare-requires-clause-mendable g c =
    mendable_at c.home_of-home.result c.args.m.now.blocks c.all-2.result.now c.all.result.now c.in_ok-found.field-0 c.all-2.ensures c.all.ensures c.home_of-home.ensures.read c.drive_is_whole.ensures.size c.in_default.is c.in_ok-found.ensures

pub returns-clause-patched : goal.returns-clause-patched
returns-clause-patched g c =
    let home = c.home_of-home.result in
    let first = c.args.m.now.blocks in
    record {
      home = home;
      mendable = c.in_ok-prepare.ensures.ok.mendable;
      same = c.in_ok-told_patched.ensures home first (subst (λ (x : List Block). IsPatched home first x) (sym c.all-3.ensures) c.in_ok-prepare.ensures.ok);
    }
