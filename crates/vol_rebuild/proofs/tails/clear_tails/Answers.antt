use Rattle.std.proofs.Common.{refl}
use Rattle.std.proofs.lemmas.Result.{on_ok_weaker}
use Rattle.vol_rebuild.proofs.Stepping.{first_well, ends_so}
use Rattle.vol_rebuild.proofs.Surpluses.{tails_after}
use Rattle.vol_rebuild.proofs.tails.clear_tails.Goals as goal

pub free_strays-requires-clause-told : goal.free_strays-requires-clause-told
free_strays-requires-clause-told g c = (c.requires.told.0, (c.in_ok-cut_files.ensures.ok c.requires.told.0 c.requires.told.1).told)

pub free_strays-requires-clause-cut : goal.free_strays-requires-clause-cut
free_strays-requires-clause-cut g c = (c.in_ok-cut_files.ensures.ok c.requires.told.0 c.requires.told.1).cut

pub returns-clause-step : goal.returns-clause-step
returns-clause-step g c = ends_so _ _ _ _ _ _ _ _ _ _ (first_well _ _ _ _ _ _ _ _ refl c.in_ok-cut_files.ensures.step) c.free_strays.ensures.step

pub returns-clause-ok : goal.returns-clause-ok
returns-clause-ok g c x t =
    let cut = c.in_ok-cut_files.ensures.ok x t in
    on_ok_weaker c.free_strays.result (λ s. tails_after c.args.g.now c.args.m.now.blocks c.cut_files.new.m.blocks c.free_strays.new.m.blocks x cut s) (c.free_strays.ensures.ok x cut.told)
