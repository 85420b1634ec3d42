use Rattle.std.proofs.Common.{All, ap, sym, subst}
use Rattle.plain_cat.specs.declared.script.Script.{Script}
use Rattle.plain_cat.specs.InForm.{InForm}
use Rattle.core_state.specs.Worlds.{Plain, IsOfWorld}
use Rattle.xqp_set.specs.Built.{IsBuilt}
use Rattle.xqp_set.proofs.Forms.{filled_built, close_built}
use Rattle.run_engine.proofs.Commands.{only_such}
use Rattle.clus_top.proofs.Reported.{plays_of_world}
use Rattle.rows_runs.proofs.caches.counts_of.Goals as goal

pub mount-requires-clause-taken : goal.mount-requires-clause-taken
mount-requires-clause-taken c = only_such IsBuilt filled_built close_built c.in-Ok.spelt c.in-Ok.ensures.form

pub run-requires : goal.run-requires
run-requires c =
    let w = c.in-Ok-mount.world.world in
    let same = ap (λ (v : Plain). v.script) c.in-Ok-mount.ensures.world.is in
    subst (λ (s : Script). All (IsOfWorld w) s.plays) same
    (plays_of_world w c.keeps_the_rules.ensures.good.counted (subst InForm (sym same) c.in-Ok.ensures.form))
