use Rattle.std.proofs.Common.{◌≡◌, refl, sym, ◌∙◌, find, None}
use Rattle.dlm_core.specs.States.{is_between}
use Rattle.dlm_core.proofs.Firsts.{past-none}
use Rattle.dlm_core.proofs.cluster.Cluster.pass.Goals as goal

pub returns-in-None-clause-after : goal.returns-in-None-clause-after
returns-in-None-clause-after c =
    let f : find (is_between c.args.from c.args.to) c.self.inside.mail.items ≡ None = sym c.take_first.ensures.which ∙ c.in-None.is in
    rw (← c.self.view_is, c.take_first.ensures.rest, past-none (is_between c.args.from c.args.to) c.self.inside.mail.items f, f) refl
