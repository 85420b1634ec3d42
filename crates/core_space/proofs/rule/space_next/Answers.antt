use Rattle.std.proofs.Common.{◌∙◌, sym, ap}
use Rattle.std.proofs.lemmas.Result.{IfOk-weaker}
use Rattle.core_space.specs.declared.event.SpaceEvent.{SpaceEvent}
use Rattle.core_space.specs.declared.run.Phase.{Phase}
use Rattle.core_space.specs.Rule.{SpaceState, event_in}
use Rattle.core_space.proofs.rule.space_next.Goals as goal

pub returns-in-Last-clause-event : goal.returns-in-Last-clause-event
returns-in-Last-clause-event c =
    let s : SpaceState = record { geometry = c.args.geometry.now; locks = c.args.locks; run = c.args.run.now; stock = c.args.stock.now } in
    IfOk-weaker c.last_event.result _ _ (λ (e : SpaceEvent) h. h ∙ ap (λ (p : Phase). event_in p s c.args.need) (sym c.in-Last.is)) (c.last_event.ensures.event c.args.stock.now)
