use Rattle.std.proofs.Common.{◌≡◌, ◌==◌, drop}
use Rattle.std.specs.List.{list_any}
use Rattle.dlm_core.specs.declared.homes.Awaited.{Awaited}
use Rattle.dlm_core.proofs.recoveries.is_open.Given as goal

abbrev pub invariant-loop-w : goal.invariant-loop-w
invariant-loop-w l = list_any (λ (w : Awaited). w.dead == l.dead) (drop l.w-index l.awaited) ≡ list_any (λ (w : Awaited). w.dead == l.dead) l.awaited
