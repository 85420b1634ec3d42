use Rattle.std.proofs.Common.{◌≡◌, ◌&&◌, filter, drop, is_some, None}
use Rattle.lock_db.specs.Names.{is_same}
use Rattle.dlm_core.specs.declared.holds.Hold.{Hold}
use Rattle.dlm_core.specs.States.{in_turn}
use Rattle.dlm_core.specs.Recoveries.{later}
use Rattle.dlm_core.proofs.recoveries.latest.Given as goal

abbrev pub invariant-loop-h : goal.invariant-loop-h
invariant-loop-h l = in_turn later (filter (λ (h : Hold). is_same h.name l.name && is_some h.belief) (drop l.h-index l.holds)) l.best ≡ in_turn later (filter (λ (h : Hold). is_same h.name l.name && is_some h.belief) l.holds) None
