use Rattle.std.proofs.Common.{◌≡◌, ◌==◌, not, filter, take}
use Rattle.dlm_core.specs.declared.holds.Hold.{Hold}
use Rattle.dlm_core.proofs.deaths.left_holds.Given as goal

abbrev pub invariant-loop-h : goal.invariant-loop-h
invariant-loop-h l = l.all.items ≡ filter (λ (h : Hold). not (h.owner.node == l.dead)) (take l.h-index l.holds)
