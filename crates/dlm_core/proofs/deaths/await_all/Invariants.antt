use Rattle.std.proofs.Common.{◌≡◌, ◌++◌, map, take}
use Rattle.std.proofs.Common.{ℕ}
use Rattle.dlm_core.proofs.deaths.await_all.Given as goal

abbrev pub invariant-loop-n : goal.invariant-loop-n
invariant-loop-n l = l.awaited.items ≡ l.fn.awaited.items ++ map (λ (n : ℕ). record { dead = l.dead; node = n }) (take l.n-index l.living)
