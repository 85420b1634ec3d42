use Rattle.std.proofs.Common.{◌≡◌, ◌++◌, map, take}
use Rattle.dlm_core.specs.Deaths.{claim_from}
use Rattle.dlm_core.proofs.deaths.claim_all.Given as goal

abbrev pub invariant-loop-n : goal.invariant-loop-n
invariant-loop-n l = l.mail.items ≡ l.fn.mail.items ++ map (claim_from l.dead l.next) (take l.n-index l.nodes)
