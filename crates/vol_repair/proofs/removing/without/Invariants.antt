use Rattle.std.proofs.Common.{◌≡◌, take}
use Rattle.plain_rules.specs.Directories.{without}
use Rattle.vol_repair.proofs.removing.without.Given as goal

abbrev pub invariant-loop-e : goal.invariant-loop-e
invariant-loop-e l = l.left ≡ without l.name l.ver (take l.e-index l.e-items)
