use Rattle.std.proofs.Common.{◌≡◌, take}
use Rattle.fx_dir.specs.Entries.{without}
use Rattle.fx_dir.proofs.packing.without.Given as goal

abbrev pub invariant-loop-x : goal.invariant-loop-x
invariant-loop-x l = l.list.items ≡ without l.e (take l.x-index l.es)
