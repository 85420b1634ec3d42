use Rattle.std.proofs.Common.{◌≡◌, filter, take}
use Rattle.plain_cat.specs.declared.entries.DirEnt.{DirEnt}
use Rattle.plain_rules.specs.Mending.{stays}
use Rattle.plain_vol.proofs.mending.kept_entries.Given as goal

abbrev pub invariant-loop-e : goal.invariant-loop-e
invariant-loop-e l = l.kept ≡ filter (λ (e : DirEnt). stays l.cat (record { dir = l.dir; entry = e })) (take l.e-index l.e-items)
