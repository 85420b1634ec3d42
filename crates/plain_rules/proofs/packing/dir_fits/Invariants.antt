use Rattle.std.proofs.Common.{◌≡◌, ◌-◌}
use Rattle.base_words.specs.Packing.{over}
use Rattle.plain_cat.specs.declared.entries.DirEnt.{DirEnt}
use Rattle.plain_rules.proofs.packing.dir_fits.Given as goal

abbrev pub invariant-loop-i : goal.invariant-loop-i
invariant-loop-i l = over (λ (e : DirEnt). e.name) (l.k - l._i) l.left ≡ over (λ (e : DirEnt). e.name) l.k l.ents
