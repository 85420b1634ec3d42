use Rattle.std.proofs.Common.{◌≡◌, ◌≤◌, None, drop}
use Rattle.std.specs.Option.{option_copied}
use Rattle.base_words.specs.Packing.{unfilled}
use Rattle.plain_cat.specs.declared.entries.DirEnt.{DirEnt}
use Rattle.plain_rules.proofs.packing.after_block.Given as goal

abbrev pub invariant-loop-i : goal.invariant-loop-i
invariant-loop-i l = record {
  room : l.used ≤ 510;
  left : unfilled (λ (e : DirEnt). e.name) (option_copied l.last) l.used (drop l.i l.entries) ≡ unfilled (λ (e : DirEnt). e.name) None 0 l.entries;
}
