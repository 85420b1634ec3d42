use Rattle.std.proofs.Common.{◌≡◌, ◌-◌, ◌++◌, length, take, drop}
use Rattle.plain_rules.specs.Directories.{without}
use Rattle.plain_vol.proofs.entries.remove_all.Given as goal

abbrev pub invariant-loop-i : goal.invariant-loop-i
invariant-loop-i l =
    l.entries ≡ take (length l.initial.entries - l.i) l.initial.entries ++ without l.name l.ver (drop (length l.initial.entries - l.i) l.initial.entries)
