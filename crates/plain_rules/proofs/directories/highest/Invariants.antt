use Rattle.std.proofs.Common.{◌≡◌, drop}
use Rattle.plain_rules.specs.Lookups.{versions, highest}
use Rattle.plain_rules.proofs.directories.highest.Given as goal

abbrev pub invariant-loop-e : goal.invariant-loop-e
invariant-loop-e l = highest (versions l.name (drop l.e-index l.entries)) ≡ highest (versions l.name l.entries)
