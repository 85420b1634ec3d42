use Rattle.std.proofs.Common.{◌≡◌, drop}
use Rattle.plain_rules.specs.Lookups.{versions, first_with}
use Rattle.plain_rules.proofs.directories.with_version.Given as goal

abbrev pub invariant-loop-e : goal.invariant-loop-e
invariant-loop-e l = first_with l.ver (versions l.name (drop l.e-index l.entries)) ≡ first_with l.ver (versions l.name l.entries)
