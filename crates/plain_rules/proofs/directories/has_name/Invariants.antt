use Rattle.std.proofs.Common.{◌≡◌, drop}
use Rattle.plain_rules.specs.Lookups.{versions}
use Rattle.plain_rules.specs.Directories.{is_nil}
use Rattle.plain_rules.proofs.directories.has_name.Given as goal

abbrev pub invariant-loop-e : goal.invariant-loop-e
invariant-loop-e l = is_nil (versions l.name (drop l.e-index l.entries)) ≡ is_nil (versions l.name l.entries)
