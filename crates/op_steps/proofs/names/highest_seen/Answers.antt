use Rattle.std.proofs.Common.{◌∙◌, sym}
use Rattle.plain_rules.specs.Lookups.{versions}
use Rattle.op_law.specs.Rows.{entries_seen}
use Rattle.op_law.specs.Behind.{blocks_alone}
use Rattle.op_law.proofs.Wanted.{highest-seen, highest-none}
use Rattle.op_steps.proofs.names.highest_seen.Goals as goal

pub returns-in-Some : goal.returns-in-Some
returns-in-Some c = sym (highest-seen (versions c.args.name.now (entries_seen (blocks_alone c.args.seen.now))) c.in-Some.v (sym c.version_seen.ensures ∙ c.in-Some.is))

pub returns-in-None : goal.returns-in-None
returns-in-None c = sym (highest-none (versions c.args.name.now (entries_seen (blocks_alone c.args.seen.now))) (sym c.version_seen.ensures ∙ c.in-None.is))
