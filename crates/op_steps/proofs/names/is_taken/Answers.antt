use Rattle.std.proofs.Common.{◌∙◌, ap}
use Rattle.std.specs.Prelude.{is_some}
use Rattle.plain_rules.specs.Lookups.{versions}
use Rattle.op_law.specs.Rows.{entries_seen}
use Rattle.op_law.specs.Behind.{blocks_alone}
use Rattle.op_steps.proofs.Rooms.{taken_seen}
use Rattle.op_steps.proofs.names.is_taken.Goals as goal

pub returns : goal.returns
returns c = c.is_some.ensures ∙ ap is_some c.version_seen.ensures ∙ taken_seen c.args.ver (versions c.args.name.now (entries_seen (blocks_alone c.args.seen.now))) c.requires.from
