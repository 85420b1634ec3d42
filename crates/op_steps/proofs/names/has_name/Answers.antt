use Rattle.std.proofs.Common.{◌∙◌, ap}
use Rattle.std.specs.Prelude.{is_some}
use Rattle.plain_rules.specs.Lookups.{versions}
use Rattle.op_law.specs.Rows.{entries_seen}
use Rattle.op_law.specs.Behind.{blocks_alone}
use Rattle.op_steps.proofs.Rooms.{named_seen}
use Rattle.op_steps.proofs.names.has_name.Goals as goal

pub returns : goal.returns
returns c = c.is_some.ensures ∙ ap is_some c.version_seen.ensures ∙ named_seen (versions c.args.name.now (entries_seen (blocks_alone c.args.seen.now)))
