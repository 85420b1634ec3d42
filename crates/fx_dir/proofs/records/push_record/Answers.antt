use Rattle.std.proofs.Common.{◌∙◌, sym}
use Rattle.fx_dir.specs.Records.{name_in}
use Rattle.fx_dir.proofs.Forming.{named}
use Rattle.fx_dir.proofs.Steps.{name-short}
use Rattle.fx_dir.proofs.records.push_record.Goals as goal

pub push_named-requires-clause-named : goal.push_named-requires-clause-named
push_named-requires-clause-named c = name-short (name_in c.args.bytes.now) (named c.args.bytes.now (sym c.is_named.ensures ∙ c.if-not-is_named.false))
