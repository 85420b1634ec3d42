use Rattle.std.proofs.Common.{◌%◌, ◌∙◌, sym}
use Rattle.vol_spell.specs.Rows.{block_with}
use Rattle.op_law.specs.Behind.{blocks_alone}
use Rattle.op_steps.proofs.Charges.{row_is}
use Rattle.op_steps.proofs.quotas.row_there.Goals as goal

pub returns : goal.returns
returns c = row_is (block_with (blocks_alone c.args.quota.now) c.args.j) (c.args.j % 16) c.in-Some.r (sym c.row_seen.ensures ∙ c.in-Some.is)
