use Rattle.std.proofs.Common.{subst}
use Rattle.vol_analyze.specs.Judging.{IsJudged}
use Rattle.vol_analyze.proofs.Accepting.{accepted_accounts}
use Rattle.log_check.proofs.Opening.{accepted_tidy}
use Rattle.log_check.proofs.volumes.cat_before.Goals as goal

pub returns-in-Ok-Ok-clause-accounted : goal.returns-in-Ok-Ok-clause-accounted
returns-in-Ok-Ok-clause-accounted c =
    let j = subst (IsJudged c.args.blocks.now) c.in-Ok-Ok.field-0-is c.in-Ok-Ok.ensures in
    accepted_accounts c.args.blocks.now c.in-Ok-Ok.cat c.requires.low c.requires.high c.blocks_are_whole.ensures j.0 j.1

pub returns-in-Ok-Ok-clause-settled : goal.returns-in-Ok-Ok-clause-settled
returns-in-Ok-Ok-clause-settled c =
    let j = subst (IsJudged c.args.blocks.now) c.in-Ok-Ok.field-0-is c.in-Ok-Ok.ensures in
    let t = accepted_tidy c.args.blocks.now c.in-Ok-Ok.cat j.0 j.1 in
    record { tidy = t.0; usage = t.1 }
