use Rattle.std.proofs.Common.{None, Some, refl, arith}
use Rattle.vol_parts.specs.Volumes.{volume}
use Rattle.vol_faults.proofs.WholeLemmas.{step, wider}
use Rattle.vol_faults.proofs.first.first_of_rows.Goals as goal

pub returns-in-Some : goal.returns-in-Some
returns-in-Some c =
    let v = volume c.args.home.now c.args.blocks.now in
    wider v 10 11 c.in-Some.found (step v 9 10 (Some c.in-Some.found) c.requires.none c.in-Some.ensures refl) (omega arith)

pub returns : goal.returns
returns c =
    let v = volume c.args.home.now c.args.blocks.now in
    let ten = step v 9 10 None c.requires.none c.in_default.ensures refl in
    step v 10 11 c.first_rowless_file.result ten c.first_rowless_file.ensures refl
