use Rattle.std.proofs.Common.{None, Some, refl, arith}
use Rattle.vol_parts.specs.Volumes.{volume}
use Rattle.vol_faults.proofs.WholeLemmas.{step, wider, none-first}
use Rattle.vol_faults.proofs.first.first_of_files.Goals as goal

pub returns-in-Some-clause-first : goal.returns-in-Some-clause-first
returns-in-Some-clause-first c =
    let v = volume c.args.home.now c.args.blocks.now in
    wider v 2 7 c.in-Some.found (step v 1 2 (Some c.in-Some.found) (none-first v) c.in-Some.ensures.first refl) (omega arith)

pub returns-in-Some-first_bad_system_file-clause-first : goal.returns-in-Some-first_bad_system_file-clause-first
returns-in-Some-first_bad_system_file-clause-first c =
    let v = volume c.args.home.now c.args.blocks.now in
    let two = step v 1 2 None (none-first v) c.in_default.ensures.first refl in
    let f = c.in-Some-first_bad_system_file in
    wider v 3 7 f.found (step v 2 3 (Some f.found) two f.ensures.first refl) (omega arith)

pub returns-in-Some-first_bad_control_block-clause-first : goal.returns-in-Some-first_bad_control_block-clause-first
returns-in-Some-first_bad_control_block-clause-first c =
    let v = volume c.args.home.now c.args.blocks.now in
    let two = step v 1 2 None (none-first v) c.in_default.ensures.first refl in
    let three = step v 2 3 None two c.in_default-first_bad_system_file.ensures.first refl in
    let f = c.in-Some-first_bad_control_block in
    wider v 4 7 f.found (step v 3 4 (Some f.found) three f.ensures refl) (omega arith)

pub returns-in-Some-first_bad_chain-clause-first : goal.returns-in-Some-first_bad_chain-clause-first
returns-in-Some-first_bad_chain-clause-first c =
    let v = volume c.args.home.now c.args.blocks.now in
    let two = step v 1 2 None (none-first v) c.in_default.ensures.first refl in
    let three = step v 2 3 None two c.in_default-first_bad_system_file.ensures.first refl in
    let four = step v 3 4 None three c.in_default-first_bad_control_block.ensures refl in
    let f = c.in-Some-first_bad_chain in
    wider v 5 7 f.found (step v 4 5 (Some f.found) four f.ensures refl) (omega arith)

pub returns-in-Some-first_run_off-clause-first : goal.returns-in-Some-first_run_off-clause-first
returns-in-Some-first_run_off-clause-first c =
    let v = volume c.args.home.now c.args.blocks.now in
    let two = step v 1 2 None (none-first v) c.in_default.ensures.first refl in
    let three = step v 2 3 None two c.in_default-first_bad_system_file.ensures.first refl in
    let four = step v 3 4 None three c.in_default-first_bad_control_block.ensures refl in
    let five = step v 4 5 None four c.in_default-first_bad_chain.ensures refl in
    let f = c.in-Some-first_run_off in
    wider v 6 7 f.found (step v 5 6 (Some f.found) five f.ensures.first refl) (omega arith)

pub returns-clause-first : goal.returns-clause-first
returns-clause-first c =
    let v = volume c.args.home.now c.args.blocks.now in
    let two = step v 1 2 None (none-first v) c.in_default.ensures.first refl in
    let three = step v 2 3 None two c.in_default-first_bad_system_file.ensures.first refl in
    let four = step v 3 4 None three c.in_default-first_bad_control_block.ensures refl in
    let five = step v 4 5 None four c.in_default-first_bad_chain.ensures refl in
    let six = step v 5 6 None five c.in_default-first_run_off.ensures.first refl in
    step v 6 7 c.first_large_file.result six c.first_large_file.ensures refl
