use Rattle.std.proofs.Common.{None, Some, refl, arith}
use Rattle.vol_faults.proofs.WholeLemmas.{cat-step, wider, cat-loops}
use Rattle.vol_faults.proofs.first.first_of_catalogue.Goals as goal

pub returns-in-Some : goal.returns-in-Some
returns-in-Some c = λ v e none.
    wider v 14 16 c.in-Some.found (cat-step v c.args.cat.now 13 14 (Some c.in-Some.found) e (omega arith) (omega arith) none c.in-Some.ensures refl) (omega arith)

pub returns-in-Some-first_marked_dir : goal.returns-in-Some-first_marked_dir
returns-in-Some-first_marked_dir c = λ v e none.
    let fourteen = cat-step v c.args.cat.now 13 14 None e (omega arith) (omega arith) none c.in_default.ensures refl in
    let f = c.in-Some-first_marked_dir in
    wider v 15 16 f.found (cat-step v c.args.cat.now 14 15 (Some f.found) e (omega arith) (omega arith) fourteen f.ensures refl) (omega arith)

pub returns : goal.returns
returns c = cat-loops c.args.cat.now c.first_loop.result c.in_default.ensures c.in_default-first_marked_dir.ensures c.first_loop.ensures
