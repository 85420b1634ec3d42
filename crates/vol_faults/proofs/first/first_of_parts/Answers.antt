use Rattle.std.proofs.Common.{Option, None, Some, refl, subst, arith}
use Rattle.vol_parts.specs.declared.finding.Finding.{Finding}
use Rattle.vol_parts.specs.Volumes.{volume}
use Rattle.vol_faults.specs.Whole.{IsFirstBelow}
use Rattle.vol_faults.proofs.WholeLemmas.{step, wider}
use Rattle.vol_faults.proofs.first.first_of_parts.Goals as goal

pub returns-in-Some : goal.returns-in-Some
returns-in-Some c =
    let v = volume c.args.home.now c.args.blocks.now in
    wider v 8 13 c.in-Some.found (step v 7 8 (Some c.in-Some.found) c.requires.none c.in-Some.ensures refl) (omega arith)

pub returns-in-Some-2 : goal.returns-in-Some-2
returns-in-Some-2 c =
    let v = volume c.args.home.now c.args.blocks.now in
    let eight = step v 7 8 None c.requires.none c.in_default.ensures refl in
    let nine = step v 8 9 c.in_ok-found.field-0 eight c.in_ok-found.ensures refl in
    wider v 9 13 c.in-Some-2.found (subst (λ (o : Option Finding). IsFirstBelow v 9 o) c.in-Some-2.is nine) (omega arith)

pub returns-in-Some-first_free_cluster : goal.returns-in-Some-first_free_cluster
returns-in-Some-first_free_cluster c =
    let v = volume c.args.home.now c.args.blocks.now in
    let eleven = subst (λ (o : Option Finding). IsFirstBelow v 11 o) c.in_default-3.is c.in_ok-found-2.ensures in
    let f = c.in-Some-first_free_cluster in
    wider v 12 13 f.found (step v 11 12 (Some f.found) eleven f.ensures refl) (omega arith)

pub returns : goal.returns
returns c =
    let v = volume c.args.home.now c.args.blocks.now in
    let eleven = subst (λ (o : Option Finding). IsFirstBelow v 11 o) c.in_default-3.is c.in_ok-found-2.ensures in
    let twelve = step v 11 12 None eleven c.in_default-first_free_cluster.ensures refl in
    step v 12 13 c.first_free_number.result twelve c.first_free_number.ensures refl
