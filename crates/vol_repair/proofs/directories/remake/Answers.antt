-- What becomes of one number.
use Rattle.std.proofs.Common.{◌≡◌, ◌∙◌, List, None, Result, Ok, Err, option_map, OnOk, sym, ap, subst}
use Rattle.base_words.specs.Fields.{Block, AreWholeBlocks}
use Rattle.base_words.specs.Lists.{written}
use Rattle.vol_parts.specs.Volumes.{volume}
use Rattle.vol_parts.specs.Conditions.{HasRunsInside}
use Rattle.vol_repair.specs.Aims.Aim.{Touching}
use Rattle.vol_repair.specs.Remaking.{laid, IsRemade}
use Rattle.vol_repair.proofs.Emptying.{runs_inside, task_by, task_found, begins_by, stays_remade, fits, touched_through, written_remade}
use Rattle.vol_repair.proofs.directories.remake.Goals as goal

pub wanted-requires-clause-runs : goal.wanted-requires-clause-runs
wanted-requires-clause-runs g c =
    let first = c.requires.next.0 in
    let next = c.requires.next.1 in
    subst (λ (bs : List Block). HasRunsInside (volume c.args.home.now bs) c.args.n) (sym c.all.ensures) (runs_inside c.args.home.now first c.args.m.now.blocks c.requires.limits next.ground c.args.n next.number)

pub returns-in_default-clause-ok : goal.returns-in_default-clause-ok
returns-in_default-clause-ok g c first next =
    let home = c.args.home.now in
    let now = c.args.m.now.blocks in
    stays_remade home first now c.args.sound c.args.n next
    (task_by home first c.all.result.now now c.args.sound c.args.n (option_map (λ v. v.items) c.in_ok-blocks.field-0) None c.requires.limits next c.all.ensures (ap (λ o. option_map (λ v. v.items) o) c.in_default.is) c.in_ok-blocks.ensures)

pub write_blocks-requires-clause-inside : goal.write_blocks-requires-clause-inside
write_blocks-requires-clause-inside g c =
    let home = c.args.home.now in
    let now = c.args.m.now.blocks in
    let first = c.requires.next.0 in
    let next = c.requires.next.1 in
    let bs = c.as_slice-2.result.now in
    let t = task_found home first c.all.result.now now c.args.sound c.args.n (option_map (λ v. v.items) c.in_ok-blocks.field-0) c.in-Some.blocks.items bs c.requires.limits next c.all.ensures
    (ap (λ o. option_map (λ v. v.items) o) c.in-Some.is) c.as_slice-2.ensures.value c.in_ok-blocks.ensures in
    fits c.touching_is_easy.ensures home first now c.requires.limits c.args.sound c.args.n c.first_lbn-lbn.result bs next t (begins_by home c.all-2.result.now now c.args.n c.first_lbn-lbn.result c.all-2.ensures c.first_lbn-lbn.ensures)

pub returns-clause-step : goal.returns-clause-step
returns-clause-step g c first next =
    let home = c.args.home.now in
    let now = c.args.m.now.blocks in
    let bs = c.as_slice-2.result.now in
    let t = task_found home first c.all.result.now now c.args.sound c.args.n (option_map (λ v. v.items) c.in_ok-blocks.field-0) c.in-Some.blocks.items bs c.requires.limits next c.all.ensures
    (ap (λ o. option_map (λ v. v.items) o) c.in-Some.is) c.as_slice-2.ensures.value c.in_ok-blocks.ensures in
    c.write_blocks.ensures.step (Touching home first)
    (touched_through c.touching_is_easy.ensures home first now c.requires.limits c.args.sound c.args.n c.first_lbn-lbn.result bs next t (begins_by home c.all-2.result.now now c.args.n c.first_lbn-lbn.result c.all-2.ensures c.first_lbn-lbn.ensures))

on_ok : {A E : Type 0} (r : Result A E) (P Q : Type 0) → (P → Q) → OnOk r P → OnOk r Q
on_ok (Ok x) P Q f h = f h
on_ok (Err e) P Q f h = h

pub returns-clause-ok : goal.returns-clause-ok
returns-clause-ok g c first next =
    let home = c.args.home.now in
    let now = c.args.m.now.blocks in
    let lbn = c.first_lbn-lbn.result in
    let bs = c.as_slice-2.result.now in
    let t = task_found home first c.all.result.now now c.args.sound c.args.n (option_map (λ v. v.items) c.in_ok-blocks.field-0) c.in-Some.blocks.items bs c.requires.limits next c.all.ensures
    (ap (λ o. option_map (λ v. v.items) o) c.in-Some.is) c.as_slice-2.ensures.value c.in_ok-blocks.ensures in
    let whole = subst (λ (xs : List Block). AreWholeBlocks xs) (c.as_slice.ensures.value ∙ sym c.as_slice-2.ensures.value) c.blocks_are_whole.ensures in
    let done = written_remade c.touching_is_easy.ensures home first now c.requires.limits c.args.sound c.args.n lbn bs next t (begins_by home c.all-2.result.now now c.args.n lbn c.all-2.ensures c.first_lbn-lbn.ensures) whole in
    on_ok c.write_blocks.result (c.write_blocks.new.m.blocks ≡ written (laid lbn bs) now) (IsRemade home first c.args.n now c.write_blocks.new.m.blocks)
    (λ e. subst (λ (x : List Block). IsRemade home first c.args.n now x) (sym e) done) c.write_blocks.ensures.ok
