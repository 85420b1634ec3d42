-- One file gets its owner.
use Rattle.std.proofs.Common.{◌∙◌, ◌-◌, List, refl, sym, ap, slice_set}
use Rattle.std.specs.Option.{option_copied}
use Rattle.std.proofs.lemmas.Result.{err_from_is_err_and}
use Rattle.plain_cat.specs.declared.cat.File.{File}
use Rattle.plain_cat.specs.declared.cat.Slot.{Slot}
use Rattle.plain_cat.specs.declared.cat.Slot.TheVariants.{Used}
use Rattle.vol_repair.specs.Aims.{Telling}
use Rattle.vol_repair.proofs.Stepping.{step_none, first_well, first_out, ends_well, lacking}
use Rattle.vol_repair.proofs.OwnerSteps.{alike_here, header_on, owner_set, spelt_by, slot_is, free_stays, owner_stays, owner_changes}
use Rattle.vol_repair.proofs.owners.set_owner_of.Goals as goal

pub returns-in_default-clause-step : goal.returns-in_default-clause-step
returns-in_default-clause-step g c = step_none _ _ _ _ (λ e. absurd (cc e)) (alike_here c.args.g.now c.args.m.now.blocks c.args.cat.now c.requires.told)

pub returns-in_default-clause-cat : goal.returns-in_default-clause-cat
returns-in_default-clause-cat g c =
    free_stays c.args.cat.now c.args.n c.requires.number.from (slot_is c.args.g.now c.args.m.now.blocks c.args.cat.now c.args.n c.requires.told c.requires.number) (sym c.file_at.ensures ∙ ap option_copied c.in_default.is)

pub returns-then-has_row-clause-step : goal.returns-then-has_row-clause-step
returns-then-has_row-clause-step g c = step_none _ _ _ _ (λ e. absurd (cc e)) (alike_here c.args.g.now c.args.m.now.blocks c.args.cat.now c.requires.told)

pub returns-then-has_row-clause-cat : goal.returns-then-has_row-clause-cat
returns-then-has_row-clause-cat g c =
    owner_stays c.args.cat.now c.args.n c.in-Some.file.now (slot_is c.args.g.now c.args.m.now.blocks c.args.cat.now c.args.n c.requires.told c.requires.number)
    (sym c.file_at.ensures ∙ ap option_copied c.in-Some.is) (sym c.has_row.ensures ∙ c.if-has_row.true)

pub returns-in_err-file-clause-step : goal.returns-in_err-file-clause-step
returns-in_err-file-clause-step g c =
    let p = err_from_is_err_and c.from_residual.result c.from_residual.ensures.1 in
    lacking _ _ _ _ _ p.1 p.2 (alike_here c.args.g.now c.args.m.now.blocks c.args.cat.now c.requires.told)

pub write_owner-requires-clause-inside : goal.write_owner-requires-clause-inside
write_owner-requires-clause-inside g c = header_on c.args.g.now c.args.m.now.blocks c.args.cat.now c.args.n c.requires.told c.requires.number

pub returns-in_err-write_owner-clause-step : goal.returns-in_err-write_owner-clause-step
returns-in_err-write_owner-clause-step g c =
    let p = err_from_is_err_and c.from_residual-in_err-write_owner.result c.from_residual-in_err-write_owner.ensures.1 in
    let set = owner_set c.args.g.now c.args.m.now.blocks c.args.cat.now c.args.n c.in-Some.file.now c.requires.told c.requires.number (sym c.file_at.ensures ∙ ap option_copied c.in-Some.is) in
    first_out _ _ _ _ _ _ _ _ _ _ refl p.1 p.2
    (c.in_err-write_owner.ensures.step (Telling c.args.g.now c.args.cat.now) (alike_here c.args.g.now c.args.m.now.blocks c.args.cat.now c.requires.told) set.alike)

pub returns-clause-step : goal.returns-clause-step
returns-clause-step g c =
    let set = owner_set c.args.g.now c.args.m.now.blocks c.args.cat.now c.args.n c.in-Some.file.now c.requires.told c.requires.number (sym c.file_at.ensures ∙ ap option_copied c.in-Some.is) in
    ends_well _ _ _ _ _ _ _ _ refl (first_well _ _ _ _ _ _ _ _ refl
    (c.in_ok-write_owner.ensures.step (Telling c.args.g.now c.args.cat.now) (alike_here c.args.g.now c.args.m.now.blocks c.args.cat.now c.requires.told) set.alike))

pub returns-clause-told : goal.returns-clause-told
returns-clause-told g c =
    let set = owner_set c.args.g.now c.args.m.now.blocks c.args.cat.now c.args.n c.in-Some.file.now c.requires.told c.requires.number (sym c.file_at.ensures ∙ ap option_copied c.in-Some.is) in
    let files = c.set.ensures ∙ ap (λ (x : File). slice_set c.args.cat.now.files (c.args.n - 1) (Used x)) c.in_ok-file.ensures in
    spelt_by c.args.g.now _ c.write_owner.new.m.blocks c.args.cat.now c.set.new.self _ set.spelt c.in_ok-write_owner.ensures.ok files

pub returns-clause-cat : goal.returns-clause-cat
returns-clause-cat g c =
    let files = c.set.ensures ∙ ap (λ (x : File). slice_set c.args.cat.now.files (c.args.n - 1) (Used x)) c.in_ok-file.ensures in
    let there = slot_is c.args.g.now c.args.m.now.blocks c.args.cat.now c.args.n c.requires.told c.requires.number in
    ap (λ (xs : List Slot). record c.args.cat.now { files = xs }) files
    ∙ owner_changes c.args.cat.now c.args.n c.in-Some.file.now there (sym c.file_at.ensures ∙ ap option_copied c.in-Some.is) (sym c.has_row.ensures ∙ c.if-has_row.false)
