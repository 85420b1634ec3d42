use Rattle.std.proofs.Common.{◌≡◌, ◌-◌, ◌∙◌, false, [], Some, None, refl, sym, ap}
use Rattle.std.specs.Prelude.{slice_set}
use Rattle.std.proofs.lemmas.Option.{slice_get_within}
use Rattle.std.proofs.lemmas.Result.{err_from_is_err_and}
use Rattle.plain_cat.specs.declared.cat.File.{File}
use Rattle.plain_cat.specs.declared.cat.Slot.{Slot}
use Rattle.plain_cat.specs.declared.cat.Slot.TheVariants.{Used}
use Rattle.plain_rules.specs.Directories.{without}
use Rattle.plain_rules.specs.Lookups.{file_at}
use Rattle.plain_rules.proofs.Standing.{stands_at}
use Rattle.vol_repair.specs.Aims.Aim.{Telling}
use Rattle.vol_repair.specs.Removing.{place_from, lists}
use Rattle.vol_repair.proofs.Stepping.{step_none, first_well, first_out, ends_well, lacking}
use Rattle.vol_repair.proofs.Departing.{spell_as, alike_so, tells_so}
use Rattle.vol_repair.proofs.Leavers.{plain_file}
use Rattle.vol_repair.proofs.Relisting.{told_listed, told_nowhere, without_same}
use Rattle.vol_repair.proofs.removing.remove.Goals as goal
use Rattle.vol_repair.proofs.removing.remove.Goals.{then-not-dir-via-then-not-dir, then-not-dir-via-else-not-dir+then-not-lists}

pub returns-in_default-clause-step : goal.returns-in_default-clause-step
returns-in_default-clause-step g c a same = step_none _ _ _ _ (λ e. absurd (cc e)) (tells_so c.args.g.now c.args.m.now.blocks a c.args.cat.now c.requires.told same)

pub returns-in_default-clause-cat : goal.returns-in_default-clause-cat
returns-in_default-clause-cat g c = told_nowhere c.args.cat.now (place_from c.args.l.now) (λ d at. absurd (let none : None ≡ file_at c.args.cat.now c.args.l.now.dir = c.in_default.ensures in let both : None ≡ Some d = none ∙ at in cc both))

pub returns-then-not-dir-clause-step : goal.returns-then-not-dir-clause-step
returns-then-not-dir-clause-step g c a same = step_none _ _ _ _ (λ e. absurd (cc e)) (tells_so c.args.g.now c.args.m.now.blocks a c.args.cat.now c.requires.told same)

pub returns-then-not-dir-clause-cat : goal.returns-then-not-dir-clause-cat
returns-then-not-dir-clause-cat g c = told_nowhere c.args.cat.now (place_from c.args.l.now) (λ d at.
    let here : Some c.in-Some.dir.now ≡ Some d = c.in-Some.ensures ∙ at in
    let same : c.in-Some.dir.now ≡ d = cc here in
    elim c.then-not-dir.branch [
      | then-not-dir-via-then-not-dir w ↦ (let other : d.dir ≡ false = sym (ap (λ (x : File). x.dir) same) ∙ w.if-not-dir.true in
          let none : d.entries ≡ [] = plain_file c.args.g.now c.args.m.now.blocks c.requires.told.own c.args.cat.now c.requires.told.spelt c.args.l.now.dir d at other in
          ap (without c.args.l.now.entry.name c.args.l.now.entry.ver) none ∙ sym none)
      | then-not-dir-via-else-not-dir+then-not-lists w ↦ without_same (place_from c.args.l.now) d.entries (ap (λ (x : File). lists (place_from c.args.l.now) x.entries) (sym same) ∙ (sym w.lists.ensures ∙ w.if-not-lists.true))
    ])

pub returns-in_err-slot-clause-step : goal.returns-in_err-slot-clause-step
returns-in_err-slot-clause-step g c a same =
    let p = err_from_is_err_and c.from_residual.result c.from_residual.ensures.1 in
    lacking _ _ _ _ _ p.1 p.2 (tells_so c.args.g.now c.args.m.now.blocks a c.args.cat.now c.requires.told same)

pub returns-in_err-x-clause-step : goal.returns-in_err-x-clause-step
returns-in_err-x-clause-step g c a same =
    let p = err_from_is_err_and c.from_residual-in_err-x.result c.from_residual-in_err-x.ensures.1 in
    lacking _ _ _ _ _ p.1 p.2 (tells_so c.args.g.now c.args.m.now.blocks a c.args.cat.now c.requires.told same)

pub make_moves-requires-clause-inside : goal.make_moves-requires-clause-inside
make_moves-requires-clause-inside g c = (spell_as _ _ _ _ _ _ _ _ _ c.all.ensures c.as_slice.ensures.value c.as_slice-2.ensures.value c.in_ok-x.ensures).inside

pub returns-in_err-make_moves-clause-step : goal.returns-in_err-make_moves-clause-step
returns-in_err-make_moves-clause-step g c a same =
    let p = err_from_is_err_and c.from_residual-in_err-make_moves.result c.from_residual-in_err-make_moves.ensures.1 in
    let h = spell_as _ _ _ _ _ _ _ _ _ c.all.ensures c.as_slice.ensures.value c.as_slice-2.ensures.value c.in_ok-x.ensures in
    first_out _ _ _ _ _ _ _ _ _ _ refl p.1 p.2 (c.in_err-make_moves.ensures.step (Telling c.args.g.now a) (alike_so _ _ a _ _ _ _ h same))

pub set-requires : goal.set-requires
set-requires g c = slice_get_within c.args.cat.now.files (c.args.l.now.dir - 1) (Used c.in-Some.dir.now) (stands_at c.args.cat.now c.args.l.now.dir c.in-Some.dir.now (sym c.in-Some.ensures))

pub returns-clause-step : goal.returns-clause-step
returns-clause-step g c a same =
    let h = spell_as _ _ _ _ _ _ _ _ _ c.all.ensures c.as_slice.ensures.value c.as_slice-2.ensures.value c.in_ok-x.ensures in
    ends_well _ _ _ _ _ _ _ _ refl (first_well _ _ _ _ _ _ _ _ refl (c.in_ok-make_moves.ensures.step (Telling c.args.g.now a) (alike_so _ _ a _ _ _ _ h same)))

pub returns-clause-cat : goal.returns-clause-cat
returns-clause-cat g c =
    (λ i. record c.args.cat.now { files = (c.set.ensures ∙ ap (λ (s : Slot). slice_set c.args.cat.now.files (c.args.l.now.dir - 1) s) c.in_ok-slot.ensures) i })
    ∙ told_listed c.args.cat.now (place_from c.args.l.now) c.in-Some.dir.now (sym c.in-Some.ensures)
