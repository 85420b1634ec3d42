use Rattle.std.proofs.Common.{◌∙◌, ℕ, List, sym, ap, subst}
use Rattle.std.specs.Prelude.{slice_set}
use Rattle.std.specs.Option.{option_copied}
use Rattle.std.proofs.lemmas.Result.{err_from_is_err_and}
use Rattle.base_words.specs.Fields.{Block}
use Rattle.fx_dir.specs.declared.Move.{Move}
use Rattle.plain_cat.specs.declared.cat.Slot.{Slot}
use Rattle.plain_rules.specs.Changes.{with_entries}
use Rattle.vol_rebuild.specs.Places.{written_at, DirLeads}
use Rattle.vol_rebuild.proofs.Stepping.{lacking}
use Rattle.vol_rebuild.proofs.Lacking.{lacks_lost, lacks_file, lacks_room, has_room, lost_slot}
use Rattle.vol_rebuild.proofs.lost.enter.Goals as goal

pub returns-in_default-clause-ok : goal.returns-in_default-clause-ok
returns-in_default-clause-ok g c =
    lacks_lost c.args.g.now c.args.m.now.blocks c.args.cat.now c.args.n c.requires.told (sym c.file_at.ensures ∙ ap option_copied c.in_default.is)

pub returns-in_default-file_at-clause-ok : goal.returns-in_default-file_at-clause-ok
returns-in_default-file_at-clause-ok g c =
    lacks_file c.args.g.now c.args.m.now.blocks c.args.cat.now c.args.n c.in-Some.dir.now c.requires.told (sym c.file_at.ensures ∙ ap option_copied c.in-Some.is)
    (sym c.file_at-2.ensures ∙ ap option_copied c.in_default-file_at.is)

pub returns-in_default-2-clause-ok : goal.returns-in_default-2-clause-ok
returns-in_default-2-clause-ok g c =
    lacks_room c.args.g.now c.args.m.now.blocks c.args.cat.now c.args.n c.in-Some.dir.now c.in-Some-file_at.file.now c.requires.told (sym c.file_at.ensures ∙ ap option_copied c.in-Some.is)
    (sym c.file_at-2.ensures ∙ ap option_copied c.in-Some-file_at.is) (sym c.in_ok-more.ensures ∙ c.in_default-2.is)

pub returns-in_err-slot-clause-step : goal.returns-in_err-slot-clause-step
returns-in_err-slot-clause-step g c =
    let p = err_from_is_err_and c.from_residual-in_err-slot.result c.from_residual-in_err-slot.ensures.1 in
    lacking _ _ _ _ p.0 p.1 p.2

pub set-requires : goal.set-requires
set-requires g c = lost_slot c.args.cat.now c.in-Some.dir.now (sym c.file_at.ensures ∙ ap option_copied c.in-Some.is)

pub returns-clause-ok : goal.returns-clause-ok
returns-clause-ok g c =
    let is = c.set.ensures ∙ ap (λ (s : Slot). slice_set c.args.cat.now.files 10 s) c.in_ok-slot.ensures in
    let made = c.in_ok-make_moves.ensures.ok ∙ (ap (λ (ls : List ℕ). written_at ls c.as_slice-2.result.now c.args.m.now.blocks) c.as_slice.ensures.value
    ∙ ap (λ (ms : List Move). written_at c.in_ok-x.x.places.items ms c.args.m.now.blocks) c.as_slice-2.ensures.value) in
    let leads = subst (λ (bs : List Block). DirLeads c.args.g.now bs (with_entries c.args.cat.now 11 c.in-Some.dir.now c.in-Some-2.more) 11 c.in_ok-x.x.places.items c.in_ok-x.x.moves.items) c.all.ensures c.in_ok-x.ensures in
    has_room c.args.g.now c.args.m.now.blocks c.make_moves.new.m.blocks c.args.cat.now _ c.args.n c.in-Some.dir.now c.in-Some-file_at.file.now c.in-Some-2.more c.in_ok-x.x.places.items c.in_ok-x.x.moves.items
    (sym c.file_at.ensures ∙ ap option_copied c.in-Some.is) (sym c.file_at-2.ensures ∙ ap option_copied c.in-Some-file_at.is) (sym c.in_ok-more.ensures ∙ c.in-Some-2.is) leads made
    (λ i. record c.args.cat.now { files = is i })
