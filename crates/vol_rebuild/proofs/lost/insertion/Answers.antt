use Rattle.std.proofs.Common.{◌≡◌, ◌<◌, ◌∙◌, ℕ, false, List, Some, None, length, sym, ap, subst, arith}
use Rattle.std.specs.Prelude.{is_some}
use Rattle.std.proofs.lemmas.Bool.{false≢true}
use Rattle.std.specs.Result.{IsOk, ForOk}
use Rattle.base_words.specs.Fields.{Block}
use Rattle.fx_dir.specs.declared.RawEnt.{RawEnt}
use Rattle.fx_dir.specs.Entries.{has}
use Rattle.fx_dir.specs.Directory.{directory}
use Rattle.fx_dir.specs.Moves.{insertion}
use Rattle.fx_dir.specs.Writing.{IsInForm}
use Rattle.plain_cat.specs.declared.entries.DirEnt.{DirEnt}
use Rattle.plain_rules.specs.Lookups.{versions, highest}
use Rattle.plain_rules.specs.Mending.{with_lost_entry, lost_entry, lost_name}
use Rattle.vol_spell.specs.Entries.{raw_entry}
use Rattle.vol_rebuild.proofs.Directing.{dir_there, numbered, reads, version_room, lost_dir, in_form, is_new, has_moves, insertion_leads}
use Rattle.vol_rebuild.proofs.lost.insertion.Goals as goal

pub lost_entry-requires : goal.lost_entry-requires
lost_entry-requires c =
    let k = version_room c.args.cat.now.factor c.args.dir.now.entries c.args.n c.args.seq c.args.more.now c.requires.room in
    subst (λ (es : List DirEnt). highest (versions (lost_name c.args.n) es) < 32767) (sym c.items.ensures) (omega (arith, k))

pub body-requires : goal.body-requires
body-requires c =
    let f = c.requires.file in
    let room = subst (λ (s : ℕ). with_lost_entry c.args.cat.now.factor c.args.dir.now.entries c.args.n s ≡ Some c.args.more.now) (sym f.2) c.requires.room in
    dir_there c.args.g.now c.args.blocks.now c.args.cat.now 11 c.args.dir.now (lost_dir c.args.g.now c.args.blocks.now c.args.cat.now c.args.n c.args.dir.now f.0 c.args.more.now c.requires.told c.requires.dir f.1 room)

pub insert_moves-requires-clause-numbered : goal.insert_moves-requires-clause-numbered
insert_moves-requires-clause-numbered c =
    let f = c.requires.file in
    let room = subst (λ (s : ℕ). with_lost_entry c.args.cat.now.factor c.args.dir.now.entries c.args.n s ≡ Some c.args.more.now) (sym f.2) c.requires.room in
    let h = lost_dir c.args.g.now c.args.blocks.now c.args.cat.now c.args.n c.args.dir.now f.0 c.args.more.now c.requires.told c.requires.dir f.1 room in
    let k = numbered c.args.g.now c.args.blocks.now c.args.cat.now 11 c.args.dir.now h _ _ c.in_ok-body.ensures.places c.in_ok-body.ensures.blocks in
    let e = ap length c.as_slice.ensures.value in
    omega (arith, k, e)

pub insert_moves-requires-clause-form : goal.insert_moves-requires-clause-form
insert_moves-requires-clause-form c =
    let f = c.requires.file in
    let room = subst (λ (s : ℕ). with_lost_entry c.args.cat.now.factor c.args.dir.now.entries c.args.n s ≡ Some c.args.more.now) (sym f.2) c.requires.room in
    let form = in_form c.args.g.now c.args.blocks.now c.args.cat.now c.args.n c.args.dir.now f.0 c.args.more.now c.requires.told c.requires.dir f.1 room in
    let e = c.in_ok-e.ensures ∙ (ap (λ (es : List DirEnt). raw_entry (lost_entry es c.args.n c.args.seq)) c.items.ensures ∙ ap (λ (s : ℕ). raw_entry (lost_entry c.args.dir.now.entries c.args.n s)) (sym f.2)) in
    subst (λ (x : RawEnt). IsInForm x) (sym e) form

pub insert_moves-requires-clause-read : goal.insert_moves-requires-clause-read
insert_moves-requires-clause-read c =
    let f = c.requires.file in
    let room = subst (λ (s : ℕ). with_lost_entry c.args.cat.now.factor c.args.dir.now.entries c.args.n s ≡ Some c.args.more.now) (sym f.2) c.requires.room in
    let h = lost_dir c.args.g.now c.args.blocks.now c.args.cat.now c.args.n c.args.dir.now f.0 c.args.more.now c.requires.told c.requires.dir f.1 room in
    subst (λ (bs : List Block). IsOk (directory bs)) (sym c.as_slice.ensures.value)
    (reads c.args.g.now c.args.blocks.now c.args.cat.now 11 c.args.dir.now h _ _ c.in_ok-body.ensures.places c.in_ok-body.ensures.blocks)

pub insert_moves-requires-clause-new : goal.insert_moves-requires-clause-new
insert_moves-requires-clause-new c =
    let f = c.requires.file in
    let room = subst (λ (s : ℕ). with_lost_entry c.args.cat.now.factor c.args.dir.now.entries c.args.n s ≡ Some c.args.more.now) (sym f.2) c.requires.room in
    let new = is_new c.args.g.now c.args.blocks.now c.args.cat.now c.args.n c.args.dir.now f.0 c.args.more.now c.requires.told c.requires.dir f.1 room c.in_ok-body.body.places.items c.as_slice.result.now
    c.in_ok-body.ensures.places (c.as_slice.ensures.value ∙ c.in_ok-body.ensures.blocks) in
    let e = c.in_ok-e.ensures ∙ (ap (λ (es : List DirEnt). raw_entry (lost_entry es c.args.n c.args.seq)) c.items.ensures ∙ ap (λ (s : ℕ). raw_entry (lost_entry c.args.dir.now.entries c.args.n s)) (sym f.2)) in
    subst (λ (x : RawEnt). ForOk (directory c.as_slice.result.now) (λ (es : List RawEnt). has es x ≡ false)) (sym e) new

pub unreachable-requires : goal.unreachable-requires
unreachable-requires c =
    let f = c.requires.file in
    let room = subst (λ (s : ℕ). with_lost_entry c.args.cat.now.factor c.args.dir.now.entries c.args.n s ≡ Some c.args.more.now) (sym f.2) c.requires.room in
    let e = c.in_ok-e.ensures ∙ (ap (λ (es : List DirEnt). raw_entry (lost_entry es c.args.n c.args.seq)) c.items.ensures ∙ ap (λ (s : ℕ). raw_entry (lost_entry c.args.dir.now.entries c.args.n s)) (sym f.2)) in
    let by : insertion c.as_slice.result.now (raw_entry (lost_entry c.args.dir.now.entries c.args.n f.0.seq)) ≡ None =
    ap (λ (x : RawEnt). insertion c.as_slice.result.now x) (sym e) ∙ sym (rw c.in_default.is at c.in_ok-moves.ensures.moves) in
    let some = has_moves c.args.g.now c.args.blocks.now c.args.cat.now c.args.n c.args.dir.now f.0 c.args.more.now c.requires.told c.requires.dir f.1 room c.in_ok-body.body.places.items c.as_slice.result.now
    c.in_ok-body.ensures.places (c.as_slice.ensures.value ∙ c.in_ok-body.ensures.blocks) in
    false≢true (sym (ap is_some by) ∙ some)

pub returns : goal.returns
returns c =
    let f = c.requires.file in
    let room = subst (λ (s : ℕ). with_lost_entry c.args.cat.now.factor c.args.dir.now.entries c.args.n s ≡ Some c.args.more.now) (sym f.2) c.requires.room in
    let e = c.in_ok-e.ensures ∙ (ap (λ (es : List DirEnt). raw_entry (lost_entry es c.args.n c.args.seq)) c.items.ensures ∙ ap (λ (s : ℕ). raw_entry (lost_entry c.args.dir.now.entries c.args.n s)) (sym f.2)) in
    let by : insertion c.as_slice.result.now (raw_entry (lost_entry c.args.dir.now.entries c.args.n f.0.seq)) ≡ Some c.in-Some.moves.items =
    ap (λ (x : RawEnt). insertion c.as_slice.result.now x) (sym e) ∙ sym (rw c.in-Some.is at c.in_ok-moves.ensures.moves) in
    insertion_leads c.args.g.now c.args.blocks.now c.args.cat.now c.args.n c.args.dir.now f.0 c.args.more.now c.requires.told c.requires.dir f.1 room c.in_ok-body.body.places.items c.as_slice.result.now
    c.in_ok-body.ensures.places (c.as_slice.ensures.value ∙ c.in_ok-body.ensures.blocks) c.in-Some.moves.items by c.requires.change
