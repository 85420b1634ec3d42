use Rattle.std.proofs.Common.{◌≡◌, ◌∙◌, ℕ, List, sym, ap, subst}
use Rattle.std.specs.Prelude.{IfOk}
use Rattle.base_words.specs.Fields.{Block}
use Rattle.lock_db.specs.declared.name.LockName.TheVariants.{V}
use Rattle.plain_cat.specs.declared.mode.Mode.TheVariants.{PW}
use Rattle.op_law.specs.declared.need.Need.{Need}
use Rattle.op_law.specs.Behind.{goes_on_by, blocks_alone}
use Rattle.op_law.specs.Events.{Events, Take, Make, space_of}
use Rattle.op_law.specs.Freeing.{blocks_for, look_index, look_storage}
use Rattle.op_law.specs.Sizes.{size_shown, cut_clusters, cut_numbers, cutting_writes}
use Rattle.op_law.specs.Writing.{plan_of}
use Rattle.op_steps.specs.Seeing.{file_seen}
use Rattle.op_extend.proofs.truncating.cut_to.Goals as goal

pub returns : goal.returns
returns c =
    let g = c.args.seen.now.geometry in
    let f = file_seen g c.args.f.now in
    let k = c.args.k in
    let space = space_of c.args.seen.now in
    let gone = c.in_ok-gone.ensures in
    let bitmaps : List Block → List ℕ → List ℕ → Events = λ quota ns qs. look_index g ns (λ index. look_storage g (blocks_for g qs) (λ storage.
    Make (plan_of (cutting_writes g f k (record { quota = quota; index = index; storage = storage })) (size_shown g k)))) in
    let quota = blocks_alone c.in-All.quota.now in
    let others = c.in-Held.others in
    let ns = cut_numbers g f k in
    let qs = cut_clusters g f k in
    let same = ap (λ is. goes_on_by (bitmaps quota is c.in_ok-gone.gone.clusters) others space) gone.numbers ∙ ap (λ is. goes_on_by (bitmaps quota ns is) others space) gone.clusters
    ∙ sym (c.in-Held.ensures.need (bitmaps quota ns qs) space) ∙ sym (c.in-All.ensures.need (λ bs. Take V PW (bitmaps bs ns qs)) space) in
    subst (λ (w : Need). IfOk c.in_bitmaps.result (λ need. need ≡ w)) same c.in_bitmaps.ensures
