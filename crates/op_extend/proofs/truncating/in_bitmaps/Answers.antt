use Rattle.std.proofs.Common.{◌≡◌, ◌∙◌, ℕ, false, List, [], ◌∷◌, length, refl, sym, ap, subst}
use Rattle.std.specs.Prelude.{◌==◌, ◌*◌, IfOk}
use Rattle.base_words.specs.Fields.{Block}
use Rattle.lock_db.specs.declared.name.LockName.TheVariants.{V}
use Rattle.vol_parts.specs.declared.geometry.Geometry.{Geometry}
use Rattle.op_law.specs.declared.need.Need.{Need}
use Rattle.op_law.specs.Behind.{goes_on_by, blocks_alone}
use Rattle.op_law.specs.Events.{Events, Look, Make, space_of}
use Rattle.op_law.specs.Freeing.{blocks_for, look_index, look_storage}
use Rattle.op_law.specs.Sizes.{size_shown, cutting_writes}
use Rattle.op_law.specs.Writing.{plan_of}
use Rattle.op_steps.specs.Seeing.{file_seen}
use Rattle.op_extend.proofs.truncating.in_bitmaps.Goals as goal

index_looked : (g : Geometry) (ns : List ℕ) (next : Block → Events) → (length ns == 0) ≡ false → look_index g ns next ≡ Look V (4 * g.cluster) next
index_looked g [] next some = absurd (cc)
index_looked g (n ∷ ns) next some = refl

pub returns-in-Next : goal.returns-in-Next
returns-in-Next c =
    let g = c.args.seen.now.geometry in
    let k = c.args.k in
    let quota = blocks_alone c.args.quota.now in
    let space = space_of c.args.seen.now in
    let next : Block → Events = λ index. look_storage g (blocks_for g c.args.gone.now.clusters) (λ storage.
    Make (plan_of (cutting_writes g (file_seen g c.args.f.now) k (record { quota = quota; index = index; storage = storage })) (size_shown g k))) in
    sym (c.in-Next.ensures.need next space) ∙ ap (λ es. goes_on_by es c.args.rest space) (sym (index_looked g c.args.gone.now.numbers next (subst (λ (ns : List ℕ). (length ns == 0) ≡ false) c.items.ensures (sym c.is_empty.ensures ∙ c.if-is_empty.false))))

pub returns-in-Seen : goal.returns-in-Seen
returns-in-Seen c =
    let g = c.args.seen.now.geometry in
    let k = c.args.k in
    let quota = blocks_alone c.args.quota.now in
    let space = space_of c.args.seen.now in
    let next : Block → Events = λ index. look_storage g (blocks_for g c.args.gone.now.clusters) (λ storage.
    Make (plan_of (cutting_writes g (file_seen g c.args.f.now) k (record { quota = quota; index = index; storage = storage })) (size_shown g k))) in
    let same = sym (c.in-Seen.ensures.need next space) ∙ ap (λ es. goes_on_by es c.args.rest space) (sym (index_looked g c.args.gone.now.numbers next (subst (λ (ns : List ℕ). (length ns == 0) ≡ false) c.items.ensures (sym c.is_empty.ensures ∙ c.if-is_empty.false)))) in
    subst (λ (w : Need). IfOk c.in_storage-in-Seen.result (λ need. need ≡ w)) same c.in_storage-in-Seen.ensures
