use Rattle.std.proofs.Common.{◌∙◌, List, ap}
use Rattle.base_words.specs.Fields.{Block}
use Rattle.lock_db.specs.declared.name.LockName.TheVariants.{V}
use Rattle.vol_parts.specs.declared.geometry.Part.TheVariants.{IndexBitmap}
use Rattle.vol_spell.specs.Places.{place_of}
use Rattle.op_law.specs.Behind.{behind_all, blocks_alone}
use Rattle.op_law.specs.Events.{Events, Make, Look}
use Rattle.op_law.specs.Freeing.{blocks_for, look_storage}
use Rattle.op_steps.proofs.gone_looking.bitmaps_seen.Goals as goal

pub returns-in-Next-clause-need : goal.returns-in-Next-clause-need
returns-in-Next-clause-need c = λ plan given.
    let g = c.args.g.now in
    let ks = blocks_for g c.args.clusters.now in
    let quota = blocks_alone c.args.quota.now in
    let then : Block → Events = λ index. look_storage g ks (λ storage. Make (plan (record { quota = quota; index = index; storage = storage }))) in
    c.in-Next.ensures.need (Look V (place_of g IndexBitmap) then) given

pub returns-in-Next-block_seen-clause-need : goal.returns-in-Next-block_seen-clause-need
returns-in-Next-block_seen-clause-need c = λ plan given.
    let g = c.args.g.now in
    let ks = blocks_for g c.args.clusters.now in
    let quota = blocks_alone c.args.quota.now in
    let then : Block → Events = λ index. look_storage g ks (λ storage. Make (plan (record { quota = quota; index = index; storage = storage }))) in
    c.in-Held.ensures.need (Look V (place_of g IndexBitmap) then) given ∙ c.in-Next-block_seen.ensures.need then given

pub returns-in-Next-2-clause-need : goal.returns-in-Next-2-clause-need
returns-in-Next-2-clause-need c = λ plan given.
    let g = c.args.g.now in
    let ks = blocks_for g c.args.clusters.now in
    let quota = blocks_alone c.args.quota.now in
    let last : Block → List Block → Events = λ index storage. Make (plan (record { quota = quota; index = index; storage = storage })) in
    let then : Block → Events = λ index. look_storage g ks (last index) in
    c.in-Held.ensures.need (Look V (place_of g IndexBitmap) then) given
    ∙ c.in-Seen.ensures.need then given
    ∙ c.in_ok-need-in-Seen.ensures.need (last c.in-Seen.index.now) given
    ∙ ap (behind_all (last c.in-Seen.index.now) given) c.in-Next-2.is

pub returns-in-All-clause-need : goal.returns-in-All-clause-need
returns-in-All-clause-need c = λ plan given.
    let g = c.args.g.now in
    let ks = blocks_for g c.args.clusters.now in
    let quota = blocks_alone c.args.quota.now in
    let last : Block → List Block → Events = λ index storage. Make (plan (record { quota = quota; index = index; storage = storage })) in
    let then : Block → Events = λ index. look_storage g ks (last index) in
    c.in-Held.ensures.need (Look V (place_of g IndexBitmap) then) given
    ∙ c.in-Seen.ensures.need then given
    ∙ c.in_ok-need-in-Seen.ensures.need (last c.in-Seen.index.now) given
    ∙ ap (behind_all (last c.in-Seen.index.now) given) c.in-All.is
