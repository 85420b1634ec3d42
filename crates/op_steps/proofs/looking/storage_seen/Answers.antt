use Rattle.std.proofs.Common.{rules, ◌≡◌, ◌∙◌, ◌<◌, [], None, length, map, slice_get, All, sym, ap, subst}
use Rattle.std.proofs.lemmas.List.{length-map}
use Rattle.lock_db.specs.declared.name.LockName.TheVariants.{V}
use Rattle.vol_parts.specs.declared.geometry.Part.TheVariants.{Storage}
use Rattle.vol_spell.specs.Places.{place_of}
use Rattle.op_law.specs.Freeing.{blocks_for}
use Rattle.op_steps.specs.Looked.{HasAll}
use Rattle.op_steps.proofs.Counted.{has_all, all_few}
use Rattle.op_steps.proofs.looking.storage_seen.Goals as goal

pub storage_lbn-unseen-requires-clause-few : goal.storage_lbn-unseen-requires-clause-few
storage_lbn-unseen-requires-clause-few c =
    let e = c.as_slice.ensures.value ∙ c.in_ok-places.ensures in
    subst (λ ks. All (λ k. k < 16) ks) (sym e) (all_few c.args.g.now c.args.clusters.now c.requires)

pub returns-clause-all : goal.returns-clause-all
returns-clause-all c =
    let g = c.args.g.now in
    let ks = blocks_for g c.args.clusters.now in
    let is = c.in_ok-places.ensures in
    let value = c.as_slice.ensures.value ∙ is in
    let count = length-map ks (λ k. place_of g (Storage k)) in
    let size : length (map (λ k. place_of g (Storage k)) ks) ≡ c.len.result = count ∙ ap length (sym is) ∙ (search rules) in
    let at : slice_get (map (λ k. place_of g (Storage k)) ks) (length c.args.rest.blocks.now) ≡ c.storage_lbn-unseen.result =
    ap (λ xs. slice_get (map (λ k. place_of g (Storage k)) xs) (length c.args.rest.blocks.now)) (sym value) ∙ sym c.storage_lbn-unseen.ensures in
    subst (λ n. HasAll n c.blocks_seen.result) count
    (has_all V (map (λ k. place_of g (Storage k)) ks) c.args.rest.locks.now c.args.rest.blocks.now (record { clusters = []; number = None; short = None }) c.blocks_seen.result
    (λ next. c.blocks_seen.ensures.need (map (λ k. place_of g (Storage k)) ks) next _ size at))
