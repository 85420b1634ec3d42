use Rattle.std.proofs.Common.{◌∙◌, ◌++◌, ◌∷◌, [], sym, ap}
use Rattle.std.specs.Prelude.{filter}
use Rattle.base_words.specs.Fields.{Block}
use Rattle.lock_db.specs.declared.name.LockName.TheVariants.{V}
use Rattle.plain_cat.specs.declared.history.Stage.TheVariants as stage
use Rattle.extent_cache.specs.Stock.{is_covered}
use Rattle.vol_parts.specs.declared.geometry.Part.TheVariants.{Storage}
use Rattle.vol_spell.specs.Places.{place_of}
use Rattle.op_law.specs.declared.need.PlanWrite.{PlanWrite}
use Rattle.op_law.specs.Writing.{empty_handed, write_at}
use Rattle.op_law.specs.Freeing.{with_free}
use Rattle.core_space.proofs.Loops.{gives_more, gives_same}
use Rattle.core_space.proofs.giving.add_clusters.Goals as goal
use Rattle.core_space.proofs.giving.add_clusters.Goals.{then-has_covered+in_ok-push, else-has_covered}

pub loop-k-preserved : goal.loop-k-preserved
loop-k-preserved c = elim c.if-has_covered.branch [
  | then-has_covered+in_ok-push w ↦
      w.writes-is ∙ w.in_ok-push.ensures.ok ∙ ap (λ (v : PlanWrite). c.loop-k.writes ++ v ∷ []) (w.bare_write.ensures ∙ ap (λ (b : Block). write_at V (place_of c.args.geometry.now (Storage c.loop-k.k)) b stage.Nothing empty_handed) (w.with_free-block.ensures ∙ ap (λ (b : Block). with_free b (filter (λ q. is_covered c.loop-k.k q) c.args.clusters.now)) w.block_seen.ensures))
      ∙ gives_more c.args.geometry.now c.args.clusters.now c.args.looked.now c.args.writes.now c.loop-k.writes c.loop-k.k c.loop-k.invariant (sym c.has_covered.ensures ∙ w.if-has_covered.true)
  | else-has_covered w ↦
      w.writes-is ∙ gives_same c.args.geometry.now c.args.clusters.now c.args.looked.now c.args.writes.now c.loop-k.writes c.loop-k.k c.loop-k.invariant (sym c.has_covered.ensures ∙ w.if-has_covered.false)
]
