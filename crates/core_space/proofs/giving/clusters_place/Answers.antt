use Rattle.std.proofs.Common.{◌∙◌, ◌<◌, ℕ, sym, subst}
use Rattle.core_space.proofs.Loops.{is_next, seen_passes, none_passes}
use Rattle.core_space.proofs.giving.clusters_place.Goals as goal
use Rattle.core_space.proofs.giving.clusters_place.Goals.{else-has_covered-via-then-has_covered+else-not-is_seen, else-has_covered-via-else-has_covered}

pub returns-then-not-is_seen : goal.returns-then-not-is_seen
returns-then-not-is_seen c =
    is_next c.args.geometry.now c.args.clusters.now c.args.looked.now c.loop-k.k c.loop-k.invariant (subst (λ (n : ℕ). c.loop-k.k < n) c.storage_blocks-k-end.ensures c.loop-k-test.true)
    (sym c.has_covered.ensures ∙ c.if-has_covered.true) (sym c.is_seen.ensures ∙ c.if-not-is_seen.true)

pub loop-k-preserved : goal.loop-k-preserved
loop-k-preserved c = elim c.else-has_covered.branch [
  | else-has_covered-via-then-has_covered+else-not-is_seen w ↦
      seen_passes c.args.geometry.now c.args.clusters.now c.args.looked.now c.loop-k.k c.loop-k.invariant (sym w.is_seen.ensures ∙ w.if-not-is_seen.false)
  | else-has_covered-via-else-has_covered w ↦
      none_passes c.args.geometry.now c.args.clusters.now c.args.looked.now c.loop-k.k c.loop-k.invariant (sym c.has_covered.ensures ∙ w.if-has_covered.false)
]
