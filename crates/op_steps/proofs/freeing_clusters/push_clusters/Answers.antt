use Rattle.std.proofs.Common.{◌∙◌, ◌+◌, ◌/◌, ◌++◌, ℕ, List, [], ◌∷◌, append_assoc, ap, sym, refl}
use Rattle.std.specs.List.{range_with_len}
use Rattle.vol_parts.proofs.Ranges.{range-more}
use Rattle.op_steps.proofs.freeing_clusters.push_clusters.Goals as goal

pub loop-i-preserved : goal.loop-i-preserved
loop-i-preserved c =
    let first = c.args.run.lbn / c.args.g.now.cluster in
    let i = c.loop-i.i in
    let old = c.args.all.now.items in
    c.in_ok-push.ensures.items
    ∙ ap (λ (qs : List ℕ). qs ++ (first + i) ∷ []) c.loop-i.invariant
    ∙ append_assoc old (range_with_len first i) ((first + i) ∷ [])
    ∙ ap (λ (qs : List ℕ). old ++ qs) (sym (range-more first i (first + i) refl))
