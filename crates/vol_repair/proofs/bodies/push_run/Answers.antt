use Rattle.std.proofs.Common.{◌+◌, ◌∷◌, ◌++◌, ◌∙◌, ℕ, List, [], append_assoc, sym, ap, arith}
use Rattle.std.specs.List.{range_with_len}
use Rattle.vol_parts.proofs.Ranges.{range-more}
use Rattle.vol_repair.proofs.bodies.push_run.Goals as goal

pub loop-i-preserved : goal.loop-i-preserved
loop-i-preserved c =
    let a = c.args.run.lbn in
    let i = c.loop-i.i in
    let e = range-more a i (a + i) (omega arith) in
    c.in_ok-push.ensures.items
    ∙ (ap (λ (xs : List ℕ). xs ++ (a + i) ∷ []) c.loop-i.invariant
    ∙ (append_assoc c.args.all.now.items (range_with_len a i) ((a + i) ∷ []) ∙ ap (λ (xs : List ℕ). c.args.all.now.items ++ xs) (sym e)))
