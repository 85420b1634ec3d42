use Rattle.std.proofs.Common.{◌++◌, ◌∷◌, ◌∙◌, [], sym, arith}
use Rattle.std.proofs.lemmas.List.FromFn.{map-range_with_len_more}
use Rattle.vol_repair.specs.Reached.{row_of}
use Rattle.vol_repair.proofs.reaching.rows_of.Goals as goal

pub loop-n-preserved : goal.loop-n-preserved
loop-n-preserved c =
    c.in_ok-push.ensures.items
    ∙ ((λ i. c.loop-n.invariant i ++ c.in_ok-row_of.ensures i ∷ []) ∙ sym (map-range_with_len_more (row_of c.args.cat.now) 0 c.loop-n.n c.loop-n.n (omega arith)))
