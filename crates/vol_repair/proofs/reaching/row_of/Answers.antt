use Rattle.std.proofs.Common.{◌++◌, ◌∷◌, ◌∙◌, [], sym, arith}
use Rattle.std.proofs.lemmas.List.FromFn.{map-range_with_len_more}
use Rattle.vol_faults.specs.Reaching.{leads}
use Rattle.vol_repair.proofs.reaching.row_of.Goals as goal

pub loop-m-preserved : goal.loop-m-preserved
loop-m-preserved c =
    c.in_ok-push.ensures.ok
    ∙ ((λ i. c.loop-m.invariant i ++ c.leads.ensures i ∷ []) ∙ sym (map-range_with_len_more (leads c.args.cat.now c.args.n) 0 c.loop-m.m c.loop-m.m (omega arith)))
