use Rattle.std.proofs.Common.{◌∙◌, ◌≡◌, ◌+◌, ◌++◌, ◌∷◌, [], take, sym, ap, subst, arith}
use Rattle.std.proofs.lemmas.List.{take_more}
use Rattle.base_words.specs.Packing.{cost}
use Rattle.fx_dir.specs.Lists.{Each}
use Rattle.fx_dir.specs.Writing.{IsInForm, IsRanged, last_name}
use Rattle.fx_dir.proofs.Cover.{each-append}
use Rattle.fx_dir.proofs.Steps.{name-short, each-get, filled-step, unfilled-step}
use Rattle.fx_dir.proofs.packing.fill.Goals as goal

pub cost_of-more-requires : goal.cost_of-more-requires
cost_of-more-requires c =
    let f : IsInForm c.index-es-n.result = rw c.index-es-n.is (each-get IsInForm c.args.es.now c.loop-n.n c.index-es-n.result c.requires c.loop-n-test.true) in
    omega (arith, name-short c.index-es-n.result.name f.named)

pub loop-n-preserved : goal.loop-n-preserved
loop-n-preserved c =
    let es = c.args.es.now in
    let n = c.loop-n.n in
    let e = c.index-es-n.result in
    let p : take (n + 1) es ≡ take n es ++ e ∷ [] = take_more es n e c.loop-n-test.true ∙ λ i. take n es ++ sym c.index-es-n.is i ∷ [] in
    let m : c.cost_of-more.result ≡ cost (last_name (take n es)) e.name = c.cost_of-more.ensures.value ∙ ap (λ t. cost (last_name t) e.name) c.split_at.ensures.front in
    record {
      in_use = omega arith;
      within = omega arith;
      ranged = subst (λ t. Each IsRanged t) (sym p) (each-append IsRanged (take n es) (e ∷ []) c.loop-n.invariant.ranged (c.know_ranges.ensures, tt));
      goes_in = filled-step _ (take n es) (take (n + 1) es) c.loop-n.used c.cost_of-more.result n e es c.loop-n-test.true c.index-es-n.is p m (omega arith) c.loop-n.invariant.goes_in;
      left = unfilled-step _ (take n es) (take (n + 1) es) c.loop-n.used c.cost_of-more.result n e es c.loop-n-test.true c.index-es-n.is p m (omega arith) c.loop-n.invariant.left;
    }
