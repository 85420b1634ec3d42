use Rattle.std.proofs.Common.{◌≡◌, ◌∙◌, ◌++◌, ◌∷◌, [], take, drop, ap, append_assoc}
use Rattle.std.specs.List.{insert}
use Rattle.fx_dir.proofs.Moving.{insert-spot}
use Rattle.fx_dir.proofs.moves.inserted.Goals as goal

pub returns : goal.returns
returns c =
    let e = c.args.e.now in
    let es = c.args.es.now in
    let n = c.spot_of.result in
    let front : c.push_all.new.list.items ≡ take n es = c.in_ok-push_all.ensures ∙ (λ i. c.in_ok-list.ensures.items i ++ c.split_at.ensures.front i) in
    let more : c.push.new.self.items ≡ take n es ++ e ∷ [] = c.in_ok-push.ensures.items ∙ ap (λ t. t ++ e ∷ []) front in
    c.in_ok-push_all-2.ensures ∙ (λ i. more i ++ c.split_at.ensures.back i) ∙ append_assoc (take n es) (e ∷ []) (drop n es)
    ∙ ap (λ k. insert es k e) c.spot_of.ensures.spot ∙ insert-spot e es
