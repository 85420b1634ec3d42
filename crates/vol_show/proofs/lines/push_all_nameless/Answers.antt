use Rattle.std.proofs.Common.{◌∙◌, ◌++◌, ◌-◌, List, ℕ, sym, ap}
use Rattle.std.proofs.lemmas.List.{append_assoc}
use Rattle.std.specs.List.{flat_map, range_with_len}
use Rattle.vol_show.specs.Listing.{nameless_text}
use Rattle.vol_show.proofs.Numbered.{texts_next}
use Rattle.vol_show.proofs.lines.push_all_nameless.Goals as goal

pub loop-n-preserved : goal.loop-n-preserved
loop-n-preserved c =
    let f = nameless_text c.args.cat.now in
    let out = c.args.out.now.items in
    let so_far = flat_map f (range_with_len 1 (c.loop-n.n - 1)) in
    c.in_ok-push_nameless.ensures ∙ ap (λ (x : List ℕ). x ++ f c.loop-n.n) c.loop-n.invariant
    ∙ append_assoc out so_far (f c.loop-n.n)
    ∙ ap (λ (x : List ℕ). out ++ x) (sym (texts_next f c.loop-n.n c.loop-n.auto.n))
