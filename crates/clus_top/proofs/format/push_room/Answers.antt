use Rattle.std.proofs.Common.{◌∙◌, ◌++◌, ℕ, ap, codes}
use Rattle.clus_top.specs.Statuses.{room_text}
use Rattle.run_engine.specs.Summaries.{counted}
use Rattle.clus_top.proofs.Pushed.{three_pushed}
use Rattle.clus_top.proofs.format.push_room.Goals as goal

pub returns : goal.returns
unfolding room_text
returns c =
    let free = ap (λ (n : ℕ). c.push_counted.new.out.items ++ counted n (codes " free clusters, ")) c.free_clusters.ensures in
    three_pushed c.push_counted-3.result _ _ _ _ _ _ _ c.in_ok-push_counted.ensures (c.in_ok-push_counted-2.ensures ∙ free) c.push_counted-3.ensures
