use Rattle.std.proofs.Common.{◌≡◌, ◌==◌, drop}
use Rattle.std.specs.List.{list_any}
use Rattle.dlm_core.proofs.cluster.is_among.Given as goal

abbrev pub invariant-loop-k : goal.invariant-loop-k
invariant-loop-k l = list_any (λ k. k == l.node) (drop l.k-index l.nodes) ≡ list_any (λ k. k == l.node) l.nodes
