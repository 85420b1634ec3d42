-- What steps of nodes lead to.
use Rattle.std.proofs.Common.{◌≡◌, ◌++◌, ℕ, List, [], ◌∷◌, refl, sym, ap, subst, ◌∙◌}
use Rattle.core_state.specs.Worlds.{Plain, IsOfWorld}
use Rattle.core_state.specs.Deaths.{after_step}
use Rattle.node_seat.specs.Steps.{stepped, AreNodes, IsReached}
use Rattle.node_seat.proofs.Following.{Follows, stays_still, then_follows, step_follows}

pub stepped_more : (ns : List ℕ) (w : Plain) (n : ℕ) → stepped (ns ++ n ∷ []) w ≡ after_step (stepped ns w) n
stepped_more [] w n = refl
stepped_more (m ∷ ns) w n = stepped_more ns (after_step w m) n

nodes_more : (ns : List ℕ) (w : Plain) (n : ℕ) → AreNodes ns w → IsOfWorld (stepped ns w) n → AreNodes (ns ++ n ∷ []) w
nodes_more [] w n h o = (o, tt)
nodes_more (m ∷ ns) w n h o = (h.0, nodes_more ns (after_step w m) n h.1 o)

-- no step has been made
pub reached_start : (w : Plain) → IsReached w w
reached_start w = record { nodes = []; of_world = tt; at = refl }

-- one step more
pub reached_more : (start w : Plain) (n : ℕ) → IsReached start w → IsOfWorld w n → IsReached start (after_step w n)
reached_more start w n r o = record {
  nodes = r.nodes ++ n ∷ [];
  of_world = nodes_more r.nodes start n r.of_world (subst (λ (v : Plain). IsOfWorld v n) r.at o);
  at = ap (λ (v : Plain). after_step v n) r.at ∙ sym (stepped_more r.nodes start n);
}

pub steps_follow : (ns : List ℕ) (w : Plain) → Follows w (stepped ns w)
steps_follow [] w = stays_still w
steps_follow (n ∷ ns) w = then_follows w (after_step w n) (stepped ns (after_step w n)) (step_follows w n) (steps_follow ns (after_step w n))

-- what steps leave as it was
pub reached_follows : (start w : Plain) → IsReached start w → Follows start w
reached_follows start w r = subst (λ (v : Plain). Follows start v) (sym r.at) (steps_follow r.nodes start)
