-- In which order the claimed asks of a name are taken.
use Rattle.std.specs.Prelude.{◌≡◌, ◌≤◌, ◌==◌, ◌&&◌, ◌||◌, not, nat_lt, ℕ, Bool, true, false, List, [], ◌∷◌, is_some}
use Rattle.std.specs.List.{list_all}
use Rattle.lock_db.specs.declared.name.Owner.{Owner}
use Rattle.lock_db.specs.Names.{is_same, is_before}
use Rattle.dlm_core.specs.declared.holds.Hold.{Hold}
use Rattle.dlm_core.specs.declared.queue.Waiter.{Waiter}
use Rattle.dlm_core.specs.declared.events.Event.{Event}
use Rattle.dlm_core.specs.declared.rules.BlockRule.{BlockRule}
use Rattle.dlm_core.specs.States.{start}
use Rattle.dlm_core.specs.Restored.{own_claims}
use Rattle.dlm_core.specs.Runs.{after_all}

-- an owner comes before another by node, and on one node by part
abbrev pub comes_first : Owner → Owner → Bool
comes_first a b = nat_lt a.node b.node || ((a.node == b.node) && nat_lt a.part b.part)

-- Of two claims on one name: who has a lock, and so asks for a conversion, goes before who has none, and else the owner that comes first.
abbrev pub is_taken_first : Bool → Bool → Owner → Owner → Bool
is_taken_first true false a b = true
is_taken_first false true a b = false
is_taken_first true true a b = comes_first a b
is_taken_first false false a b = comes_first a b

abbrev pub goes_in_front : Hold → Hold → Bool
goes_in_front h k = not (is_same h.name k.name) || is_taken_first (is_some h.belief) (is_some k.belief) h.owner k.owner

-- each stands in front of those behind it
abbrev pub in_order : List Hold → Bool
in_order [] = true
in_order (h ∷ hs) = list_all (goes_in_front h) hs && in_order hs

-- After every list of events the claims of a dead node's names stand in this order, in which their asks are taken.
abbrev pub AsksAreTakenInOrder : Type 0
AsksAreTakenInOrder = (rule : BlockRule) (nodes : ℕ) (es : List Event) (dead : ℕ) → 1 ≤ nodes → in_order (own_claims dead (after_all (start rule nodes) es)) ≡ true

-- Of two asks that wait at their masters: whose name comes first stands in front, and on one name no request in front of a conversion.
abbrev pub may_stand_first : Waiter → Waiter → Bool
may_stand_first a b = is_before a.name b.name || (is_same a.name b.name && (a.converts || not b.converts))

abbrev pub queue_in_order : List Waiter → Bool
queue_in_order [] = true
queue_in_order (w ∷ ws) = list_all (may_stand_first w) ws && queue_in_order ws

-- So the asks that wait stand after every list of events, also once their names have been recovered. In this order they are granted.
abbrev pub QueueIsInOrder : Type 0
QueueIsInOrder = (rule : BlockRule) (nodes : ℕ) (es : List Event) → 1 ≤ nodes → queue_in_order (after_all (start rule nodes) es).queue ≡ true
