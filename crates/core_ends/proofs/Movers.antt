-- Some node moves: who waits for a lock of its command waits for one that moves, or that waits for a later name.
use Rattle.std.proofs.Common.{◌≡◌, ◌≢◌, ◌⊎◌, ◌≤◌, ◌<◌, ◌++◌, ℕ, zero, suc, Bool, true, false, List, [], ◌∷◌, Option, Some, None, length, slice_get, refl, sym, ap, subst, ◌∙◌, inl, inr, arith}
use Rattle.std.proofs.lemmas.Bool.{cases_lt}
use Rattle.lock_db.specs.declared.name.LockName.{LockName}
use Rattle.lock_db.specs.declared.name.LockName.TheVariants.{S, A, Q, X, V}
use Rattle.plain_cat.specs.declared.mode.Mode.{Mode}
use Rattle.plain_cat.specs.declared.mode.Mode.TheVariants.{PW}
use Rattle.plain_cat.specs.declared.cat.Cat.{Cat}
use Rattle.plain_mends.specs.Sound.{IsSound}
use Rattle.plain_mends.proofs.SoundMends.{replay_sound}
use Rattle.vol_mends.proofs.AcceptedSteps.{accepted_is_sound}
use Rattle.base_words.specs.Lists.{Has}
use Rattle.node_locks.specs.Held.{Row, names_of, waits_at}
use Rattle.node_locks.proofs.Standing.{held-asked}
use Rattle.op_law.specs.Laws.{takes_lock}
use Rattle.op_law.specs.Order.{IsBefore}
use Rattle.core_state.specs.Worlds.{NodeState, Plain, node_at, rows_of}
use Rattle.core_state.specs.Goods.{Good, IsAccepted}
use Rattle.core_state.specs.Events.{is_out, gives_back, stands, is_over_in, is_over}
use Rattle.core_state.proofs.Naming.{one_of}
use Rattle.core_state.proofs.Turning.{has_name}
use Rattle.core_ends.specs.Moving.{Moves, SomebodyMoves}
use Rattle.core_ends.proofs.Chains.{In, Here, There, somebody}
use Rattle.core_ends.proofs.Orders.{then, never}
use Rattle.core_ends.proofs.Turning.{moves_on}
use Rattle.core_ends.proofs.Holders.{IsHolder, holder}
use Rattle.core_ends.proofs.Standing.{last_same, stands_parts, Asks, asks, in_front, held_where}
use Rattle.core_ends.proofs.Sharing.{kept_x, claims_there, claims_move, asked_v_moves}

-- ---- the numbers of nodes

abbrev upto : ℕ → List ℕ
upto zero = []
upto (suc k) = suc k ∷ upto k

in_upto : (m k : ℕ) → 1 ≤ m → m ≤ k → In m (upto k)
in_upto m zero from to = absurd (omega arith)
in_upto m (suc k) from to = elim (cases_lt m (suc k)) [
  | inl lt ↦ There (in_upto m k from (omega arith))
  | inr le ↦ let e : suc k ≡ m = omega arith in subst (λ (j : ℕ). In j (suc k ∷ upto k)) e Here
]

get_within : (nodes : List NodeState) (k : ℕ) (s : NodeState) → slice_get nodes k ≡ Some s → k < length nodes
get_within [] k s e = absurd (let f : None ≡ Some s = e in cc)
get_within (x ∷ nodes) zero s e = omega arith
get_within (x ∷ nodes) (suc k) s e = let h = get_within nodes k s e in omega arith

node_within : (nodes : List NodeState) (m : ℕ) (s : NodeState) → node_at nodes m ≡ Some s → (1 ≤ m) × (m ≤ length nodes)
node_within nodes zero s e = absurd (let f : None ≡ Some s = e in cc)
node_within nodes (suc k) s e = let h = get_within nodes k s e in (omega arith, omega arith)

-- ---- the name for which a command waits

-- S or Q
abbrev IsOwn : LockName → Type 0
IsOwn (S k) = Unit {0}
IsOwn (A f) = ⊥
IsOwn Q = Unit {0}
IsOwn X = ⊥
IsOwn V = ⊥

far_own : (name : LockName) → IsOwn name → (f : ℕ) → name ≢ A f
far_own name o f e = subst IsOwn e o

module _ (w : Plain) (good : Good w) (accepted : IsAccepted w.opening) where
  abbrev cat : Cat
  cat = good.running.cat

  sound : IsSound cat
  sound = replay_sound w.opening w.script w.history cat (accepted_is_sound accepted.0 w.opening accepted.1 accepted.2) good.running.replayed

  -- the order of names on the committed blocks
  abbrev Before : LockName → LockName → Type 0
  Before a b = IsBefore w.geometry good.running.drive.base good.running.drive.own cat a b

  abbrev Node : ℕ → Type 0
  Node m = is_over w m ≡ false

  -- node n waits for a lock of its command, of this name
  record Stuck (n : ℕ) (name : LockName) : Type 0 where
    state : NodeState
    at : node_at w.nodes n ≡ Some state
    waits : waits_at w.locks n state.asked ≡ true
    front : Row
    mode : Mode
    last : state.asked ≡ front ++ (name, mode) ∷ []
    own : IsOwn name

  one : (n : ℕ) (a b : LockName) → Stuck n a → Stuck n b → a ≡ b
  one n a b s t =
      let e : Some s.state ≡ Some t.state = sym s.at ∙ t.at in
      let same : s.state ≡ t.state = cc in
      ap (λ (y : LockName × Mode). y.0) (last_same s.front t.front (a, s.mode) (b, t.mode) (sym s.last ∙ ap (λ (y : NodeState). y.asked) same ∙ t.last))

  node_is : (m : ℕ) → Node m → (s : NodeState) × (node_at w.nodes m ≡ Some s) × (is_out s ≡ false)
  node_is m alive = by_node (node_at w.nodes m) refl alive where
    by_node : (o : Option NodeState) → node_at w.nodes m ≡ o → is_over_in o ≡ false → (s : NodeState) × (node_at w.nodes m ≡ Some s) × (is_out s ≡ false)
    by_node None e f = absurd (let z : true ≡ false = f in cc)
    by_node (Some s) e f = (s, e, f)

  -- a node whose command waits: somebody moves, or it is stuck at S or Q
  by_asks : (m : ℕ) (q : NodeState) (at : node_at w.nodes m ≡ Some q) (e : waits_at w.locks m q.asked ≡ true) (b : Asks w good m q at) → ((k : ℕ) × Moves w k) ⊎ Stuck m b.name
  by_asks m q at e b = by_name b.name refl b.new.own where
    stuck : IsOwn b.name → Stuck m b.name
    stuck o = record { state = q; at = at; waits = e; front = b.before.locks; mode = b.mode; last = b.asked; own = o }

    by_name : (name : LockName) → b.name ≡ name → takes_lock b.command name ≡ true → ((k : ℕ) × Moves w k) ⊎ Stuck m b.name
    by_name (S k) f o = inr (stuck (subst IsOwn (sym f) tt))
    by_name (A k) f o = absurd (let z : false ≡ true = o in cc)
    by_name Q f o = inr (stuck (subst IsOwn (sym f) tt))
    by_name X f o = absurd (let z : false ≡ true = o in cc)
    by_name V f o = inl (asked_v_moves w good m q at e b f)

  -- ---- a step of the chain

  module _ (n : ℕ) (a : LockName) (s : Stuck n a) (h : IsHolder w good n a) where
    abbrev m : ℕ
    m = h.node

    abbrev q : NodeState
    q = h.state

    abbrev Next : Type 0
    Next = (k : ℕ) × Node k × (Moves w k ⊎ ((b : LockName) × Stuck k b × Before a b))

    moved : (k : ℕ) × Moves w k → Next
    moved (k, moves) = (k, moves.0, inl moves)

    not_x : a ≡ X → ⊥
    not_x e = subst IsOwn e s.own

    not_v : a ≡ V → ⊥
    not_v e = subst IsOwn e s.own

    alive : Node m
    alive = ap is_over_in h.at ∙ h.on

    module _ (e : waits_at w.locks m q.asked ≡ true) (b : Asks w good m q h.at) where
      among : Has (names_of b.before.locks) a
      among = elim (held_where w good m q h.at (a, h.mode) h.has) [
        | inl k ↦ absurd (not_x (kept_x w good m q h.at a h.mode h.strong k).0)
        | inr k ↦ elim k [
          | inl i ↦ has_name b.before.locks a h.mode (in_front w good m q h.at e b (a, h.mode) i)
          | inr i ↦ absurd (elim (claims_there w good m q h.at (a, h.mode) i) [
            | inl c ↦ not_x (sym (ap (λ (y : LockName × Mode). y.0) (one_of q.claims (X, c.mode) (a, h.mode) c.claims (held-asked w.locks m q.claims (a, h.mode) i))))
            | inr c ↦ not_v (sym (ap (λ (y : LockName × Mode). y.0) (one_of q.claims (V, PW) (a, h.mode) c.claims (held-asked w.locks m q.claims (a, h.mode) i))))
          ])
        ]
      ]

      by_asked : Next
      by_asked = elim (by_asks m q h.at e b) [
        | inl k ↦ moved k
        | inr k ↦ (m, alive, inr (b.name, k, b.new.after a among))
      ]

    step : Next
    step = by_stands (stands w m q) refl where
      by_stands : (t : Bool) → stands w m q ≡ t → Next
      by_stands false e = (m, alive, inl (moves_on w m q h.at h.on e))
      by_stands true e = elim (stands_parts (waits_at w.locks m q.claims) (gives_back w m q) (waits_at w.locks m q.asked) e) [
        | inl f ↦ moved (claims_move w good m q h.at f)
        | inr f ↦ by_asked f.1 (asks w good m q h.at f.1)
      ]

  held : (n : ℕ) (a : LockName) → Node n → Stuck n a → (k : ℕ) × Node k × (Moves w k ⊎ ((b : LockName) × Stuck k b × Before a b))
  held n a here s =
      step n a s (holder w good n s.state (a, s.mode) s.front s.at (subst (λ (ls : Row). Has (rows_of s.state) ls) s.last (inr (inl refl))) (sym (ap (waits_at w.locks n) s.last) ∙ s.waits) (far_own a s.own))

  all_nodes : (m : ℕ) → Node m → In m (upto (length w.nodes))
  all_nodes m alive = let s = node_is m alive in let r = node_within w.nodes m s.0 s.1 in in_upto m (length w.nodes) r.0 r.1

  pub moves_from : (n : ℕ) → Node n → (m : ℕ) × Moves w m
  moves_from n alive = by_node (node_is n alive) where
    by_node : (s : NodeState) × (node_at w.nodes n ≡ Some s) × (is_out s ≡ false) → (m : ℕ) × Moves w m
    by_node (s, at, on) = by_stands (stands w n s) refl where
      asked : (e : waits_at w.locks n s.asked ≡ true) (b : Asks w good n s at) → (m : ℕ) × Moves w m
      asked e b = elim (by_asks n s at e b) [
        | inl k ↦ k
        | inr k ↦ somebody Before (then w.geometry good.running.drive.base good.running.drive.own cat) (λ a p. never w.geometry good.running.drive.base good.running.drive.own cat a sound p) Node Stuck one (Moves w) held (upto (length w.nodes)) all_nodes n b.name alive k
      ]

      by_stands : (t : Bool) → stands w n s ≡ t → (m : ℕ) × Moves w m
      by_stands false e = (n, moves_on w n s at on e)
      by_stands true e = elim (stands_parts (waits_at w.locks n s.claims) (gives_back w n s) (waits_at w.locks n s.asked) e) [
        | inl f ↦ claims_move w good n s at f
        | inr f ↦ asked f.1 (asks w good n s at f.1)
      ]

pub somebody_moves : SomebodyMoves
somebody_moves w n good accepted alive = moves_from w good accepted n alive
