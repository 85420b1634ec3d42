-- What a change of one home's table makes of all lanes.
use Rattle.std.proofs.Common.{◌≡◌, ◌≢◌, ◌==◌, ◌&&◌, inl, ℕ, ◌-◌, ◌%◌, ◌≤◌, ◌<◌, true, false, List, [], Option, Some, None, is_some, length, set, get_or, refl, arith, ap, sym, subst, ◌∙◌}
use Rattle.std.specs.List.{list_all}
use Rattle.std.proofs.Math.Nat.{mod-lt}
use Rattle.std.proofs.lemmas.List.{get_or-set_same, get_or-set_other, length-set}
use Rattle.lock_db.specs.declared.name.LockName.{LockName}
use Rattle.lock_db.specs.declared.name.Owner.{Owner}
use Rattle.lock_db.specs.declared.resource.Resource.{Resource}
use Rattle.lock_db.specs.Names.{is_same, same_owner}
use Rattle.lock_db.specs.Queues.{standing_of}
use Rattle.lock_db.specs.Tables.{resource_at, IsTable}
use Rattle.lock_db.specs.Laws.{LeavesOthers}
use Rattle.lock_db.proofs.Owners.{same_owner-same}
use Rattle.lock_db.proofs.Names.{is_same-same, is_same-refl}
use Rattle.dlm_core.specs.declared.messages.Message.{Message}
use Rattle.dlm_core.specs.declared.queue.Waiter.{Waiter}
use Rattle.dlm_core.specs.declared.blocks.Version.{Version}
use Rattle.dlm_core.specs.States.{State, home, home_at, recovery, table_at, hold_at, rank_of}
use Rattle.dlm_core.specs.Steps.{served, with_table}
use Rattle.dlm_core.specs.Lanes.{is_about, letters_of, waiters_of, IsLane, LaneOf, standing_at, is_addressed, is_kept, each_once, GoTogether, IsSound}
use Rattle.lock_db.proofs.Owners.{Served}
use Rattle.dlm_core.proofs.Serving.{PreLane, PreOf, served-lane, served-addressed}
use Rattle.dlm_core.proofs.Growing.{lane-served}

pub eq-of : (a b : ℕ) → (a == b) ≡ true → a ≡ b
eq-of a b e = grind arith

pub ne-of : (a b : ℕ) → (a == b) ≡ false → a ≢ b
ne-of a b e h = grind arith

pub home-low : (n : ℕ) (x : LockName) → 1 ≤ home n x
home-low n x = omega arith

pub home-high : (n : ℕ) (x : LockName) → 1 ≤ n → home n x ≤ n
home-high n x l = let k : rank_of x % n < n = mod-lt (rank_of x) (omega arith) in omega arith

pub table-here : (tables : List (List Resource)) (node : ℕ) (t : List Resource) → 1 ≤ node → node ≤ length tables → table_at node (set tables (node - 1) t) ≡ t
table-here tables node t l h = get_or-set_same tables (node - 1) t [] (omega arith)

pub table-other : (tables : List (List Resource)) (node k : ℕ) (t : List Resource) → k - 1 ≢ node - 1 → table_at k (set tables (node - 1) t) ≡ table_at k tables
table-other tables node k t n = get_or-set_other tables (node - 1) (k - 1) t [] n

pub tables-set : (tables : List (List Resource)) (node : ℕ) (t : List Resource) → 1 ≤ node → node ≤ length tables → IsTable t → ((k : ℕ) → IsTable (table_at k tables)) → (k : ℕ) → IsTable (table_at k (set tables (node - 1) t))
tables-set tables node t l h i all k =
    (elim (k - 1 == node - 1) as (λ b. (k - 1 == node - 1) ≡ b → IsTable (table_at k (set tables (node - 1) t))) [
      | true ↦ λ e. let is : k - 1 ≡ node - 1 = eq-of (k - 1) (node - 1) e in rw (is, table-here tables node t l h) i
      | false ↦ λ e. rw (table-other tables node k t (ne-of (k - 1) (node - 1) e)) (all k)
    ]) refl

-- the resource of a name after its home's table has become another
pub told-here : (n : ℕ) (x : LockName) (tables : List (List Resource)) (t : List Resource) → 1 ≤ n → length tables ≡ n → resource_at x (table_at (home n x) (set tables (home n x - 1) t)) ≡ resource_at x t
told-here n x tables t l h = ap (resource_at x) (table-here tables (home n x) t (home-low n x) (rw h (home-high n x l)))

pub told-other : (n : ℕ) (x y : LockName) (tables : List (List Resource)) (t : List Resource) → 1 ≤ n → length tables ≡ n → y ≢ x → LeavesOthers x (table_at (home n x) tables) t
    → resource_at y (table_at (home n y) (set tables (home n x - 1) t)) ≡ resource_at y (table_at (home n y) tables)
told-other n x y tables t l h d o =
    (elim (home n y - 1 == home n x - 1) as (λ b. (home n y - 1 == home n x - 1) ≡ b → resource_at y (table_at (home n y) (set tables (home n x - 1) t)) ≡ resource_at y (table_at (home n y) tables)) [
      | true ↦ λ e.
          let is : home n y - 1 ≡ home n x - 1 = eq-of (home n y - 1) (home n x - 1) e in
          let after : table_at (home n y) (set tables (home n x - 1) t) ≡ t = ap (λ (i : ℕ). get_or (set tables (home n x - 1) t) i []) is ∙ table-here tables (home n x) t (home-low n x) (rw h (home-high n x l)) in
          let before : table_at (home n y) tables ≡ table_at (home n x) tables = ap (λ (i : ℕ). get_or tables i []) is in
          ap (resource_at y) after ∙ o y d ∙ ap (resource_at y) (sym before)
      | false ↦ λ e. ap (resource_at y) (table-other tables (home n x) (home n y) t (ne-of (home n y - 1) (home n x - 1) e))
    ]) refl

-- what holds of a state before its queue is served
pub record IsPre (s : State) : Type 0 where
  pub some_node : 1 ≤ s.nodes
  pub each_has_one : length s.tables ≡ s.nodes
  pub each_has_master : length s.homes ≡ s.nodes
  pub tables_are : (node : ℕ) → IsTable (table_at node s.tables)
  pub lost : (node : ℕ) → is_some (home_at node s.homes).recovers ≡ true → table_at node s.tables ≡ []
  pub addressed : list_all (is_addressed s) s.mail ≡ true
  pub kept_back : list_all (is_kept s) s.kept ≡ true
  pub once : each_once s.holds ≡ true
  pub claimed_once : each_once s.claims ≡ true
  pub claimed_together : GoTogether s.claims
  pub lanes : (owner : Owner) (name : LockName) → PreOf (recovery name s) owner name s

pub served-sound : (s : State) → IsPre s → IsSound (served s)
served-sound s i = record {
  some_node = i.some_node;
  each_has_one = i.each_has_one;
  each_has_master = i.each_has_master;
  tables_are = i.tables_are;
  lost = i.lost;
  addressed = served-addressed s i.addressed;
  kept_back = i.kept_back;
  once = i.once;
  claimed_once = i.claimed_once;
  claimed_together = i.claimed_together;
  lanes = λ p y. served-lane (recovery y s) s p y (i.lanes p y);
}

-- All that is to be known of a call on a name that is not being recovered, for the state to stay sound. The call was the first of
-- its pair.
pub record Call (s : State) (m : Message) (ms : List Message) (t : List Resource) (q : List Waiter) : Type 0 where
  pub open_name : recovery m.name s ≡ None
  pub table : IsTable t
  pub others : LeavesOthers m.name (table_at (home s.nodes m.name) s.tables) t
  pub here : (p : Owner) → same_owner m.owner p ≡ false → Served (standing_at p m.name s) (standing_of p (resource_at m.name t).askers)
  pub queue : (p : Owner) (y : LockName) → is_about p y m ≡ false → waiters_of p y q ≡ waiters_of p y s.queue
  pub grants : (p : Owner) (y : LockName) → letters_of true p y ms ≡ letters_of true p y s.mail
  pub calls : (p : Owner) (y : LockName) → is_about p y m ≡ false → letters_of false p y ms ≡ letters_of false p y s.mail
  pub addressed : list_all (is_addressed s) ms ≡ true
  pub own : PreLane m.owner m.name (standing_of m.owner (resource_at m.name t).askers) (letters_of false m.owner m.name ms) (letters_of true m.owner m.name ms) (waiters_of m.owner m.name q)
      (hold_at m.owner m.name s.holds).belief (hold_at m.owner m.name s.holds).wait

-- the state in which the master has made the call
abbrev pub called_so : State → LockName → List Message → List Resource → List Waiter → List Version → State
called_so s x ms t q vs = with_table x t (record s { mail = ms; queue = q; versions = vs })

other-name : (p : Owner) (y : LockName) (m : Message) → is_same m.name y ≡ false → is_about p y m ≡ false
other-name p y m e = (elim (same_owner m.owner p) as (λ b. (b && is_same m.name y) ≡ false) [ true ↦ e | false ↦ refl ])

other-owner : (p : Owner) (m : Message) → same_owner m.owner p ≡ false → is_about p m.name m ≡ false
other-owner p m e = rw e refl

true-false : true ≡ false → ⊥
true-false e = cc

-- a lane of another name
lane-other : (o : Option ℕ) (s : State) (m : Message) (ms : List Message) (t : List Resource) (q : List Waiter) (vs : List Version) → IsSound s → Call s m ms t q → (p : Owner) (y : LockName) → is_same m.name y ≡ false
    → LaneOf o p y s → PreOf o p y (called_so s m.name ms t q vs)
lane-other None s m ms t q vs i c p y e lane =
    let d : y ≢ m.name = λ k. true-false (sym (rw k (is_same-refl m.name)) ∙ e) in
    let out = other-name p y m e in
    let st : standing_at p y (called_so s m.name ms t q vs) ≡ standing_at p y s = ap (λ (r : Resource). standing_of p r.askers) (told-other s.nodes m.name y s.tables t i.some_node i.each_has_one d c.others) in
    inl (rw (st, c.calls p y out, c.grants p y, c.queue p y out) lane)
lane-other (Some d) s m ms t q vs i c p y e lane =
    let out = other-name p y m e in
    record { lane = rw (c.calls p y out) lane.lane; no_grants = c.grants p y ∙ lane.no_grants; no_waiters = c.queue p y out ∙ lane.no_waiters }

-- a lane of the name, of its caller and of another owner
lane-own : (s : State) (m : Message) (ms : List Message) (t : List Resource) (q : List Waiter) (vs : List Version) → IsSound s → Call s m ms t q → PreOf None m.owner m.name (called_so s m.name ms t q vs)
lane-own s m ms t q vs i c =
    let st : standing_at m.owner m.name (called_so s m.name ms t q vs) ≡ standing_of m.owner (resource_at m.name t).askers = ap (λ (r : Resource). standing_of m.owner r.askers) (told-here s.nodes m.name s.tables t i.some_node i.each_has_one) in
    rw st c.own

lane-beside : (s : State) (m : Message) (ms : List Message) (t : List Resource) (q : List Waiter) (vs : List Version) → IsSound s → Call s m ms t q → (p : Owner) → same_owner m.owner p ≡ false
    → LaneOf None p m.name s → PreOf None p m.name (called_so s m.name ms t q vs)
lane-beside s m ms t q vs i c p e lane =
    let out = other-owner p m e in
    let st : standing_at p m.name (called_so s m.name ms t q vs) ≡ standing_of p (resource_at m.name t).askers = ap (λ (r : Resource). standing_of p r.askers) (told-here s.nodes m.name s.tables t i.some_node i.each_has_one) in
    let l : IsLane p m.name (standing_at p m.name s) (letters_of false p m.name ms) (letters_of true p m.name ms) (waiters_of p m.name q) (hold_at p m.name s.holds).belief (hold_at p m.name s.holds).wait =
    rw (c.calls p m.name out, c.grants p m.name, c.queue p m.name out) lane in
    rw st (lane-served (hold_at p m.name s.holds).wait (standing_of p (resource_at m.name t).askers) l (c.here p e))

lane-named : (s : State) (m : Message) (ms : List Message) (t : List Resource) (q : List Waiter) (vs : List Version) → IsSound s → Call s m ms t q → (p : Owner) → PreOf None p m.name (called_so s m.name ms t q vs)
lane-named s m ms t q vs i c p =
    let before : LaneOf None p m.name s = subst (λ (o : Option ℕ). LaneOf o p m.name s) c.open_name (i.lanes p m.name) in
    (elim (same_owner m.owner p) as (λ b. same_owner m.owner p ≡ b → PreOf None p m.name (called_so s m.name ms t q vs)) [
      | true ↦ λ f. subst (λ (z : Owner). PreOf None z m.name (called_so s m.name ms t q vs)) (same_owner-same m.owner p f) (lane-own s m ms t q vs i c)
      | false ↦ λ f. lane-beside s m ms t q vs i c p f before
    ]) refl

call-lanes : (s : State) (m : Message) (ms : List Message) (t : List Resource) (q : List Waiter) (vs : List Version) → IsSound s → Call s m ms t q → (p : Owner) (y : LockName) → PreOf (recovery y s) p y (called_so s m.name ms t q vs)
call-lanes s m ms t q vs i c p y =
    (elim (is_same m.name y) as (λ b. is_same m.name y ≡ b → PreOf (recovery y s) p y (called_so s m.name ms t q vs)) [
      | true ↦ λ e.
          let here : PreOf (recovery m.name s) p m.name (called_so s m.name ms t q vs) = subst (λ (o : Option ℕ). PreOf o p m.name (called_so s m.name ms t q vs)) (sym c.open_name) (lane-named s m ms t q vs i c p) in
          subst (λ (z : LockName). PreOf (recovery z s) p z (called_so s m.name ms t q vs)) (is_same-same m.name y e) here
      | false ↦ λ e. lane-other (recovery y s) s m ms t q vs i c p y e (i.lanes p y)
    ]) refl

-- a home whose table is not lost keeps it so
lost-set : (s : State) (x : LockName) (t : List Resource) → IsSound s → recovery x s ≡ None → (node : ℕ) → is_some (home_at node s.homes).recovers ≡ true → table_at node (set s.tables (home s.nodes x - 1) t) ≡ []
lost-set s x t i o node r =
    (elim (node - 1 == home s.nodes x - 1) as (λ b. (node - 1 == home s.nodes x - 1) ≡ b → table_at node (set s.tables (home s.nodes x - 1) t) ≡ []) [
      | true ↦ λ e.
          let is : node - 1 ≡ home s.nodes x - 1 = eq-of (node - 1) (home s.nodes x - 1) e in
          let same : (home_at node s.homes).recovers ≡ None = ap (λ (k : ℕ). (get_or s.homes k (record { master = 0; recovers = None })).recovers) is ∙ o in
          absurd (let f : true ≡ false = sym r ∙ ap is_some same in cc)
      | false ↦ λ e. table-other s.tables (home s.nodes x) node t (ne-of (node - 1) (home s.nodes x - 1) e) ∙ i.lost node r
    ]) refl

pub call-sound : (s : State) (m : Message) (ms : List Message) (t : List Resource) (q : List Waiter) (vs : List Version) → IsSound s → Call s m ms t q → IsPre (called_so s m.name ms t q vs)
call-sound s m ms t q vs i c = record {
  some_node = i.some_node;
  each_has_one = length-set s.tables (home s.nodes m.name - 1) t ∙ i.each_has_one;
  each_has_master = i.each_has_master;
  tables_are = tables-set s.tables (home s.nodes m.name) t (home-low s.nodes m.name) (rw i.each_has_one (home-high s.nodes m.name i.some_node)) c.table i.tables_are;
  lost = lost-set s m.name t i c.open_name;
  addressed = c.addressed;
  kept_back = i.kept_back;
  once = i.once;
  claimed_once = i.claimed_once;
  claimed_together = i.claimed_together;
  lanes = call-lanes s m ms t q vs i c;
}
