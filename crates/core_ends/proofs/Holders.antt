-- Who waits for a lock waits for a node that is not over and holds that lock.
use Rattle.std.proofs.Common.{◌≡◌, ◌≢◌, ◌==◌, ◌&&◌, ◌||◌, ◌≤◌, ◌++◌, ◌⊎◌, not, ℕ, zero, suc, Bool, true, false, cond, List, [], ◌∷◌, Option, Some, None, Contains, find, option_map, option_and_then, refl, sym, ap, subst, ◌∙◌, inl, inr, arith}
use Rattle.std.specs.List.{list_any}
use Rattle.plain_cat.specs.Modes.{compatible_modes}
use Rattle.plain_cat.specs.declared.mode.Mode.{Mode}
use Rattle.plain_cat.specs.declared.mode.Mode.TheVariants.{NL}
use Rattle.lock_db.specs.declared.name.LockName.{LockName}
use Rattle.lock_db.specs.declared.name.LockName.TheVariants.{A}
use Rattle.lock_db.specs.declared.name.Owner.{Owner}
use Rattle.lock_db.specs.declared.askers.Standing.TheVariants.{Granted}
use Rattle.lock_db.specs.declared.askers.Asker.{Asker}
use Rattle.lock_db.specs.Names.{same_owner}
use Rattle.lock_db.specs.Queues.{held, wanted, converts, waits, is_converting, is_waiting, is_queued, or_else, head_of, goes_beside, mode_of, holds_up}
use Rattle.lock_db.specs.Tables.{resource_at, all_together, IsSettled}
use Rattle.lock_db.specs.Laws.{stands_at}
use Rattle.lock_db.proofs.Lists.{find-passes, or-if_right}
use Rattle.lock_db.proofs.Owners.{same_owner-refl, same_owner-same}
use Rattle.lock_db.proofs.Together.{all_together-tail}
use Rattle.lock_db.proofs.Rules.{Contains-cases, Contains-first, all_together-once}
use Rattle.lock_db.proofs.Steps.{IsSettled-at}
use Rattle.base_words.specs.Lists.{Has}
use Rattle.node_locks.specs.Held.{system_of, Row, IsGranted, HoldsItsLocks, waits_at, all_held}
use Rattle.node_locks.specs.HeldLaws.{IsHeldUpAt}
use Rattle.node_locks.proofs.Converting.{beside-nl}
use Rattle.node_locks.proofs.Keeping.{held_are_granted, who_waits_is_held_up, holders_hold}
use Rattle.core_state.specs.Worlds.{NodeState, Plain, node_at, rows_of, rows_in, rows_at}
use Rattle.core_state.specs.Opens.{open_now}
use Rattle.core_state.specs.Stores.{IsGone}
use Rattle.core_state.specs.Goods.{Good, held_by}
use Rattle.core_state.specs.Events.{is_out}
use Rattle.core_state.proofs.Opens.{no_open}
use Rattle.core_state.proofs.CachedUses.{same_nat}

-- ---- the askers of a resource

find_contains : (p : Asker → Bool) (xs : List Asker) (a : Asker) → find p xs ≡ Some a → Contains xs a
find_contains p [] a e = absurd (let f : None ≡ Some a = e in cc)
find_contains p (x ∷ xs) a e = by_test (p x) e (find_contains p xs a) where
  by_test : (b : Bool) → cond b (Some x) (find p xs) ≡ Some a → (find p xs ≡ Some a → Contains xs a) → Contains (x ∷ xs) a
  by_test true f rest = let g : Some x ≡ Some a = f in let h : x ≡ a = cc in subst (λ (y : Asker). Contains (x ∷ xs) y) h (Contains-first x xs)
  by_test false f rest = let r = rest f in (suc r.0, (let l = r.1 in omega arith), r.2)

any_of : (p : Asker → Bool) (xs : List Asker) (a : Asker) → Contains xs a → p a ≡ true → list_any p xs ≡ true
any_of p [] a c e = absurd (let l = c.1 in omega arith)
any_of p (x ∷ xs) a c e = by_place (Contains-cases x xs a c) (λ k. any_of p xs a k e) where
  by_place : (x ≡ a) ⊎ Contains xs a → (Contains xs a → list_any p xs ≡ true) → (p x || list_any p xs) ≡ true
  by_place (inl f) rest = ap (λ b. b || list_any p xs) (ap p f ∙ e)
  by_place (inr k) rest = or-if_right (p x) (list_any p xs) (rest k)

-- the one asker of an owner tells how it stands
found_own : (xs : List Asker) (a : Asker) (owner : Owner) → all_together xs ≡ true → Contains xs a → a.owner ≡ owner → find (λ (x : Asker). same_owner x.owner owner) xs ≡ Some a
found_own [] a owner e c o = absurd (let l = c.1 in omega arith)
found_own (x ∷ xs) a owner e c o = by_test (same_owner x.owner owner) refl (λ k. found_own xs a owner (all_together-tail x xs e) k o) where
  by_test : (b : Bool) → same_owner x.owner owner ≡ b → (Contains xs a → find (λ (y : Asker). same_owner y.owner owner) xs ≡ Some a) → cond b (Some x) (find (λ (y : Asker). same_owner y.owner owner) xs) ≡ Some a
  by_test true s rest = ap Some (all_together-once (x ∷ xs) e x a (Contains-first x xs) c (same_owner-same x.owner owner s ∙ sym o))
  by_test false s rest = elim (Contains-cases x xs a c) [
    | inl h ↦ absurd (
        let own : x.owner ≡ owner = ap (λ (y : Asker). y.owner) h ∙ o in
        let t : same_owner x.owner owner ≡ true = subst (λ (q : Owner). same_owner x.owner q ≡ true) own (same_owner-refl x.owner) in
        let z : true ≡ false = sym t ∙ s in
        cc)
    | inr k ↦ rest k
  ]

-- who is served next is one of them, and waits
head_there : (xs : List Asker) (a : Asker) → head_of xs ≡ Some a → Contains xs a × (is_queued a.standing ≡ true)
head_there xs a e = by_first (find is_converting xs) refl e where
  by_second : (o : Option Asker) → find is_waiting xs ≡ o → o ≡ Some a → Contains xs a × (is_queued a.standing ≡ true)
  by_second o f g =
      let is : find is_waiting xs ≡ Some a = f ∙ g in
      (find_contains is_waiting xs a is, or-if_right (converts a.standing) (waits a.standing) (find-passes is_waiting xs a is))

  by_first : (o : Option Asker) → find is_converting xs ≡ o → or_else o (find is_waiting xs) ≡ Some a → Contains xs a × (is_queued a.standing ≡ true)
  by_first None f g = by_second (find is_waiting xs) refl g
  by_first (Some b) f g =
      let h : Some b ≡ Some a = g in
      let same : b ≡ a = cc in
      let is : find is_converting xs ≡ Some a = f ∙ ap Some same in
      (find_contains is_converting xs a is, ap (λ t. t || waits a.standing) (find-passes is_converting xs a is))

module _ (w : Plain) (good : Good w) where
  -- the file system of a node that is not over holds a lock, and holds up another one by it
  pub record IsHolder (n : ℕ) (name : LockName) : Type 0 where
    pub node : ℕ
    pub state : NodeState
    pub at : node_at w.nodes node ≡ Some state
    pub on : is_out state ≡ false
    pub other : node ≢ n
    pub mode : Mode
    pub has : Has (held_by w.locks node state) (name, mode)
    pub strong : mode ≢ NL
    pub up : holds_up (system_of node) (resource_at name w.locks).askers ≡ true

  -- a node that is out has nothing
  gone_has : (m : ℕ) (q : NodeState) (l : LockName × Mode) → IsGone q.cmd q.asked q.kept q.claims q.stock q.cache → Has (held_by w.locks m q) l → ⊥
  gone_has m q l g h = subst (λ (rs : List Row). Has (all_held w.locks m rs) l) (λ i. g.kept i ∷ (g.asked i ∷ (g.claims i ∷ []))) h

  out_has : (m : ℕ) (q : NodeState) (l : LockName × Mode) → node_at w.nodes m ≡ Some q → is_out q ≡ true → Has (held_by w.locks m q) l → ⊥
  out_has m q l at out h = by_parts q.over refl out where
    by_parts : (b : Bool) → q.over ≡ b → (b || q.past.dead) ≡ true → ⊥
    by_parts true e f = gone_has m q l ((good.nodes m q at).over e).0 h
    by_parts false e f = gone_has m q l ((good.nodes m q at).gone f) h

  module _ (n : ℕ) (s : NodeState) (l : LockName × Mode) (front : Row) (at : node_at w.nodes n ≡ Some s) (row : Has (rows_of s) (front ++ l ∷ [])) (waiting : waits_at w.locks n (front ++ l ∷ []) ≡ true) (far : (f : ℕ) → l.0 ≢ A f) where
    abbrev xs : List Asker
    xs = (resource_at l.0 w.locks).askers

    settled : IsSettled xs
    settled = IsSettled-at l.0 w.locks good.locked.0

    mine : HoldsItsLocks w.locks n (rows_of s)
    mine = subst (λ (rs : List Row). HoldsItsLocks w.locks n rs) (ap rows_in at) (good.locked.1 n)

    up : IsHeldUpAt w.locks n l.0
    up = who_waits_is_held_up w.locks n l front (rows_of s) good.locked.0 mine row waiting

    -- it is no channel
    no_channel : (a : Asker) → Contains xs a → 1 ≤ a.owner.part → ⊥
    no_channel a c le =
        let found : stands_at l.0 a.owner w.locks ≡ Some a.standing = ap (option_map (λ (y : Asker). y.standing)) (found_own xs a a.owner settled.together c refl) in
        let none : stands_at l.0 a.owner w.locks ≡ None = good.running.opens l.0 a.owner le ∙ no_open l.0 far (open_now good.running.cat w.nodes a.owner) in
        let z : Some a.standing ≡ None = sym found ∙ none in
        absurd (cc)

    its_system : (a : Asker) → Contains xs a → a.owner ≡ system_of a.owner.node
    its_system a c = by_part a.owner.part refl where
      by_part : (k : ℕ) → a.owner.part ≡ k → a.owner ≡ system_of a.owner.node
      by_part zero e = λ i. record { node = a.owner.node; part = e i }
      by_part (suc k) e = absurd (no_channel a c (omega arith))

    -- who holds it up is not it itself
    abbrev m : ℕ
    m = up.holder.owner.node

    is_system : up.holder.owner ≡ system_of m
    is_system = its_system up.holder up.stands

    stands_there : stands_at l.0 (system_of m) w.locks ≡ Some up.holder.standing
    stands_there = ap (option_map (λ (y : Asker). y.standing)) (found_own xs up.holder (system_of m) settled.together up.stands is_system)

    apart : m ≢ n
    apart e = up.another (is_system ∙ ap system_of e)

    module _ (mode : Mode) (has_mode : held up.holder.standing ≡ Some mode) where
      against : compatible_modes (wanted up.next.standing) mode ≡ false
      against = sym (ap (goes_beside (wanted up.next.standing)) has_mode) ∙ up.against

      strong : mode ≢ NL
      strong e = absurd (let f : true ≡ false = sym (beside-nl (wanted up.next.standing)) ∙ ap (compatible_modes (wanted up.next.standing)) (sym e) ∙ against in cc)

      has_it : Has (all_held w.locks m (rows_at w.nodes m)) (l.0, mode)
      has_it = holders_hold w.locks m l.0 up.holder mode (rows_at w.nodes m) good.locked.0 (good.locked.1 m) up.stands is_system has_mode strong

      granted : IsGranted w.locks m (l.0, mode)
      granted = (held_are_granted w.locks m (l.0, mode) (rows_at w.nodes m) (good.locked.1 m)).0 has_it

      next_there : Contains xs up.next × (is_queued up.next.standing ≡ true)
      next_there = head_there xs up.next up.is_next

      -- who is served next is of another node
      next_apart : up.next.owner.node ≡ m → ⊥
      next_apart e =
          let own : up.next.owner ≡ system_of m = its_system up.next next_there.0 ∙ ap system_of e in
          let found : stands_at l.0 (system_of m) w.locks ≡ Some up.next.standing = ap (option_map (λ (y : Asker). y.standing)) (found_own xs up.next (system_of m) settled.together next_there.0 own) in
          let is : Some up.next.standing ≡ Some (Granted mode) = sym found ∙ granted in
          let same : up.next.standing ≡ Granted mode = cc in
          absurd (let z : true ≡ false = sym next_there.1 ∙ ap is_queued same in cc)

      holds_next : (b : Bool) → (up.next.owner.node == m) ≡ b → (is_queued up.next.standing && (not b && not (goes_beside (wanted up.next.standing) (mode_of (system_of m) xs)))) ≡ true
      holds_next true e = absurd (next_apart (same_nat up.next.owner.node m e))
      holds_next false e =
          let stands : mode_of (system_of m) xs ≡ held up.holder.standing = ap (option_and_then held) stands_there in
          let no : goes_beside (wanted up.next.standing) (mode_of (system_of m) xs) ≡ false = ap (goes_beside (wanted up.next.standing)) stands ∙ up.against in
          λ i. next_there.1 i && not (no i)

      up_by : holds_up (system_of m) xs ≡ true
      up_by = any_of (λ (a : Asker). is_queued a.standing && (not (a.owner.node == m) && not (goes_beside (wanted a.standing) (mode_of (system_of m) xs)))) xs up.next next_there.0 (holds_next (up.next.owner.node == m) refl)

      by_node : (o : Option NodeState) → node_at w.nodes m ≡ o → Has (all_held w.locks m (rows_in o)) (l.0, mode) → IsHolder n l.0
      by_node None e h = absurd h
      by_node (Some q) e h = by_out (is_out q) refl where
        by_out : (b : Bool) → is_out q ≡ b → IsHolder n l.0
        by_out true f = absurd (out_has m q (l.0, mode) e f h)
        by_out false f = record { node = m; state = q; at = e; on = f; other = apart; mode = mode; has = h; strong = strong; up = up_by }

    by_held : (o : Option Mode) → held up.holder.standing ≡ o → IsHolder n l.0
    by_held None e = absurd (let f : true ≡ false = sym (ap (goes_beside (wanted up.next.standing)) e) ∙ up.against in cc)
    by_held (Some mode) e = by_node mode e (node_at w.nodes m) refl (has_it mode e)

    pub holder : IsHolder n l.0
    holder = by_held (held up.holder.standing) refl
