-- The cached blocks of all nodes over an event in which a node takes a lock.
use Rattle.std.proofs.Common.{◌≡◌, ◌≢◌, ◌≤◌, ◌+◌, ◌∙◌, ℕ, Bool, true, false, cond, List, Option, Some, None, IsSome, MatchBool, refl, sym, ap, subst, inl, inr, arith}
use Rattle.std.proofs.lemmas.Bool.Decides.{nat_tests}
use Rattle.std.specs.Prelude.{is_some, unwrap_or}
use Rattle.std.specs.Option.{option_and_then}
use Rattle.lock_db.specs.declared.name.LockName.{LockName}
use Rattle.lock_db.specs.declared.name.Owner.{Owner}
use Rattle.lock_db.specs.declared.resource.Resource.{Resource}
use Rattle.lock_db.specs.Queues.{lock_of, standing_of, settled_mode}
use Rattle.lock_db.specs.Resources.{conversion_writes, mode_held}
use Rattle.lock_db.specs.Tables.{resource_at, asked, converted}
use Rattle.lock_db.specs.Laws.{BlockIs, BlockStays}
use Rattle.lock_db.proofs.Blocks.{requests-keep, conversions-write, asked-leaves, converted-leaves}
use Rattle.plain_cat.specs.Modes.{rank}
use Rattle.plain_cat.specs.declared.mode.Mode.{Mode}
use Rattle.plain_cat.specs.declared.mode.Mode.TheVariants.{NL, CR, PW}
use Rattle.plain_cat.specs.declared.cat.Cat.{Cat}
use Rattle.base_words.specs.Lists.{Has}
use Rattle.vol_spell.specs.Owners.{Owners}
use Rattle.base_words.proofs.Listing.{same_or_not}
use Rattle.vol_under.specs.UnderWay.{AreSole}
use Rattle.node_locks.specs.Held.{has_lock, Row, system_of}
use Rattle.node_locks.specs.Taking.{taken, MayTake}
use Rattle.node_cache.specs.Cached.{Cached}
use Rattle.op_law.specs.declared.need.PlanWrite.{PlanWrite}
use Rattle.op_law.specs.Laws.{held_in}
use Rattle.core_state.specs.Worlds.{NodeState, Plain, node_at, set_node}
use Rattle.core_state.specs.Goods.{held_by, nodes_under, Good}
use Rattle.core_state.specs.Small.{AllGoOn}
use Rattle.core_state.specs.Raises.{is_first_part}
use Rattle.node_locks.specs.Sequences.{first_sequence, second_sequence, guards_blocks}
use Rattle.core_state.specs.Caches.{sequence_now, next_sequence}
use Rattle.core_state.specs.Stores.{hold_writes, part_raise, IsWriter, AreCached, AreHeldWrites}
use Rattle.core_state.proofs.Nodes.{at_here, at_else}
use Rattle.core_state.proofs.Holding.{strong_grows}
use Rattle.core_state.proofs.Naming.{same_name}
use Rattle.core_state.proofs.Keeping.{altered}
use Rattle.core_state.proofs.SmallWorlds.{lock_there, all_go_on}
use Rattle.core_state.proofs.Cached.{same_state, written_by, Goes, Stays, IsEventOf, own_stays}
use Rattle.core_state.proofs.CachedWrites.{raises_under}
use Rattle.core_state.proofs.CachedEvents.{all_cached}
use Rattle.core_state.proofs.CachedUses.{sole_writer}
use Rattle.core_state.proofs.CachedAnswers.{part_stays}

-- ---- no sequence stops

-- a part's sequence goes on by one
pub goes_higher : (w : Plain) → Good w → (name : LockName) (lbn : ℕ) → next_sequence (sequence_now w.geometry w.locks name lbn) ≡ sequence_now w.geometry w.locks name lbn + 1
goes_higher w good name lbn = by_part (is_first_part w.geometry name lbn) where
  go : AllGoOn w
  go = all_go_on w good (let few : w.script.nodes ≤ 8 = few_nodes in let c = good.counted in omega (arith, few, c)) good.form.lines_fit where
    few_nodes : w.script.nodes ≤ 8
    few_nodes = let is = good.form.nodes in grind (arith, nat_tests)

  by_part : (b : Bool) → next_sequence (cond b (first_sequence (resource_at name w.locks).value) (second_sequence (resource_at name w.locks).value)) ≡ cond b (first_sequence (resource_at name w.locks).value) (second_sequence (resource_at name w.locks).value) + 1
  by_part true = go.first name true 1 (omega arith)
  by_part false = go.second name true 1 (omega arith)

-- ---- the value blocks

-- from NL no conversion writes
nl_upward : (mode : Mode) → conversion_writes NL mode ≡ false
nl_upward mode = refl

converted_stays : (n : ℕ) (name : LockName) (mode : Mode) (t : List Resource) → lock_of (system_of n) (resource_at name t).askers ≡ Some NL
    → BlockStays (resource_at name t) (resource_at name (converted name (system_of n) mode (resource_at name t).value t))
converted_stays n name mode t lock =
    let new : Resource = resource_at name (converted name (system_of n) mode (resource_at name t).value t) in
    let held : mode_held (system_of n) (resource_at name t) ≡ NL = ap (λ (o : Option Mode). unwrap_or o NL) lock in
    let writes : conversion_writes (mode_held (system_of n) (resource_at name t)) mode ≡ false = ap (λ (m : Mode). conversion_writes m mode) held ∙ nl_upward mode in
    subst (λ (b : Bool). MatchBool b (BlockIs (resource_at name t).value true new) (BlockStays (resource_at name t) new)) writes
    (conversions-write name (system_of n) mode (resource_at name t).value t (ap is_some lock))

same_stays : (a b : Resource) → a ≡ b → BlockStays b a
same_stays a b e = record { bytes = ap (λ (r : Resource). r.value) e; mark = ap (λ (r : Resource). r.valid) e }

-- each stays as a lock is taken, which was in NL or not there
pub taken_stays : (n : ℕ) (name other : LockName) (mode : Mode) (t : List Resource) → MayTake name (system_of n) t → BlockStays (resource_at other t) (resource_at other (taken name (system_of n) mode t))
taken_stays n name other mode t may = by_lock (has_lock name (system_of n) t) refl where
  on_it : (b : Bool) → has_lock name (system_of n) t ≡ b → BlockStays (resource_at name t) (resource_at name (cond b (converted name (system_of n) mode (resource_at name t).value t) (asked name (system_of n) mode t)))
  on_it false e = (requests-keep name (system_of n) mode t).0
  on_it true e = elim may [
    | inl none ↦ absurd (let h = lock_there t n name (inl none) e in by_none (lock_of (system_of n) (resource_at name t).askers) h (no_lock none))
    | inr lock ↦ converted_stays n name mode t lock
  ] where
    no_lock : standing_of (system_of n) (resource_at name t).askers ≡ None → lock_of (system_of n) (resource_at name t).askers ≡ None
    no_lock none = ap (option_and_then settled_mode) none

    by_none : (o : Option Mode) → IsSome o → o ≡ None → ⊥
    by_none o some f = absurd (let g : true ≡ false = sym some ∙ ap is_some f in cc)

  elsewhere : other ≢ name → (b : Bool) → BlockStays (resource_at other t) (resource_at other (cond b (converted name (system_of n) mode (resource_at name t).value t) (asked name (system_of n) mode t)))
  elsewhere ne true = same_stays (resource_at other (converted name (system_of n) mode (resource_at name t).value t)) (resource_at other t) (converted-leaves name (system_of n) mode (resource_at name t).value t other ne)
  elsewhere ne false = same_stays (resource_at other (asked name (system_of n) mode t)) (resource_at other t) (asked-leaves name (system_of n) mode t other ne)

  by_lock : (b : Bool) → has_lock name (system_of n) t ≡ b → BlockStays (resource_at other t) (resource_at other (cond b (converted name (system_of n) mode (resource_at name t).value t) (asked name (system_of n) mode t)))
  by_lock b e = elim (same_name other name) [
    | inl is ↦ subst (λ (k : LockName). BlockStays (resource_at k t) (resource_at k (cond b (converted name (system_of n) mode (resource_at name t).value t) (asked name (system_of n) mode t)))) (sym is) (on_it b e)
    | inr ne ↦ elsewhere ne b
  ]

-- and so do those of all other names, whoever takes the lock
pub taken_elsewhere : (owner : Owner) (name other : LockName) (mode : Mode) (t : List Resource) → other ≢ name → BlockStays (resource_at other t) (resource_at other (taken name owner mode t))
taken_elsewhere owner name other mode t ne = by_lock (has_lock name owner t) where
  by_lock : (b : Bool) → BlockStays (resource_at other t) (resource_at other (cond b (converted name owner mode (resource_at name t).value t) (asked name owner mode t)))
  by_lock true = same_stays (resource_at other (converted name owner mode (resource_at name t).value t)) (resource_at other t) (converted-leaves name owner mode (resource_at name t).value t other ne)
  by_lock false = same_stays (resource_at other (asked name owner mode t)) (resource_at other t) (asked-leaves name owner mode t other ne)

-- ---- the event

-- what a node loses of what it holds is none in CR or more, the others stand as they stood, nobody loses a lock, and the value blocks of
-- the locks of blocks stay
pub record IsTakenIn (w : Plain) (n : ℕ) (s r : NodeState) (t : List Resource) : Type 0 where
  pub at : node_at w.nodes n ≡ Some s
  pub strong : (l : LockName × Mode) → rank CR ≤ rank l.1 → Has (held_by w.locks n s) l → Has (held_by t n r) l
  pub others : (m : ℕ) (q : NodeState) → m ≢ n → node_at w.nodes m ≡ Some q → held_by t m q ≡ held_by w.locks m q
  pub stays : (name : LockName) → guards_blocks name ≡ true → BlockStays (resource_at name w.locks) (resource_at name t)
  pub lasting : (m : ℕ) (name : LockName) → has_lock name (system_of m) w.locks ≡ true → has_lock name (system_of m) t ≡ true
  pub same : hold_writes r ≡ hold_writes s
  pub cache : r.cache ≡ s.cache

module _ (w : Plain) (sole : AreSole (nodes_under w.locks w.nodes)) (writes : AreHeldWrites w) (n : ℕ) (s r : NodeState) (t : List Resource) (is : IsTakenIn w n s r t) where
  abbrev v : Plain
  v = altered w t w.blocks (set_node w.nodes n r) w.history

  writer_on : (name : LockName) → IsWriter w n s name → IsWriter v n r name
  writer_on name h = strong_grows PW (held_by w.locks n s) (held_by t n r) name (omega arith) is.strong h

  other_on : (m : ℕ) (q : NodeState) (name : LockName) → m ≢ n → node_at w.nodes m ≡ Some q → IsWriter w m q name → IsWriter v m q name
  other_on m q name ne there h = subst (λ (ls : Row). Has (held_in PW ls) name) (sym (is.others m q ne there)) h

  -- the writes of each node are under locks that it holds still
  pub taken_writes : AreHeldWrites v
  taken_writes m q x there has = elim (same_or_not m n) [
    | inl e ↦
        let here : q ≡ r = same_state q r (sym there ∙ ap (node_at v.nodes) e ∙ at_here w.nodes n r s is.at) in
        let old : Has (hold_writes s) x = subst (λ (ws : List PlanWrite). Has ws x) is.same (subst (λ (y : NodeState). Has (hold_writes y) x) here has) in
        subst (λ (k : ℕ). IsWriter v k q x.lock) (sym e) (subst (λ (y : NodeState). IsWriter v n y x.lock) (sym here) (writer_on x.lock (writes n s x is.at old)))
    | inr ne ↦
        let was : node_at w.nodes m ≡ Some q = sym (at_else w.nodes n m r ne) ∙ there in
        other_on m q x.lock ne was (writes m q x was has)
  ]

  raised_writer : (e : Cached) → 1 ≤ written_by w s e → IsWriter w n s e.lock
  raised_writer e some = let k = raises_under w.geometry e.lock e.lbn (hold_writes s) some in subst (IsWriter w n s) k.2 (writes n s k.0 is.at k.1)

  same_raised : (e : Cached) → written_by v r e ≡ written_by w s e
  same_raised e = ap (part_raise w.geometry e.lock e.lbn) is.same

  module _ (sole_then : AreSole (nodes_under t (set_node w.nodes n r))) (guarding : (m : ℕ) (q : NodeState) (e : Cached) → node_at w.nodes m ≡ Some q → Has q.cache e → guards_blocks e.lock ≡ true) where
    taken_event : IsEventOf w v n s r
    taken_event = record {
      at = is.at;
      here = at_here w.nodes n r s is.at;
      others = λ m ne. at_else w.nodes n m r ne;
      geometry = refl;
      holders = λ m q name ne there h. other_on m q name ne there h;
      lasting = λ m q name ne there h. is.lasting m name h;
      sole = λ m q name there a b. sole_writer w sole writes n m s q name is.at there a b;
      sole_then = λ m q name there a b. sole_writer v sole_then taken_writes n m r q name (at_here w.nodes n r s is.at) there a b;
      held_writes = raised_writer;
      held_then = λ e some. writer_on e.lock (raised_writer e (subst (λ k. 1 ≤ k) (same_raised e) some));
    }

    taken_goes : (e : Cached) → guards_blocks e.lock ≡ true → Goes w v n s r e
    taken_goes e guards =
        let b : BlockStays (resource_at e.lock w.locks) (resource_at e.lock t) = is.stays e.lock guards in
        Stays (part_stays w.geometry e.lock e.lbn (resource_at e.lock w.locks) (resource_at e.lock t) b) b.mark (let f = same_raised e in omega (arith, f)) (writer_on e.lock)

    pub taken_cached : (own : Owners) (c : Cat) → AreCached w own c → AreCached v own c
    taken_cached own c all = all_cached w v n s r taken_event own own c c all
        (λ m q e ne there has. record { goes = inl (taken_goes e (guarding m q e there has)); truth = λ none none_then x. record { block = x.block; guard = x.guard; kind = x.kind } })
        (λ e has.
        let there : Has s.cache e = subst (λ (es : List Cached). Has es e) is.cache has in
        own_stays w v n s r taken_event e own own c c (all n s e is.at there) (is.lasting n e.lock (all n s e is.at there).held) (λ either few x. record { block = x.block; guard = x.guard; kind = x.kind }) (taken_goes e (guarding n s e is.at there)))
