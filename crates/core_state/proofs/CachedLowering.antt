-- The cached blocks of all nodes where a node lowers V, with its value block raised by what its rules for space have written.
use Rattle.std.proofs.Common.{◌≡◌, ◌≢◌, ◌≤◌, ◌++◌, ◌∙◌, ℕ, true, false, not, List, [], Option, Some, None, length, take, refl, sym, ap, subst, inl, inr, arith}
use Rattle.std.proofs.lemmas.Bool.Decides.{nat_tests}
use Rattle.std.proofs.lemmas.List.{append-nil}
use Rattle.std.proofs.lemmas.List.Elements.{filter-append}
use Rattle.lock_db.specs.declared.name.LockName.{LockName}
use Rattle.lock_db.specs.declared.name.LockName.TheVariants.{X, V}
use Rattle.lock_db.specs.declared.resource.Resource.{Resource}
use Rattle.lock_db.specs.Laws.{BlockIs}
use Rattle.lock_db.specs.Names.{is_same}
use Rattle.lock_db.specs.Tables.{resource_at}
use Rattle.plain_cat.specs.declared.mode.Mode.{Mode}
use Rattle.plain_cat.specs.declared.mode.Mode.TheVariants.{PW}
use Rattle.plain_cat.specs.declared.command.Cmd.{Cmd}
use Rattle.plain_cat.specs.declared.cat.Cat.{Cat}
use Rattle.base_words.specs.Lists.{Has}
use Rattle.vol_spell.specs.Owners.{Owners}
use Rattle.base_words.proofs.Listing.{same_or_not, has_parted, has_first, has_second}
use Rattle.vol_under.specs.UnderWay.{AreSole}
use Rattle.node_locks.specs.Held.{system_of, has_lock, Row, names_of, without}
use Rattle.node_locks.specs.Sequences.{raised_block, guards_blocks}
use Rattle.node_locks.specs.declared.sequences.Raise.{Raise}
use Rattle.node_cache.specs.Cached.{Cached}
use Rattle.op_law.specs.declared.need.PlanWrite.{PlanWrite}
use Rattle.op_law.specs.Laws.{held_in, takes_lock}
use Rattle.core_space.specs.declared.run.Phase.{Phase}
use Rattle.core_state.specs.Worlds.{NodeState, Plain, node_at, set_node}
use Rattle.core_state.specs.Asks.{writes_now}
use Rattle.core_state.specs.Raises.{raise_of}
use Rattle.core_state.specs.Caches.{part_sequence}
use Rattle.core_state.specs.Searches.{AreUnderV}
use Rattle.core_state.specs.Small.{AllGoOn}
use Rattle.core_state.specs.Stores.{AreKept, HasStore, hold_writes, part_raise, IsWriter, AreCached, AreHeldWrites}
use Rattle.core_state.specs.Goods.{held_by, nodes_under, HasCommand, Good}
use Rattle.core_state.proofs.Nodes.{at_here, at_else}
use Rattle.core_state.proofs.Holding.{held_grows, held_named}
use Rattle.core_state.proofs.Naming.{same_name}
use Rattle.core_state.proofs.Keeping.{altered}
use Rattle.core_state.proofs.SmallWorlds.{all_go_on}
use Rattle.core_state.proofs.Cached.{none_or_some, same_state, written_by, Goes, Stays, IsEventOf, own_stays}
use Rattle.core_state.proofs.CachedWrites.{raises_under, raise_alike, part_raise_alike}
use Rattle.core_state.proofs.CachedEvents.{all_cached}
use Rattle.core_state.proofs.CachedUses.{sole_writer}
use Rattle.core_state.proofs.CachedAnswers.{Raised, back_goes}
use Rattle.core_state.proofs.CachedDone.{writes_made, made_named}
use Rattle.core_state.proofs.Midway.{locks_so}
use Rattle.core_state.proofs.SmallTables.{raise_little}

-- where nothing was written under a lock, its parts are not raised
none_under : (w : Plain) (name : LockName) (lbn : ℕ) (ws : List PlanWrite) → ((x : PlanWrite) → Has ws x → x.lock ≡ name → ⊥) → part_raise w.geometry name lbn ws ≡ 0
none_under w name lbn ws none = elim (none_or_some (part_raise w.geometry name lbn ws)) [
  | inl z ↦ z
  | inr some ↦ let k = raises_under w.geometry name lbn ws some in absurd (none k.0 k.1 k.2)
]

-- all sequences go on
pub all_higher : (w : Plain) → Good w → AllGoOn w
all_higher w good = all_go_on w good (let few : w.script.nodes ≤ 8 = few_nodes in let c = good.counted in omega (arith, few, c)) good.form.lines_fit where
  few_nodes : w.script.nodes ≤ 8
  few_nodes = let is = good.form.nodes in grind (arith, nat_tests)

-- ---- what a node keeps, with more locks on X or V, which do not count
pub store_more : (q p : Phase) (locks more : Row) (es : List Cached) → without X (without V more) ≡ [] → HasStore q locks es → AreKept p (locks ++ more) → HasStore p (locks ++ more) es
store_more q p locks more es none old keeps = record {
  kept = keeps;
  few = subst (λ (ls : Row). length ls ≤ 64) (sym same) old.few;
  cache = old.cache;
  guarding = old.guarding;
} where
  same : without X (without V (locks ++ more)) ≡ without X (without V locks)
  same = ap (without X) (filter-append (λ (l : LockName × Mode). not (is_same l.0 V)) locks more) ∙ filter-append (λ (l : LockName × Mode). not (is_same l.0 X)) (without V locks) (without V more) ∙ ap (λ (ls : Row). without X (without V locks) ++ ls) none ∙ append-nil (without X (without V locks))

-- ---- what the command has written

-- a write under a lock other than V and X
pub record IsApart (v : PlanWrite) : Type 0 where
  pub not_v : v.lock ≡ V → ⊥
  pub not_x : v.lock ≡ X → ⊥

module _ (w : Plain) (good : Good w) (n : ℕ) (s : NodeState) (at : node_at w.nodes n ≡ Some s) (not_asked : Has (names_of s.asked) V → ⊥) where
  no_x : (name : LockName) → Has (names_of s.seen.locks) name → name ≡ X → ⊥
  no_x name h e = by_cmd s.cmd (good.nodes n s at).command where
    by_cmd : (o : Option Cmd) → HasCommand w n s o → ⊥
    by_cmd None idle = absurd (let f : Has (names_of []) name = subst (λ (ls : Row). Has (names_of ls) name) idle.locks h in f)
    by_cmd (Some x) i = absurd (let f : false ≡ true = subst (λ (k : LockName). takes_lock x k ≡ true) e (i.own name h) in cc)

  -- where it has not asked for V
  pub command_apart : (v : PlanWrite) → Has (writes_made w good n s at) v → IsApart v
  command_apart v h =
      let held : Has (held_in PW s.seen.locks) v.lock = (made_named w good n s at v h).held in
      record {
        not_v = λ e. not_asked (held_named PW s.asked V (held_grows PW s.seen.locks s.asked V (locks_so w good n s at) (subst (Has (held_in PW s.seen.locks)) e held)));
        not_x = no_x v.lock (held_named PW s.seen.locks v.lock held);
      }

-- ---- the event

-- Node n, which stood as s and stands as r, has lowered V from PW, raised by all that its rules for space have written, and the value
-- blocks of all other locks but X stay. It and the others hold on what they hold of these.
pub record IsLoweredTo (w : Plain) (n : ℕ) (s r : NodeState) (t : List Resource) : Type 0 where
  pub at : node_at w.nodes n ≡ Some s
  pub under : AreUnderV s.run.writes
  pub made : take s.run.made s.run.writes ≡ s.run.writes
  pub apart : (x : PlanWrite) → Has (take s.done (writes_now s.tried s.plan)) x → IsApart x
  pub left : hold_writes r ≡ take s.done (writes_now s.tried s.plan)
  pub writer : IsWriter w n s V
  pub block : BlockIs (raised_block V (raise_of w.geometry V s.run.writes) (resource_at V w.locks)) true (resource_at V t)
  pub elsewhere : (name : LockName) → name ≢ V → name ≢ X → resource_at name t ≡ resource_at name w.locks
  pub holds : (name : LockName) → name ≢ V → name ≢ X → IsWriter w n s name → Has (held_in PW (held_by t n r)) name
  pub others : (m : ℕ) (q : NodeState) (l : LockName × Mode) → m ≢ n → node_at w.nodes m ≡ Some q → Has (held_by w.locks m q) l → Has (held_by t m q) l
  pub lasting : (name : LockName) → name ≢ X → has_lock name (system_of n) w.locks ≡ true → has_lock name (system_of n) t ≡ true
  pub others_lasting : (m : ℕ) (q : NodeState) (name : LockName) → m ≢ n → node_at w.nodes m ≡ Some q → has_lock name (system_of m) w.locks ≡ true → has_lock name (system_of m) t ≡ true
  pub cache : r.cache ≡ s.cache

module _ (w : Plain) (sole : AreSole (nodes_under w.locks w.nodes)) (writes : AreHeldWrites w) (n : ℕ) (s r : NodeState) (t : List Resource) (is : IsLoweredTo w n s r t) where
  abbrev v : Plain
  v = altered w t w.blocks (set_node w.nodes n r) w.history

  abbrev by_rules : List PlanWrite
  by_rules = take s.run.made s.run.writes

  abbrev by_command : List PlanWrite
  by_command = take s.done (writes_now s.tried s.plan)

  other_on : (m : ℕ) (q : NodeState) (name : LockName) → m ≢ n → node_at w.nodes m ≡ Some q → IsWriter w m q name → IsWriter v m q name
  other_on m q name ne there h = held_grows PW (held_by w.locks m q) (held_by t m q) name (λ l k. is.others m q l ne there k) h

  -- the writes of each node are under locks that it holds still
  pub lowered_writes : AreHeldWrites v
  lowered_writes m q x there has = elim (same_or_not m n) [
    | inl e ↦
        let here : q ≡ r = same_state q r (sym there ∙ ap (node_at v.nodes) e ∙ at_here w.nodes n r s is.at) in
        let old : Has by_command x = subst (λ (ws : List PlanWrite). Has ws x) is.left (subst (λ (y : NodeState). Has (hold_writes y) x) here has) in
        let apart : IsApart x = is.apart x old in
        subst (λ (k : ℕ). IsWriter v k q x.lock) (sym e) (subst (λ (y : NodeState). IsWriter v n y x.lock) (sym here) (is.holds x.lock apart.not_v apart.not_x (writes n s x is.at (has_second by_rules by_command x old))))
    | inr ne ↦
        let was : node_at w.nodes m ≡ Some q = sym (at_else w.nodes n m r ne) ∙ there in
        other_on m q x.lock ne was (writes m q x was has)
  ]

  raised_writer : (e : Cached) → 1 ≤ written_by w s e → IsWriter w n s e.lock
  raised_writer e some = let k = raises_under w.geometry e.lock e.lbn (hold_writes s) some in subst (IsWriter w n s) k.2 (writes n s k.0 is.at k.1)

  module _ (sole_then : AreSole (nodes_under t (set_node w.nodes n r))) (guarding : (m : ℕ) (q : NodeState) (e : Cached) → node_at w.nodes m ≡ Some q → Has q.cache e → guards_blocks e.lock ≡ true) (go : AllGoOn w) where
    lowered_event : IsEventOf w v n s r
    lowered_event = record {
      at = is.at;
      here = at_here w.nodes n r s is.at;
      others = λ m ne. at_else w.nodes n m r ne;
      geometry = refl;
      holders = λ m q name ne there h. other_on m q name ne there h;
      lasting = λ m q name ne there h. is.others_lasting m q name ne there h;
      sole = λ m q name there a b. sole_writer w sole writes n m s q name is.at there a b;
      sole_then = λ m q name there a b. sole_writer v sole_then lowered_writes n m r q name (at_here w.nodes n r s is.at) there a b;
      held_writes = raised_writer;
      held_then = λ e some. let k = raises_under w.geometry e.lock e.lbn (hold_writes r) some in subst (IsWriter v n r) k.2 (lowered_writes n r k.0 (at_here w.nodes n r s is.at) k.1);
    }

    -- under V it has written what its rules have
    raise_v : raise_of w.geometry V (hold_writes s) ≡ raise_of w.geometry V s.run.writes
    raise_v = raise_alike w.geometry V (hold_writes s) s.run.writes
        (λ x h lock. elim (has_parted by_rules by_command x h) [
          | inl a ↦ subst (λ (ws : List PlanWrite). Has ws x) is.made a
          | inr b ↦ absurd ((is.apart x b).not_v lock)
        ])
        (λ x h lock. has_first by_rules by_command x (subst (λ (ws : List PlanWrite). Has ws x) (sym is.made) h))

    block_v : BlockIs (raised_block V (raise_of w.geometry V (hold_writes s)) (resource_at V w.locks)) true (resource_at V t)
    block_v = subst (λ (k : Raise). BlockIs (raised_block V k (resource_at V w.locks)) true (resource_at V t)) (sym raise_v) is.block

    on_v : (e : Cached) → e.lock ≡ V → Goes w v n s r e
    on_v e lock = back_goes w n s r t w.blocks (set_node w.nodes n r) w.history e (go.first e.lock) (go.second e.lock) (raise_little _ _) (raise_little _ _) (raised_writer e) (ap guards_blocks lock)
        (none_under w e.lock e.lbn (hold_writes r) (λ x h under. (is.apart x (subst (λ (ws : List PlanWrite). Has ws x) is.left h)).not_v (under ∙ lock)))
        (Raised (subst (IsWriter w n s) (sym lock) is.writer) (subst (λ (k : LockName). BlockIs (raised_block k (raise_of w.geometry k (hold_writes s)) (resource_at k w.locks)) true (resource_at k t)) (sym lock) block_v))

    -- under another lock it has written what its command has
    elsewhere : (e : Cached) → e.lock ≢ V → e.lock ≢ X → Goes w v n s r e
    elsewhere e not_v not_x =
        let same : resource_at e.lock t ≡ resource_at e.lock w.locks = is.elsewhere e.lock not_v not_x in
        let wrote : part_raise w.geometry e.lock e.lbn (hold_writes s) ≡ part_raise w.geometry e.lock e.lbn (hold_writes r)
        = part_raise_alike w.geometry e.lock e.lbn (hold_writes s) (hold_writes r)
        (λ x h lock. elim (has_parted by_rules by_command x h) [
          | inl a ↦ absurd (not_v (sym lock ∙ is.under x (subst (λ (ws : List PlanWrite). Has ws x) is.made a)))
          | inr b ↦ subst (λ (ws : List PlanWrite). Has ws x) (sym is.left) b
        ])
        (λ x h lock. has_second by_rules by_command x (subst (λ (ws : List PlanWrite). Has ws x) is.left h)) in
        Stays (ap (part_sequence w.geometry e.lock e.lbn) same) (ap (λ (k : Resource). k.valid) same) (omega (arith, wrote)) (is.holds e.lock not_v not_x)

    no_x_guards : (e : Cached) → guards_blocks e.lock ≡ true → e.lock ≢ X
    no_x_guards e guards f = absurd (let g : false ≡ true = subst (λ (k : LockName). guards_blocks k ≡ true) f guards in cc)

    lowered_goes : (e : Cached) → guards_blocks e.lock ≡ true → Goes w v n s r e
    lowered_goes e guards = elim (same_name e.lock V) [ inl lock ↦ on_v e lock | inr ne ↦ elsewhere e ne (no_x_guards e guards) ]

    pub lowered_cached : (own : Owners) (c : Cat) → AreCached w own c → AreCached v own c
    lowered_cached own c all = all_cached w v n s r lowered_event own own c c all
        (λ m q e ne there has. record { goes = inl (lowered_goes e (guarding m q e there has)); truth = λ none none_then x. record { block = x.block; guard = x.guard; kind = x.kind } })
        (λ e has.
        let there : Has s.cache e = subst (λ (es : List Cached). Has es e) is.cache has in
        let guards = guarding n s e is.at there in
        own_stays w v n s r lowered_event e own own c c (all n s e is.at there) (is.lasting e.lock (no_x_guards e guards) (all n s e is.at there).held) (λ either few x. record { block = x.block; guard = x.guard; kind = x.kind }) (lowered_goes e guards))
