-- The cached blocks of all nodes as a node dies: under the locks that it held in PW nothing is current any more, and under all others
-- the value blocks stay.
use Rattle.std.proofs.Common.{◌≡◌, ◌≢◌, ◌≤◌, ◌&&◌, ◌||◌, ◌==◌, ◌∙◌, ◌⊎◌, ℕ, zero, suc, Bool, true, false, cond, not, List, [], ◌∷◌, Option, Some, None, Contains, MatchBool, find, option_map, is_some, refl, sym, ap, subst, inl, inr, arith}
use Rattle.std.specs.Prelude.{replicate}
use Rattle.std.specs.List.{list_any}
use Rattle.std.proofs.lemmas.Bool.{and_parts}
use Rattle.std.proofs.lemmas.Bool.Decides.{nat_tests}
use Rattle.lock_db.specs.declared.name.LockName.{LockName}
use Rattle.lock_db.specs.declared.name.LockName.TheVariants.{A}
use Rattle.lock_db.specs.declared.name.Owner.{Owner}
use Rattle.lock_db.specs.declared.askers.Asker.{Asker}
use Rattle.lock_db.specs.declared.askers.Standing.{Standing}
use Rattle.lock_db.specs.declared.askers.Standing.TheVariants.{Granted}
use Rattle.lock_db.specs.declared.resource.Resource.{Resource}
use Rattle.lock_db.specs.Names.{is_same, same_owner}
use Rattle.lock_db.specs.Queues.{is_writing, held, standing_of, without_node}
use Rattle.lock_db.specs.Resources.{is_writing_held, is_writer_of}
use Rattle.lock_db.specs.Tables.{IsTable, resource_at, dropped}
use Rattle.lock_db.specs.Laws.{stands_at, BlockIs, somebody}
use Rattle.lock_db.proofs.Names.{is_same-same}
use Rattle.lock_db.proofs.Owners.{same_owner-refl, same_owner-same}
use Rattle.lock_db.proofs.Rules.{Contains-cases, Contains-first, Contains-later}
use Rattle.lock_db.proofs.Steps.{IsTable-dropped}
use Rattle.lock_db.proofs.Blocks.{deaths-clear}
use Rattle.plain_cat.specs.declared.mode.Mode.{Mode}
use Rattle.plain_cat.specs.declared.mode.Mode.TheVariants.{NL, PW}
use Rattle.plain_cat.specs.declared.history.Entry.{Entry}
use Rattle.plain_cat.specs.declared.cat.Cat.{Cat}
use Rattle.plain_cat.specs.declared.cat.Open.{Open}
use Rattle.base_words.specs.Lists.{Has}
use Rattle.vol_spell.specs.Owners.{Owners}
use Rattle.base_words.proofs.Listing.{same_or_not}
use Rattle.vol_under.specs.UnderWay.{AreSole}
use Rattle.node_locks.specs.Held.{Row, system_of, joined, names_of, HoldsItsLocks, AreHeld, all_held}
use Rattle.node_locks.specs.Sequences.{first_sequence, second_sequence, guards_blocks}
use Rattle.node_locks.proofs.Keeping.{held_are_granted, holders_hold, rows_go_on}
use Rattle.node_cache.specs.Cached.{Cached}
use Rattle.op_law.specs.declared.need.PlanWrite.{PlanWrite}
use Rattle.op_law.specs.Laws.{held_in}
use Rattle.core_state.specs.Worlds.{NodeState, Plain, node_at, set_node, rows_of, rows_in, rows_at}
use Rattle.core_state.specs.Opens.{open_stands, open_now, AreOpensLocked}
use Rattle.core_state.specs.Raises.{is_first_part}
use Rattle.core_state.specs.Stores.{hold_writes, IsWriter, IsTrue, now_of, AreCached, AreHeldWrites}
use Rattle.core_state.specs.Goods.{held_by, nodes_under, Good}
use Rattle.core_state.specs.Deaths.{gone}
use Rattle.core_state.proofs.Nodes.{at_here, at_else}
use Rattle.core_state.proofs.Holding.{is_in_held, in_held_is, held_grows}
use Rattle.core_state.proofs.Running.{are_sole}
use Rattle.core_state.proofs.Keeping.{altered, LosesNothing}
use Rattle.core_state.proofs.Cached.{none_or_some, same_state, written_by, Goes, Stays, Spoils, IsEventOf}
use Rattle.core_state.proofs.CachedWrites.{raises_under, both_true}
use Rattle.core_state.proofs.CachedEvents.{all_cached}
use Rattle.core_state.proofs.CachedUses.{sole_writer, same_nat}
use Rattle.core_state.proofs.CachedAnswers.{none_raised}
use Rattle.core_state.proofs.CachedOthers.{rows_stand}
use Rattle.core_state.proofs.CachedBacks.{writes_pw, pw_writes}
use Rattle.base_words.proofs.Booleans.{nat_same}
use Rattle.plain_rules.proofs.Ordered.{or_right}
use Rattle.core_state.proofs.Lasting.{lock_named, goes_lasting}

-- a file system that has a lock in PW or EX is a writer of its node
system_writes : (n : ℕ) (xs : List Asker) (mode : Mode) → standing_of (system_of n) xs ≡ Some (Granted mode) → is_writing mode ≡ true → list_any (is_writer_of n) xs ≡ true
system_writes n [] mode e writes = absurd (let f : None ≡ Some (Granted mode) = e in cc)
system_writes n (x ∷ xs) mode e writes = by_test (same_owner x.owner (system_of n)) refl (λ f. system_writes n xs mode f writes) e where
  by_test : (b : Bool) → same_owner x.owner (system_of n) ≡ b → (standing_of (system_of n) xs ≡ Some (Granted mode) → list_any (is_writer_of n) xs ≡ true) → option_map (λ (y : Asker). y.standing) (cond b (Some x) (find (λ (y : Asker). same_owner y.owner (system_of n)) xs)) ≡ Some (Granted mode) → list_any (is_writer_of n) (x ∷ xs) ≡ true
  by_test true t rest f =
      let is : x.standing ≡ Granted mode = (let g : Some x.standing ≡ Some (Granted mode) = f in cc) in
      let node : (x.owner.node == n) ≡ true = nat_same x.owner.node n (ap (λ (o : Owner). o.node) (same_owner-same x.owner (system_of n) t)) in
      ap (λ b. b || list_any (is_writer_of n) xs) (both_true (x.owner.node == n) (is_writing_held (held x.standing)) node (ap (λ (k : Standing). is_writing_held (held k)) is ∙ writes))
  by_test false t rest f = or_right (is_writer_of n x) (list_any (is_writer_of n) xs) (rest f)

-- an asker of node n that has a lock in PW or EX
record HasWriter (n : ℕ) (xs : List Asker) : Type 0 where
  asker : Asker
  mode : Mode
  there : Contains xs asker
  node : asker.owner.node ≡ n
  holds : held asker.standing ≡ Some mode
  writes : is_writing mode ≡ true

has_writer : (n : ℕ) (xs : List Asker) → list_any (is_writer_of n) xs ≡ true → HasWriter n xs
has_writer n [] e = absurd (let f : false ≡ true = e in cc)
has_writer n (x ∷ xs) e = by_first (is_writer_of n x) refl (has_writer n xs) e where
  by_held : (o : Option Mode) → held x.standing ≡ o → is_writing_held o ≡ true → (mode : Mode) × (held x.standing ≡ Some mode) × (is_writing mode ≡ true)
  by_held None h t = absurd (let f : false ≡ true = t in cc)
  by_held (Some mode) h t = (mode, h, t)

  by_first : (b : Bool) → is_writer_of n x ≡ b → (list_any (is_writer_of n) xs ≡ true → HasWriter n xs) → (b || list_any (is_writer_of n) xs) ≡ true → HasWriter n (x ∷ xs)
  by_first true t rest f =
      let parts = and_parts (x.owner.node == n) (is_writing_held (held x.standing)) t in
      let k = by_held (held x.standing) refl parts.1 in
      record { asker = x; mode = k.0; there = Contains-first x xs; node = same_nat x.owner.node n parts.0; holds = k.1; writes = k.2 }
  by_first false t rest f = let k = rest f in record { asker = k.asker; mode = k.mode; there = Contains-later x xs k.asker k.there; node = k.node; holds = k.holds; writes = k.writes }

-- who is there stands there
there_stands : (xs : List Asker) (a : Asker) → Contains xs a → is_some (standing_of a.owner xs) ≡ true
there_stands [] a c = absurd (omega (arith, c.1))
there_stands (x ∷ xs) a c = elim (Contains-cases x xs a c) [ inl is ↦ first is | inr later ↦ by_test (same_owner x.owner a.owner) (there_stands xs a later) ] where
  first : x ≡ a → is_some (standing_of a.owner (x ∷ xs)) ≡ true
  first is = ap (λ b. is_some (option_map (λ (y : Asker). y.standing) (cond b (Some x) (find (λ (y : Asker). same_owner y.owner a.owner) xs)))) (subst (λ (y : Asker). same_owner x.owner y.owner ≡ true) is (same_owner-refl x.owner))

  by_test : (b : Bool) → is_some (standing_of a.owner xs) ≡ true → is_some (option_map (λ (y : Asker). y.standing) (cond b (Some x) (find (λ (y : Asker). same_owner y.owner a.owner) xs))) ≡ true
  by_test true rest = refl
  by_test false rest = rest

-- a channel has no lock on blocks
no_channel : (name : LockName) (o : Option Open) → guards_blocks name ≡ true → open_stands name o ≡ None
no_channel name None guards = refl
no_channel name (Some o) guards = by_test (is_same name (A o.file)) refl where
  by_test : (b : Bool) → is_same name (A o.file) ≡ b → cond b (Some (Granted o.mode)) None ≡ None
  by_test true e = absurd (let f : true ≡ false = sym guards ∙ ap guards_blocks (is_same-same name (A o.file) e) in cc)
  by_test false e = refl

-- so a node's writer of a lock that guards blocks is its file system
pub writer_holds : (t : List Resource) (n : ℕ) (name : LockName) (rows : List Row) (having : Owner → Option Open) → IsTable t → HoldsItsLocks t n rows → AreOpensLocked t having → guards_blocks name ≡ true
    → list_any (is_writer_of n) (resource_at name t).askers ≡ true → Has (held_in PW (all_held t n rows)) name
writer_holds t n name rows having table holds opens guards e = by_part h.asker.owner.part refl where
  h : HasWriter n (resource_at name t).askers
  h = has_writer n (resource_at name t).askers e

  not_low : h.mode ≡ NL → ⊥
  not_low is = absurd (let f : true ≡ false = sym h.writes ∙ ap is_writing is in cc)

  owner_is : (a : Owner) → a.node ≡ n → a.part ≡ 0 → a ≡ system_of n
  owner_is a node part = λ i. record { node = node i; part = part i }

  by_part : (k : ℕ) → h.asker.owner.part ≡ k → Has (held_in PW (all_held t n rows)) name
  by_part zero part =
      let has : Has (all_held t n rows) (name, h.mode) = holders_hold t n name h.asker h.mode rows table holds h.there (owner_is h.asker.owner h.node part) h.holds not_low in
      is_in_held PW (all_held t n rows) name (record { in_mode = h.mode; has = has; strong = pw_writes h.mode h.writes })
  by_part (suc k) part =
      let none : stands_at name h.asker.owner t ≡ None = opens name h.asker.owner (omega (arith, part)) ∙ no_channel name (having h.asker.owner) guards in
      absurd (let f : true ≡ false = sym (there_stands (resource_at name t).askers h.asker h.there) ∙ ap is_some none in cc)

-- and who holds it in PW is its writer
pub holder_writes : (t : List Resource) (n : ℕ) (name : LockName) (rows : List Row) → HoldsItsLocks t n rows → Has (held_in PW (all_held t n rows)) name → list_any (is_writer_of n) (resource_at name t).askers ≡ true
holder_writes t n name rows holds h =
    let k = in_held_is PW (all_held t n rows) name h in
    system_writes n (resource_at name t).askers k.in_mode ((held_are_granted t n (name, k.in_mode) rows holds).0 k.has) (writes_pw k.in_mode k.strong)

-- ---- the value block

-- another node is left at a lock
somebody_left : (n m : ℕ) → m ≢ n → (xs : List Asker) → is_some (standing_of (system_of m) xs) ≡ true → somebody (without_node n xs) ≡ true
somebody_left n m ne [] e = absurd (let f : false ≡ true = e in cc)
somebody_left n m ne (x ∷ xs) e = by_tests (same_owner x.owner (system_of m)) (x.owner.node == n) refl refl (somebody_left n m ne xs) e where
  some_one : (ys : List Asker) → somebody (x ∷ ys) ≡ true
  some_one ys = grind (arith, nat_tests)

  by_tests : (a b : Bool) → same_owner x.owner (system_of m) ≡ a → (x.owner.node == n) ≡ b → (is_some (standing_of (system_of m) xs) ≡ true → somebody (without_node n xs) ≡ true)
      → is_some (option_map (λ (y : Asker). y.standing) (cond a (Some x) (find (λ (y : Asker). same_owner y.owner (system_of m)) xs))) ≡ true
      → somebody (cond (not b) (x ∷ without_node n xs) (without_node n xs)) ≡ true
  by_tests true true p q rest f = absurd (ne (sym (ap (λ (o : Owner). o.node) (same_owner-same x.owner (system_of m) p)) ∙ same_nat x.owner.node n q))
  by_tests a false p q rest f = some_one (without_node n xs)
  by_tests false true p q rest f = rest f

-- its value block has its bytes still, and its mark where the node was no writer
death_block : (t : List Resource) (n m : ℕ) (rows : List Row) (name : LockName) → m ≢ n → IsTable t → HoldsItsLocks t m rows → Has (names_of (joined rows)) name
    → BlockIs (resource_at name t).value ((resource_at name t).valid && not (list_any (is_writer_of n) (resource_at name t).askers)) (resource_at name (dropped n t))
death_block t n m rows name ne table holds h =
    let r : Resource = resource_at name t in
    let new : Resource = resource_at name (dropped n t) in
    subst (λ b. MatchBool b (BlockIs r.value (r.valid && not (list_any (is_writer_of n) r.askers)) new) (BlockIs (replicate 16 0) true new)) (somebody_left n m ne r.askers (rows_stand t m rows name holds.in_order h)) (deaths-clear name n t table)

unmarked : (a b : Bool) → b ≡ true → (a && not b) ≡ false
unmarked true true e = refl
unmarked false true e = refl
unmarked a false e = absurd (let f : false ≡ true = e in cc)

marked : (a b : Bool) → b ≡ false → (a && not b) ≡ a
marked true false e = refl
marked false false e = refl
marked a true e = absurd (let f : true ≡ false = e in cc)

-- ---- the event

module _ (w : Plain) (good : Good w) (n : ℕ) (s : NodeState) (at : node_at w.nodes n ≡ Some s) (h : List Entry)
    (goes_on : (m : ℕ) (q : NodeState) → m ≢ n → node_at w.nodes m ≡ Some q → LosesNothing w.locks (dropped n w.locks) m q) (held_then : AreHeld (dropped n w.locks) (rows_at (set_node w.nodes n (gone s)))) where
  abbrev after : List Resource
  after = dropped n w.locks

  abbrev r : NodeState
  r = gone s

  abbrev v : Plain
  v = altered w after w.blocks (set_node w.nodes n r) h

  holds_of : (m : ℕ) (q : NodeState) → node_at w.nodes m ≡ Some q → HoldsItsLocks w.locks m (rows_of q)
  holds_of m q there = subst (λ (rs : List Row). HoldsItsLocks w.locks m rs) (ap rows_in there) (good.locked.1 m)

  -- the others hold what they held
  writer_on : (m : ℕ) (q : NodeState) (name : LockName) → m ≢ n → node_at w.nodes m ≡ Some q → IsWriter w m q name → IsWriter v m q name
  writer_on m q name ne there k = held_grows PW (held_by w.locks m q) (held_by after m q) name (λ l i. rows_go_on w.locks after m (rows_of q) l (goes_on m q ne there) i) k

  -- and their writes are under locks that they hold; the node has none
  pub death_writes : AreHeldWrites v
  death_writes m q x there has = elim (same_or_not m n) [
    | inl is ↦
        let here : q ≡ r = same_state q r (sym there ∙ ap (node_at v.nodes) is ∙ at_here w.nodes n r s at) in
        absurd (let f : Has (let ws : List PlanWrite = [] in ws) x = subst (λ (y : NodeState). Has (hold_writes y) x) here has in f)
    | inr ne ↦
        let was : node_at w.nodes m ≡ Some q = sym (at_else w.nodes n m r ne) ∙ there in
        writer_on m q x.lock ne was (good.writers m q x was has)
  ]

  sole : AreSole (nodes_under w.locks w.nodes)
  sole = are_sole w.locks w.nodes good.locked.0 good.locked.1

  sole_then : AreSole (nodes_under after (set_node w.nodes n r))
  sole_then = are_sole after (set_node w.nodes n r) (IsTable-dropped n w.locks good.locked.0) held_then

  raised_writer : (e : Cached) → 1 ≤ written_by w s e → IsWriter w n s e.lock
  raised_writer e some = let k = raises_under w.geometry e.lock e.lbn (hold_writes s) some in subst (IsWriter w n s) k.2 (good.writers n s k.0 at k.1)

  nothing_then : (e : Cached) → written_by v r e ≡ 0
  nothing_then e = none_raised w.geometry e.lock e.lbn

  death_event : IsEventOf w v n s r
  death_event = record {
    at = at;
    here = at_here w.nodes n r s at;
    others = λ m ne. at_else w.nodes n m r ne;
    geometry = refl;
    holders = λ m q name ne there k. writer_on m q name ne there k;
    lasting = λ m q name ne there k. goes_lasting w.locks after m q name (holds_of m q there) (goes_on m q ne there) k;
    sole = λ m q name there a b. sole_writer w sole good.writers n m s q name at there a b;
    sole_then = λ m q name there a b. sole_writer v sole_then death_writes n m r q name (at_here w.nodes n r s at) there a b;
    held_writes = raised_writer;
    held_then = λ e some. absurd (let f = nothing_then e in omega (arith, f, some));
  }

  death_goes : (m : ℕ) (q : NodeState) (e : Cached) → m ≢ n → node_at w.nodes m ≡ Some q → Has q.cache e → Goes w v n s r e ⊎ Spoils w v n s e
  death_goes m q e ne there has = by_mark (list_any (is_writer_of n) (resource_at e.lock w.locks).askers) refl where
    is : BlockIs (resource_at e.lock w.locks).value ((resource_at e.lock w.locks).valid && not (list_any (is_writer_of n) (resource_at e.lock w.locks).askers)) (resource_at e.lock after)
    is = death_block w.locks n m (rows_of q) e.lock ne good.locked.0 (holds_of m q there) (lock_named w.locks m (rows_of q) e.lock (holds_of m q there) (good.running.cached m q e there has).held)

    same : now_of v e ≡ now_of w e
    same = ap (λ (bytes : List ℕ). cond (is_first_part w.geometry e.lock e.lbn) (first_sequence bytes) (second_sequence bytes)) is.bytes_are

    by_mark : (b : Bool) → list_any (is_writer_of n) (resource_at e.lock w.locks).askers ≡ b → Goes w v n s r e ⊎ Spoils w v n s e
    by_mark true f = inr (record {
      writer = writer_holds w.locks n e.lock (rows_of s) (open_now good.running.cat w.nodes) good.locked.0 (holds_of n s at) good.running.opens ((good.nodes m q there).store.guarding e has) f;
      same = same;
      mark = is.mark_is ∙ unmarked (resource_at e.lock w.locks).valid (list_any (is_writer_of n) (resource_at e.lock w.locks).askers) f;
    })
    by_mark false f = inl (Stays same (is.mark_is ∙ marked (resource_at e.lock w.locks).valid (list_any (is_writer_of n) (resource_at e.lock w.locks).askers) f) few (λ k. absurd (no_writer k))) where
      no_writer : IsWriter w n s e.lock → ⊥
      no_writer k = absurd (let g : true ≡ false = sym (holder_writes w.locks n e.lock (rows_of s) (holds_of n s at) k) ∙ f in cc)

      few : written_by w s e ≤ written_by v r e
      few = elim (none_or_some (written_by w s e)) [ inl z ↦ (let a : written_by w s e ≡ 0 = z in omega (arith, a)) | inr some ↦ absurd (no_writer (raised_writer e some)) ]

  -- where entries of blocks that the node has not written stay true, all entries are in order after its death
  pub death_cached : (own other : Owners) (c d : Cat) → AreCached w own c → ((e : Cached) → written_by w s e ≡ 0 → IsTrue w own c e → IsTrue v other d e) → AreCached v other d
  death_cached own other c d all truth = all_cached w v n s r death_event own other c d all
      (λ m q e ne there has. record { goes = death_goes m q e ne there has; truth = λ none none_then t. truth e none t })
      (λ e has. absurd has)
