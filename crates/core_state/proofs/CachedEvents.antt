-- The cached blocks of all nodes after an event of one: what it is enough to show, and the entries that a look and a write make.
use Rattle.std.proofs.Common.{◌≡◌, ◌≢◌, ◌≤◌, ◌+◌, ◌∙◌, ◌⊎◌, ℕ, zero, suc, Bool, true, false, cond, not, List, [], ◌∷◌, Option, Some, None, take, filter, find, refl, sym, ap, subst, inl, inr, arith}
use Rattle.std.specs.Option.{option_map_or}
use Rattle.base_words.specs.Fields.{Block}
use Rattle.lock_db.specs.declared.name.LockName.{LockName}
use Rattle.lock_db.specs.Tables.{resource_at}
use Rattle.plain_cat.specs.declared.cat.Cat.{Cat}
use Rattle.base_words.specs.Lists.{Has}
use Rattle.vol_spell.specs.Owners.{Owners}
use Rattle.base_words.proofs.Listing.{same_or_not}
use Rattle.node_locks.specs.Held.{system_of, has_lock}
use Rattle.node_locks.specs.Sequences.{rise}
use Rattle.node_cache.specs.Cached.{Cached, cached, is_for, is_of, found, moved_to_front, used, kept, replaced}
use Rattle.op_law.specs.declared.need.PlanWrite.{PlanWrite}
use Rattle.core_state.specs.Worlds.{NodeState, Plain, node_at}
use Rattle.core_state.specs.Caches.{sequence_now, next_sequence, least_sequence}
use Rattle.core_state.specs.Stores.{hold_writes, part_raise, IsWriter, IsUnwritten, IsTrue, now_of, IsCachedAt, AreCached}
use Rattle.core_state.proofs.Cached.{same_state, rises_written, written_by, valid_at, Goes, Spoils, IsEventOf, other_stays, other_spoiled}

-- ---- all entries

-- what the event of node n makes of an entry of another node
pub record IsLeftBy (w v : Plain) (n : ℕ) (s r : NodeState) (own other : Owners) (c d : Cat) (e : Cached) : Type 0 where
  pub goes : Goes w v n s r e ⊎ Spoils w v n s e
  pub truth : written_by w s e ≡ 0 → written_by v r e ≡ 0 → IsTrue w own c e → IsTrue v other d e

module _ (w v : Plain) (n : ℕ) (s r : NodeState) (ev : IsEventOf w v n s r) (own other : Owners) (c d : Cat) (all : AreCached w own c) where
  pub all_cached : ((m : ℕ) (q : NodeState) (e : Cached) → m ≢ n → node_at w.nodes m ≡ Some q → Has q.cache e → IsLeftBy w v n s r own other c d e)
      → ((e : Cached) → Has r.cache e → IsCachedAt v other d n r e) → AreCached v other d
  all_cached others mine m q e at has = elim (same_or_not m n) [
    | inl is ↦
        let same : q ≡ r = same_state q r (sym at ∙ ap (node_at v.nodes) is ∙ ev.here) in
        subst (λ (x : NodeState). IsCachedAt v other d m x e) (sym same) (subst (λ k. IsCachedAt v other d k r e) (sym is) (mine e (subst (λ (x : NodeState). Has x.cache e) same has)))
    | inr ne ↦
        let there : node_at w.nodes m ≡ Some q = sym (ev.others m ne) ∙ at in
        let h = others m q e ne there has in
        elim h.goes [
          | inl g ↦ other_stays w v n s r ev e m q ne there own other c d (all m q e there has) h.truth g
          | inr g ↦ other_spoiled w v n s r ev e m q ne there own other c d (all m q e there has) h.truth g
        ]
  ]

-- ---- the entries of a cache that changes

has_filtered : (p : Cached → Bool) (es : List Cached) (e : Cached) → Has (filter p es) e → Has es e
has_filtered p [] e h = h
has_filtered p (x ∷ es) e h = by_test (p x) (has_filtered p es e) h where
  by_test : (b : Bool) → (Has (filter p es) e → Has es e) → Has (cond b (x ∷ filter p es) (filter p es)) e → Has (x ∷ es) e
  by_test true rest (inl is) = inl is
  by_test true rest (inr t) = inr (rest t)
  by_test false rest t = inr (rest t)

has_taken : (k : ℕ) (es : List Cached) (e : Cached) → Has (take k es) e → Has es e
has_taken zero es e h = absurd h
has_taken (suc k) [] e h = h
has_taken (suc k) (x ∷ es) e (inl is) = inl is
has_taken (suc k) (x ∷ es) e (inr t) = inr (has_taken k es e t)

-- a block that is kept, or one that was there
pub has_kept : (new : Cached) (es : List Cached) (e : Cached) → Has (kept new es) e → (new ≡ e) ⊎ Has es e
has_kept new es e (inl is) = inl is
has_kept new es e (inr t) = inr (has_filtered (λ x. not (is_for new.lbn x)) es e (has_taken 63 (filter (λ x. not (is_for new.lbn x)) es) e t))

pub some_entry : (a b : Cached) → Some a ≡ Some b → a ≡ b
some_entry a b g = ap entry_in g where
  entry_in : Option Cached → Cached
  entry_in None = a
  entry_in (Some y) = y

-- what is found is there
pub has_found : (p : Cached → Bool) (es : List Cached) (e : Cached) → find p es ≡ Some e → Has es e × (p e ≡ true)
has_found p [] e f = absurd (let x : None ≡ Some e = f in cc)
has_found p (x ∷ es) e f = by_test (p x) refl (has_found p es e) f where
  by_test : (b : Bool) → p x ≡ b → (find p es ≡ Some e → Has es e × (p e ≡ true)) → cond b (Some x) (find p es) ≡ Some e → Has (x ∷ es) e × (p e ≡ true)
  by_test true t rest g = let same : x ≡ e = some_entry x e g in (inl same, subst (λ y. p y ≡ true) same t)
  by_test false t rest g = let h = rest g in (inr h.0, h.1)

-- a use brings none in
pub has_used : (lbn : ℕ) (name : LockName) (seq : ℕ) (es : List Cached) (e : Cached) → Has (used lbn name seq es) e → Has es e
has_used lbn name seq es e h = by_found (found lbn name seq es) refl h where
  by_found : (o : Option Cached) → found lbn name seq es ≡ o → Has (option_map_or (λ x. moved_to_front x es) o es) e → Has es e
  by_found None f t = t
  by_found (Some x) f (inl is) = subst (Has es) is (has_found _ es x f).0
  by_found (Some x) f (inr t) = has_filtered (λ y. not (is_for x.lbn y)) es e t

-- an entry after one is written in its place
pub has_replaced : (new : Cached) (es : List Cached) (e : Cached) → Has (replaced new es) e → (new ≡ e) ⊎ (Has es e × (is_of new.lbn new.lock e ≡ false))
has_replaced new [] e h = absurd h
has_replaced new (x ∷ es) e (inl is) = by_test (is_of new.lbn new.lock x) refl is where
  by_test : (b : Bool) → is_of new.lbn new.lock x ≡ b → cond b new x ≡ e → (new ≡ e) ⊎ (Has (x ∷ es) e × (is_of new.lbn new.lock e ≡ false))
  by_test true t f = inl f
  by_test false t f = inr (inl f, subst (λ y. is_of new.lbn new.lock y ≡ false) f t)
has_replaced new (x ∷ es) e (inr t) = elim (has_replaced new es e t) [
  | inl is ↦ inl is
  | inr h ↦ inr (inr h.0, h.1)
]

-- ---- the entry that a look makes

module _ (w : Plain) (own : Owners) (c : Cat) (n : ℕ) (s : NodeState) (name : LockName) (lbn : ℕ) (b : Block) where
  abbrev now : ℕ
  now = sequence_now w.geometry w.locks name lbn

  -- under a valid value block
  pub kept_valid : (resource_at name w.locks).valid ≡ true → has_lock name (system_of n) w.locks ≡ true → IsTrue w own c (cached lbn name now b) → IsCachedAt w own c n s (cached lbn name now b)
  kept_valid valid held true_it = record {
    held = held;
    near = inl (omega arith);
    now = λ is un. true_it;
    ahead = λ a. absurd (let f : now ≡ now + 1 = a.seq in omega (arith, f));
  }

  -- and under one that is not valid, by who holds the lock in PW
  pub kept_ahead : (resource_at name w.locks).valid ≡ false → IsWriter w n s name → next_sequence now ≡ now + 1 → has_lock name (system_of n) w.locks ≡ true → IsTrue w own c (cached lbn name (next_sequence now) b)
      → IsCachedAt w own c n s (cached lbn name (next_sequence now) b)
  kept_ahead spoiled writer higher held true_it = record {
    held = held;
    near = inr (record { seq = higher; writer = writer; rises = subst (λ (v : Bool). 1 ≤ rise v (part_raise w.geometry name lbn (hold_writes s))) (sym spoiled) (grind arith) });
    now = λ is un. absurd (let f : true ≡ false = sym is.valid ∙ spoiled in cc);
    ahead = λ a. true_it;
  }

-- ---- the entry that a write makes anew

module _ (w : Plain) (own : Owners) (c : Cat) (n : ℕ) (s : NodeState) (v : PlanWrite) where
  abbrev at : ℕ
  at = sequence_now w.geometry w.locks v.lock v.lbn

  pub written_anew : IsWriter w n s v.lock → 1 ≤ part_raise w.geometry v.lock v.lbn (hold_writes s) → next_sequence at ≡ at + 1 → has_lock v.lock (system_of n) w.locks ≡ true
      → IsTrue w own c (cached v.lbn v.lock (next_sequence at) v.block) → IsCachedAt w own c n s (cached v.lbn v.lock (next_sequence at) v.block)
  written_anew writer some higher held true_it = record {
    held = held;
    near = inr (record { seq = higher; writer = writer; rises = rises_written (resource_at v.lock w.locks).valid (part_raise w.geometry v.lock v.lbn (hold_writes s)) some });
    now = λ is un. absurd (let f : next_sequence at ≡ at = is.same in omega (arith, f, higher));
    ahead = λ a. true_it;
  }

-- an entry with the sequence with which a block is kept now, or a later one, of who holds its lock in PW, is true
pub since_is_true : (w : Plain) (own : Owners) (c : Cat) (n : ℕ) (s : NodeState) (e : Cached) → IsCachedAt w own c n s e → next_sequence (now_of w e) ≡ now_of w e + 1 → IsUnwritten w n e
    → least_sequence (valid_at w e) (now_of w e) ≤ e.seq → IsTrue w own c e
since_is_true w own c n s e old higher un le = by_mark (valid_at w e) refl le where
  by_mark : (b : Bool) → valid_at w e ≡ b → least_sequence b (now_of w e) ≤ e.seq → IsTrue w own c e
  by_mark true mark le = elim old.near [
    | inl low ↦ old.now (record { valid = mark; same = let f : now_of w e ≤ e.seq = le in omega (arith, f, low) }) un
    | inr a ↦ old.ahead a
  ]
  by_mark false mark le = elim old.near [
    | inl low ↦ absurd (let f : next_sequence (now_of w e) ≤ e.seq = le in omega (arith, f, low, higher))
    | inr a ↦ old.ahead a
  ]
