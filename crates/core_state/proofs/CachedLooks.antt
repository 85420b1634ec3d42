-- The cache of a node after a look, a use and a write: what it is, and what its entries are.
use Rattle.std.proofs.Common.{◌≡◌, ◌⊎◌, ◌≤◌, ◌+◌, ◌++◌, ◌∙◌, ℕ, Bool, true, false, List, [], ◌∷◌, Option, Some, None, filter, length, not, cond, refl, sym, ap, subst, inl, inr, arith}
use Rattle.std.specs.List.{list_any}
use Rattle.base_words.specs.Fields.{Block}
use Rattle.lock_db.specs.declared.name.LockName.{LockName}
use Rattle.lock_db.specs.declared.name.LockName.TheVariants.{S, Q, X, V}
use Rattle.lock_db.specs.Names.{is_same}
use Rattle.lock_db.specs.Tables.{resource_at, IsTable}
use Rattle.plain_cat.specs.declared.cat.Cat.{Cat}
use Rattle.plain_cat.specs.declared.mode.Mode.{Mode}
use Rattle.vol_spell.specs.declared.owner.Owner.{Owner}
use Rattle.vol_spell.specs.declared.owner.Owner.TheVariants.{Free, InFile, Outside, Leaked}
use Rattle.base_words.specs.Lists.{Has}
use Rattle.vol_spell.specs.Owners.{Owners}
use Rattle.vol_parts.specs.declared.geometry.Geometry.{Geometry}
use Rattle.vol_parts.specs.declared.geometry.Part.{Part}
use Rattle.vol_parts.specs.declared.geometry.Part.TheVariants.{Header, IndexBitmap, Storage, Quota}
use Rattle.vol_parts.specs.Parts.{part_of}
use Rattle.vol_spell.specs.Reading.{owner_at}
use Rattle.vol_under.specs.Guards.{Guard, Lock, Stock, guard_by, guard_of}
use Rattle.node_cache.specs.Cached.{Cached, cached, IsCache, is_since, used, kept, replaced}
use Rattle.node_cache.proofs.Entries.{cache-kept, cache-used, cache-replaced}
use Rattle.node_locks.specs.Held.{system_of, has_lock, HoldsItsLocks, without}
use Rattle.op_law.specs.declared.need.PlanWrite.{PlanWrite}
use Rattle.core_space.specs.declared.run.Phase.{Phase}
use Rattle.core_state.specs.Worlds.{NodeState, Plain, rows_of}
use Rattle.core_state.specs.Caches.{sequence_now, next_sequence, kept_sequence, kept_with, kept_by_look, writes_at, least_sequence, rewritten}
use Rattle.node_locks.specs.Sequences.{guards_blocks}
use Rattle.core_state.specs.Stores.{AreKept, HasStore, IsTrue, IsCachedAt}
use Rattle.core_state.proofs.CachedEvents.{has_kept, has_used, has_replaced, kept_valid, kept_ahead}
use Rattle.core_state.proofs.CachedHolders.{holds_to_write}
use Rattle.core_state.proofs.Naming.{from_without}
use Rattle.core_state.proofs.Heads.{guard_lock}

no_guard : (name : LockName) → None ≡ Some (Lock name) → ⊥
no_guard name e = absurd (cc)

stock_guard : (name : LockName) (n : ℕ) → Some (Stock n) ≡ Some (Lock name) → ⊥
stock_guard name n e = absurd (let f : true ≡ false = ap is_stock e in cc) where
  is_stock : Option Guard → Bool
  is_stock (Some (Lock y)) = false
  is_stock (Some (Stock m)) = true
  is_stock None = false

-- a lock that guards a block is that of a file, Q or V
pub guarding_name : (g : Geometry) (own : Owners) (lbn : ℕ) (name : LockName) → guard_of g own lbn ≡ Some (Lock name) → guards_blocks name ≡ true
guarding_name g own lbn name e = by_part (part_of g lbn) (owner_at g own lbn) e where
  by_part : (p : Option Part) (o : Option Owner) → guard_by p o ≡ Some (Lock name) → guards_blocks name ≡ true
  by_part (Some (Header n)) o f = ap guards_blocks (sym (guard_lock (S n) name f))
  by_part (Some IndexBitmap) o f = ap guards_blocks (sym (guard_lock V name f))
  by_part (Some (Storage k)) o f = ap guards_blocks (sym (guard_lock V name f))
  by_part (Some (Quota k)) o f = ap guards_blocks (sym (guard_lock Q name f))
  by_part None None f = absurd (no_guard name f)
  by_part None (Some Free) f = absurd (no_guard name f)
  by_part None (Some (InFile n)) f = ap guards_blocks (sym (guard_lock (S n) name f))
  by_part None (Some (Outside m)) f = absurd (stock_guard name m f)
  by_part None (Some Leaked) f = absurd (no_guard name f)

-- ---- what a node keeps, with another cache

-- the cache becomes another one, whose entries are under the same locks or this one
pub restored : (p : Phase) (locks : List (LockName × Mode)) (es fs : List Cached) → HasStore p locks es → IsCache fs → ((e : Cached) → Has fs e → Has es e ⊎ (guards_blocks e.lock ≡ true)) → HasStore p locks fs
restored p locks es fs old cache goes = record {
  kept = old.kept;
  few = old.few;
  cache = cache;
  guarding = λ e h. elim (goes e h) [ inl a ↦ old.guarding e a | inr b ↦ b ];
}

-- ---- a look

-- the entries after a look, as it keeps the block with a sequence or not at all
looked_by : (o : Option ℕ) (lbn : ℕ) (name : LockName) (b : Block) (es : List Cached) (e : Cached) → Has (kept_with o lbn name b es) e → Has es e ⊎ ((seq : ℕ) × (o ≡ Some seq) × (cached lbn name seq b ≡ e))
looked_by None lbn name b es e h = inl h
looked_by (Some seq) lbn name b es e h = elim (has_kept (cached lbn name seq b) es e h) [
  | inl is ↦ inr (seq, refl, is)
  | inr old ↦ inl old
]

cache_by : (o : Option ℕ) (lbn : ℕ) (name : LockName) (b : Block) (es : List Cached) → IsCache es → IsCache (kept_with o lbn name b es)
cache_by None lbn name b es is = is
cache_by (Some seq) lbn name b es is = cache-kept (cached lbn name seq b) es is

module _ (w : Plain) (n : ℕ) (name : LockName) (lbn : ℕ) (b : Block) where
  abbrev seq_now : ℕ
  seq_now = sequence_now w.geometry w.locks name lbn

  abbrev said : Option ℕ
  said = kept_sequence (resource_at name w.locks).valid (writes_at n (resource_at name w.locks)) (sequence_now w.geometry w.locks name lbn)

  pub looked_store : (p : Phase) (locks : List (LockName × Mode)) (es : List Cached) → guards_blocks name ≡ true → HasStore p locks es → HasStore p locks (kept_by_look w.geometry w.locks n name lbn b es)
  looked_store p locks es guards old = restored p locks es (kept_by_look w.geometry w.locks n name lbn b es) old (cache_by said lbn name b es old.cache)
      (λ e h. elim (looked_by said lbn name b es e h) [ inl a ↦ inl a | inr k ↦ inr (ap (λ (x : Cached). guards_blocks x.lock) (sym k.2) ∙ guards) ])

  -- the block that was read is true, where it is the drive's
  module _ (r : NodeState) (own : Owners) (c : Cat) (table : IsTable w.locks) (holds : HoldsItsLocks w.locks n (rows_of r)) (higher : next_sequence (sequence_now w.geometry w.locks name lbn) ≡ sequence_now w.geometry w.locks name lbn + 1)
      (held : has_lock name (system_of n) w.locks ≡ true) (true_it : (seq : ℕ) → IsTrue w own c (cached lbn name seq b)) where
    read_entry : (valid writes : Bool) → (resource_at name w.locks).valid ≡ valid → writes_at n (resource_at name w.locks) ≡ writes → (seq : ℕ) → kept_sequence valid writes (sequence_now w.geometry w.locks name lbn) ≡ Some seq
        → IsCachedAt w own c n r (cached lbn name seq b)
    read_entry true writes mark writer seq e = subst (λ (k : ℕ). IsCachedAt w own c n r (cached lbn name k b)) (number_is (sequence_now w.geometry w.locks name lbn) seq e) (kept_valid w own c n r name lbn b mark held (true_it (sequence_now w.geometry w.locks name lbn))) where
      number_is : (i j : ℕ) → Some i ≡ Some j → i ≡ j
      number_is i j f = ap number_in f where
        number_in : Option ℕ → ℕ
        number_in None = i
        number_in (Some k) = k
    read_entry false true mark writer seq e =
        subst (λ (k : ℕ). IsCachedAt w own c n r (cached lbn name k b)) (number_is (next_sequence (sequence_now w.geometry w.locks name lbn)) seq e)
        (kept_ahead w own c n r name lbn b mark (holds_to_write w.locks n name (rows_of r) table holds writer) higher held (true_it (next_sequence (sequence_now w.geometry w.locks name lbn)))) where
          number_is : (i j : ℕ) → Some i ≡ Some j → i ≡ j
          number_is i j f = ap number_in f where
            number_in : Option ℕ → ℕ
            number_in None = i
            number_in (Some k) = k
    read_entry false false mark writer seq e = absurd (let f : None ≡ Some seq = e in cc)

    -- each entry after a look is one that there was, or in order
    pub looked_mine : (es : List Cached) (e : Cached) → Has (kept_by_look w.geometry w.locks n name lbn b es) e → Has es e ⊎ IsCachedAt w own c n r e
    looked_mine es e h = elim (looked_by said lbn name b es e h) [
      | inl a ↦ inl a
      | inr k ↦ inr (subst (IsCachedAt w own c n r) k.2 (read_entry (resource_at name w.locks).valid (writes_at n (resource_at name w.locks)) refl refl k.0 k.1))
    ]

-- ---- a use

pub used_store : (p : Phase) (locks : List (LockName × Mode)) (lbn : ℕ) (name : LockName) (seq : ℕ) (es : List Cached) → HasStore p locks es → HasStore p locks (used lbn name seq es)
used_store p locks lbn name seq es old = restored p locks es (used lbn name seq es) old (cache-used lbn name seq es old.cache) (λ e h. inl (has_used lbn name seq es e h))

-- ---- a write

pub rewritten_store : (w : Plain) (v : PlanWrite) (p : Phase) (locks : List (LockName × Mode)) (es : List Cached) → guards_blocks v.lock ≡ true → HasStore p locks es → HasStore p locks (rewritten w.geometry w.locks v es)
rewritten_store w v p locks es guards old = by_any (list_any (is_since v.lbn v.lock (least_sequence (resource_at v.lock w.locks).valid (sequence_now w.geometry w.locks v.lock v.lbn))) es) where
  by_any : (b : Bool) → HasStore p locks (cond b (replaced (cached v.lbn v.lock (next_sequence (sequence_now w.geometry w.locks v.lock v.lbn)) v.block) es) es)
  by_any false = old
  by_any true = restored p locks es (replaced (cached v.lbn v.lock (next_sequence (sequence_now w.geometry w.locks v.lock v.lbn)) v.block) es) old
      (cache-replaced (cached v.lbn v.lock (next_sequence (sequence_now w.geometry w.locks v.lock v.lbn)) v.block) es old.cache)
      (λ e h. elim (has_replaced (cached v.lbn v.lock (next_sequence (sequence_now w.geometry w.locks v.lock v.lbn)) v.block) es e h) [
        | inl is ↦ inr (ap (λ (x : Cached). guards_blocks x.lock) (sym is) ∙ guards)
        | inr k ↦ inl k.0
      ])

-- ---- what a node keeps without one of its locks

fewer : (p q r : LockName × Mode → Bool) (ls : List (LockName × Mode)) → length (filter p (filter q (filter r ls))) ≤ length (filter p (filter q ls))
fewer p q r [] = omega arith
fewer p q r (l ∷ ls) = by_tests (p l) (q l) (r l) refl refl (fewer p q r ls) where
  by_tests : (a b c : Bool) → p l ≡ a → q l ≡ b → length (filter p (filter q (filter r ls))) ≤ length (filter p (filter q ls))
      → length (filter p (filter q (cond c (l ∷ filter r ls) (filter r ls)))) ≤ length (filter p (cond b (l ∷ filter q ls) (filter q ls)))
  by_tests a true true e f le = subst (λ (b : Bool). length (filter p (cond b (l ∷ filter q (filter r ls)) (filter q (filter r ls)))) ≤ length (filter p (l ∷ filter q ls))) (sym f) (by_first a e) where
    by_first : (a : Bool) → p l ≡ a → length (cond (p l) (l ∷ filter p (filter q (filter r ls))) (filter p (filter q (filter r ls)))) ≤ length (cond (p l) (l ∷ filter p (filter q ls)) (filter p (filter q ls)))
    by_first true g = subst (λ (b : Bool). length (cond b (l ∷ filter p (filter q (filter r ls))) (filter p (filter q (filter r ls)))) ≤ length (cond b (l ∷ filter p (filter q ls)) (filter p (filter q ls)))) (sym g) (omega (arith, le))
    by_first false g = subst (λ (b : Bool). length (cond b (l ∷ filter p (filter q (filter r ls))) (filter p (filter q (filter r ls)))) ≤ length (cond b (l ∷ filter p (filter q ls)) (filter p (filter q ls)))) (sym g) le
  by_tests a true false e f le = by_first (p l) where
    by_first : (b : Bool) → length (filter p (filter q (filter r ls))) ≤ length (cond b (l ∷ filter p (filter q ls)) (filter p (filter q ls)))
    by_first true = omega (arith, le)
    by_first false = le
  by_tests a false true e f le = subst (λ (b : Bool). length (filter p (cond b (l ∷ filter q (filter r ls)) (filter q (filter r ls)))) ≤ length (filter p (filter q ls))) (sym f) le
  by_tests a false false e f le = le

-- without the lock on a name it keeps no other and no more
pub store_without : (p : Phase) (locks : List (LockName × Mode)) (es : List Cached) (name : LockName) → HasStore p locks es → HasStore p (without name locks) es
store_without p locks es name old = record {
  kept = λ l h. old.kept l (from_without locks name l h).0;
  few = let le = fewer (λ (l : LockName × Mode). not (is_same l.0 X)) (λ (l : LockName × Mode). not (is_same l.0 V)) (λ (l : LockName × Mode). not (is_same l.0 name)) locks in let f = old.few in omega (arith, le, f);
  cache = old.cache;
  guarding = old.guarding;
}

-- where X is claimed behind what is kept, no more is kept besides X and V
few_claimed : (kept claims : List (LockName × Mode)) → ((l : LockName × Mode) → Has claims l → l.0 ≡ X) → length (without X (without V (kept ++ claims))) ≤ length (without X (without V kept))
few_claimed [] [] all = omega arith
few_claimed [] (l ∷ ls) all = gone (all l (inl refl)) (few_claimed [] ls (λ k h. all k (inr h))) where
  gone : l.0 ≡ X → length (without X (without V ls)) ≤ 0 → length (without X (without V (l ∷ ls))) ≤ 0
  gone e le = subst (λ (n : LockName). length (without X (cond (not (is_same n V)) (l ∷ without V ls) (without V ls))) ≤ 0) (sym e) (subst (λ (n : LockName). length (cond (not (is_same n X)) (l ∷ without X (without V ls)) (without X (without V ls))) ≤ 0) (sym e) le)
few_claimed (l ∷ kept) claims all = by_tests (not (is_same l.0 V)) (not (is_same l.0 X)) refl (few_claimed kept claims all) where
  by_x : (b : Bool) → length (without X (without V (kept ++ claims))) ≤ length (without X (without V kept))
      → length (cond b (l ∷ without X (without V (kept ++ claims))) (without X (without V (kept ++ claims)))) ≤ length (cond b (l ∷ without X (without V kept)) (without X (without V kept)))
  by_x true le = omega (arith, le)
  by_x false le = le

  by_tests : (a b : Bool) → not (is_same l.0 X) ≡ b → length (without X (without V (kept ++ claims))) ≤ length (without X (without V kept))
      → length (without X (cond a (l ∷ without V (kept ++ claims)) (without V (kept ++ claims)))) ≤ length (without X (cond a (l ∷ without V kept) (without V kept)))
  by_tests true b e le = by_x (not (is_same l.0 X)) le
  by_tests false b e le = le

pub claimed_store : (q p : Phase) (locks claims : List (LockName × Mode)) (es : List Cached) (name : LockName) → HasStore q locks es → AreKept p (without name (locks ++ claims)) → ((l : LockName × Mode) → Has claims l → l.0 ≡ X)
    → HasStore p (without name (locks ++ claims)) es
claimed_store q p locks claims es name old keeps all = record {
  kept = keeps;
  few =
      let a = fewer (λ (l : LockName × Mode). not (is_same l.0 X)) (λ (l : LockName × Mode). not (is_same l.0 V)) (λ (l : LockName × Mode). not (is_same l.0 name)) (locks ++ claims) in
      let b = few_claimed locks claims all in
      let c = old.few in
      omega (arith, a, b, c);
  cache = old.cache;
  guarding = old.guarding;
}
