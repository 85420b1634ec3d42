-- A look of a node at a block that may be cached: it reads the block from the drive, or uses the one that it has cached. Both keep the
-- invariant, where the sight of the block does.
use Rattle.std.proofs.Common.{◌≡◌, ◌⊎◌, ◌<◌, ◌∙◌, ℕ, Bool, true, false, List, [], ◌∷◌, Option, Some, None, is_some, cond, length, slice_get, refl, sym, ap, subst, inl, inr, arith}
use Rattle.base_words.specs.Fields.{Block}
use Rattle.lock_db.specs.declared.name.LockName.{LockName}
use Rattle.lock_db.specs.declared.name.LockName.TheVariants.{V}
use Rattle.plain_cat.specs.declared.cat.Cat.{Cat}
use Rattle.plain_cat.specs.declared.mode.Mode.TheVariants.{PR, PW}
use Rattle.base_words.specs.Lists.{Has}
use Rattle.vol_spell.specs.Owners.{Owners}
use Rattle.vol_parts.specs.declared.geometry.Geometry.{Geometry}
use Rattle.vol_parts.specs.declared.geometry.Part.TheVariants.{IndexBitmap, Storage}
use Rattle.vol_under.specs.Guards.{Lock, guard_of}
use Rattle.vol_under.specs.Keeping.{IsBitmap}
use Rattle.vol_under.proofs.Guarding.{bitmap_guard}
use Rattle.node_locks.specs.Held.{system_of, has_lock, Row, HoldsItsLocks, waits_at}
use Rattle.node_cache.specs.Cached.{Cached}
use Rattle.op_law.specs.Laws.{held_in, IsCacheable, Fixed}
use Rattle.core_state.specs.Worlds.{NodeState, Plain, node_at, with_node, rows_of, rows_in}
use Rattle.core_state.specs.Caches.{current_entry, sequence_now}
use Rattle.core_state.specs.Stores.{HasStore, IsCachedAt}
use Rattle.core_state.specs.Goods.{Good, held_by}
use Rattle.core_state.specs.Event as event
use Rattle.core_state.specs.Events.{cached_block, block_used, cache_used, cache_looked, happens, or_use}
use Rattle.base_words.specs.Faults.{next as one_more}
use Rattle.base_words.specs.Fields.{block_at}
use Rattle.core_state.proofs.Holding.{HasIn, in_held_is, is_in_held}
use Rattle.core_state.proofs.Running.{claims_held}
use Rattle.core_state.proofs.Turning.{index_within, seen_so}
use Rattle.core_state.proofs.Looks.{space_seen_so}
use Rattle.core_state.proofs.CachedEvents.{has_used}
use Rattle.core_state.proofs.CachedUses.{current_is_drives}
use Rattle.core_state.proofs.CachedLooks.{guarding_name, looked_store, looked_mine, used_store}
use Rattle.core_state.proofs.CachedTakes.{goes_higher}
use Rattle.core_state.proofs.Lasting.{held_lasting}

-- the entries of this cache are ones that the node had, or in order, however else the node stands then
abbrev pub AreInOrder : (w : Plain) → Good w → ℕ → NodeState → List Cached → Type 0
AreInOrder w good n s es = (r : NodeState) → rows_of r ≡ rows_of s → (e : Cached) → Has es e → Has s.cache e ⊎ IsCachedAt (with_node w n r) good.running.drive.own good.running.cat n r e

-- a node that has seen the block, with this cache and these counts, is in order
abbrev pub SeesIt : (w : Plain) → Good w → ℕ → NodeState → ℕ → (Block → List Cached → ℕ → ℕ → NodeState) → Type 0
SeesIt w good n s lbn F = (b : Block) (es : List Cached) (reads hits : ℕ) → slice_get w.blocks lbn ≡ Some b → HasStore s.run.phase s.kept es → AreInOrder w good n s es → Good (with_node w n (F b es reads hits))

module _ (w : Plain) (good : Good w) (n : ℕ) (s : NodeState) (at : node_at w.nodes n ≡ Some s) (name : LockName) (lbn : ℕ) (holds : Has (held_in PR (held_by w.locks n s)) name)
    (guard : guard_of w.geometry good.running.drive.own lbn ≡ Some (Lock name)) (kind : IsCacheable w.geometry good.running.drive.own good.running.cat lbn) (within : lbn < length w.blocks)
    (F : Block → List Cached → ℕ → ℕ → NodeState) (sees : SeesIt w good n s lbn F) where
  mine : HoldsItsLocks w.locks n (rows_of s)
  mine = subst (λ (rs : List Row). HoldsItsLocks w.locks n rs) (ap rows_in at) (good.locked.1 n)

  held : has_lock name (system_of n) w.locks ≡ true
  held = let k : HasIn PR (held_by w.locks n s) name = in_held_is PR (held_by w.locks n s) name holds in held_lasting w.locks n (rows_of s) (name, k.in_mode) mine k.has

  there : slice_get w.blocks lbn ≡ Some (block_at w.blocks lbn)
  there = index_within w.blocks lbn within

  in_order : AreInOrder w good n s (cache_looked w n s name lbn)
  in_order r rows e h = looked_mine (with_node w n r) n name lbn (block_at w.blocks lbn) r good.running.drive.own good.running.cat good.locked.0 (subst (λ (rs : List Row). HoldsItsLocks w.locks n rs) (sym rows) mine)
      (goes_higher w good name lbn) held (λ seq. record { block = there; guard = guard; kind = kind }) s.cache e h

  -- it is read
  pub read_keeps : Good (with_node w n (F (block_at w.blocks lbn) (cache_looked w n s name lbn) (one_more s.reads) s.hits))
  read_keeps = sees (block_at w.blocks lbn) (cache_looked w n s name lbn) (one_more s.reads) s.hits there
      (looked_store w n name lbn (block_at w.blocks lbn) s.run.phase s.kept s.cache (guarding_name w.geometry good.running.drive.own lbn name guard) (good.nodes n s at).store) in_order

  -- or one is used
  pub use_keeps : (e : Cached) → current_entry w.geometry w.locks name lbn s.cache ≡ Some e → Good (with_node w n (F (block_used w s name lbn) (cache_used w s name lbn) s.reads (one_more s.hits)))
  use_keeps e f = sees (block_used w s name lbn) (cache_used w s name lbn) s.reads (one_more s.hits)
      (current_is_drives w n s name lbn e good at holds f ∙ ap (λ (o : Option Cached). Some (cached_block o)) (sym f))
      (used_store s.run.phase s.kept lbn name (sequence_now w.geometry w.locks name lbn) s.cache (good.nodes n s at).store)
      (λ r rows x h. inl (has_used lbn name (sequence_now w.geometry w.locks name lbn) s.cache x h))

-- ---- the two events

-- a block of a bitmap may be cached
bitmap_kind : (g : Geometry) (own : Owners) (c : Cat) (l : ℕ) → IsBitmap g l → IsCacheable g own c l
bitmap_kind g own c l (inl e) = Fixed IndexBitmap e
bitmap_kind g own c l (inr k) = Fixed (Storage k.0) k.1

-- A look by the rules for space, under V, which the node has claimed and holds in PW.
pub space_turn : (w : Plain) (good : Good w) (n : ℕ) (s : NodeState) → node_at w.nodes n ≡ Some s → waits_at w.locks n s.claims ≡ false → s.claims ≡ (V, PW) ∷ [] → (k : ℕ) (c : Bool) (lbn : ℕ) → lbn < length w.blocks → IsBitmap w.geometry lbn
    → SeesIt w good n s lbn (λ b es reads hits. space_seen_so s k c lbn b es reads hits) → Good (happens w n s (or_use w s (event.SpaceLook k c lbn)))
space_turn w good n s at granted claims k c lbn within bitmap sees = by_entry (current_entry w.geometry w.locks V lbn s.cache) refl where
  holds : Has (held_in PR (held_by w.locks n s)) V
  holds = is_in_held PR (held_by w.locks n s) V (record { in_mode = PW; has = claims_held w.locks n s (V, PW) granted (subst (λ (ls : Row). Has ls (V, PW)) (sym claims) (inl refl)); strong = omega arith })

  guard : guard_of w.geometry good.running.drive.own lbn ≡ Some (Lock V)
  guard = bitmap_guard w.geometry good.running.drive.own lbn bitmap

  kind : IsCacheable w.geometry good.running.drive.own good.running.cat lbn
  kind = bitmap_kind w.geometry good.running.drive.own good.running.cat lbn bitmap

  by_entry : (o : Option Cached) → current_entry w.geometry w.locks V lbn s.cache ≡ o → Good (happens w n s (cond (is_some o) (event.SpaceUse k c lbn) (event.SpaceLook k c lbn)))
  by_entry None e = read_keeps w good n s at V lbn holds guard kind within (λ b es reads hits. space_seen_so s k c lbn b es reads hits) sees
  by_entry (Some x) e = use_keeps w good n s at V lbn holds guard kind within (λ b es reads hits. space_seen_so s k c lbn b es reads hits) sees x e

-- A look by a command, at a block that a lock guards which the node holds in PR or more.
pub look_turn : (w : Plain) (good : Good w) (n : ℕ) (s : NodeState) → node_at w.nodes n ≡ Some s → (name : LockName) (lbn : ℕ) → Has (held_in PR (held_by w.locks n s)) name → guard_of w.geometry good.running.drive.own lbn ≡ Some (Lock name)
    → IsCacheable w.geometry good.running.drive.own good.running.cat lbn → lbn < length w.blocks → SeesIt w good n s lbn (λ b es reads hits. seen_so s lbn b es reads hits) → Good (happens w n s (or_use w s (event.Look name lbn)))
look_turn w good n s at name lbn holds guard kind within sees = by_entry (current_entry w.geometry w.locks name lbn s.cache) refl where
  by_entry : (o : Option Cached) → current_entry w.geometry w.locks name lbn s.cache ≡ o → Good (happens w n s (cond (is_some o) (event.Use name lbn) (event.Look name lbn)))
  by_entry None e = read_keeps w good n s at name lbn holds guard kind within (λ b es reads hits. seen_so s lbn b es reads hits) sees
  by_entry (Some x) e = use_keeps w good n s at name lbn holds guard kind within (λ b es reads hits. seen_so s lbn b es reads hits) sees x e
