-- The cached blocks of all nodes where a node puts back its locks: at its answer, or as it lowers V.
use Rattle.std.proofs.Common.{◌≡◌, ◌≤◌, ℕ, Bool, true, false, cond, List, [], refl, ap, inl, inr, arith}
use Rattle.base_words.specs.Fields.{Block}
use Rattle.lock_db.specs.declared.name.LockName.{LockName}
use Rattle.lock_db.specs.declared.resource.Resource.{Resource}
use Rattle.lock_db.specs.Tables.{resource_at}
use Rattle.lock_db.specs.Laws.{BlockIs, BlockStays}
use Rattle.plain_cat.specs.declared.history.Entry.{Entry}
use Rattle.vol_parts.specs.declared.geometry.Geometry.{Geometry}
use Rattle.node_locks.specs.Sequences.{first_sequence, second_sequence, guards_blocks, raised_block}
use Rattle.node_cache.specs.Cached.{Cached}
use Rattle.op_law.specs.declared.need.PlanWrite.{PlanWrite}
use Rattle.core_state.specs.Worlds.{NodeState, Plain}
use Rattle.core_state.specs.Raises.{is_first_part, raise_of}
use Rattle.core_state.specs.Caches.{part_sequence}
use Rattle.core_state.specs.Small.{GoesOn}
use Rattle.core_state.specs.Stores.{hold_writes, part_raise, IsWriter}
use Rattle.core_state.proofs.Keeping.{altered}
use Rattle.core_state.proofs.Cached.{none_or_some, written_by, Goes, Stays, Lowered}
use Rattle.core_state.proofs.CachedTables.{part_is_raised}

-- where nothing was written, no part is raised
pub none_raised : (g : Geometry) (name : LockName) (lbn : ℕ) → part_raise g name lbn [] ≡ 0
none_raised g name lbn = by_part (is_first_part g name lbn) where
  by_part : (b : Bool) → cond b (raise_of g name []).first (raise_of g name []).second ≡ 0
  by_part true = refl
  by_part false = refl

-- a block that stays has its sequences
pub part_stays : (g : Geometry) (name : LockName) (lbn : ℕ) (old new : Resource) → BlockStays old new → part_sequence g name lbn new ≡ part_sequence g name lbn old
part_stays g name lbn old new stays = ap (λ (bytes : List ℕ). cond (is_first_part g name lbn) (first_sequence bytes) (second_sequence bytes)) stays.bytes

-- What the value block of a lock comes to as node n puts back its locks: it is raised by what was written under it, where the node holds
-- it in PW, and else it stays.
pub data BlockGoes (w : Plain) (n : ℕ) (s : NodeState) (ws : List PlanWrite) (name : LockName) (t : List Resource) : Type 0 where
  Raised : IsWriter w n s name → BlockIs (raised_block name (raise_of w.geometry name ws) (resource_at name w.locks)) true (resource_at name t) → BlockGoes w n s ws name t
  Unraised : (IsWriter w n s name → ⊥) → BlockStays (resource_at name w.locks) (resource_at name t) → BlockGoes w n s ws name t

module _ (w : Plain) (n : ℕ) (s r : NodeState) (t : List Resource) (bs : List Block) (ns : List NodeState) (h : List Entry) (e : Cached)
    (first : GoesOn (first_sequence (resource_at e.lock w.locks).value)) (second : GoesOn (second_sequence (resource_at e.lock w.locks).value))
    (few_first : (raise_of w.geometry e.lock (hold_writes s)).first ≤ 2) (few_second : (raise_of w.geometry e.lock (hold_writes s)).second ≤ 2)
    (held_writes : 1 ≤ written_by w s e → IsWriter w n s e.lock) (guards : guards_blocks e.lock ≡ true) where
  abbrev v : Plain
  v = altered w t bs ns h

  -- where the node has written nothing under the lock after it
  pub back_goes : part_raise w.geometry e.lock e.lbn (hold_writes r) ≡ 0 → BlockGoes w n s (hold_writes s) e.lock t → Goes w v n s r e
  back_goes none (Raised writer is) =
      Lowered writer (part_is_raised w.geometry e.lock e.lbn (hold_writes s) (resource_at e.lock w.locks) (resource_at e.lock t) guards first second is few_first few_second) is.mark_is none
  back_goes none (Unraised not stays) =
      Stays (part_stays w.geometry e.lock e.lbn (resource_at e.lock w.locks) (resource_at e.lock t) stays) stays.mark
      (elim (none_or_some (written_by w s e)) [ inl z ↦ (let a : written_by w s e ≡ 0 = z in omega (arith, a)) | inr some ↦ absurd (not (held_writes some)) ])
      (λ writer. absurd (not writer))
