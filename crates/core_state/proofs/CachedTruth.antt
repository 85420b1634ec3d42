-- Cached blocks stay true as writes are committed, unless one of these has freed the slot of the directory under the entry's lock.
use Rattle.std.proofs.Common.{◌≡◌, ◌≤◌, ◌∙◌, ◌⊎◌, ℕ, true, List, Ok, slice_get, sym, ap, subst, inl, inr, arith}
use Rattle.fx_header.specs.declared.slot.Slot.TheVariants as head
use Rattle.fx_header.specs.Headers.{header_read}
use Rattle.lock_db.specs.declared.name.LockName.{LockName}
use Rattle.lock_db.specs.declared.name.LockName.TheVariants.{S}
use Rattle.lock_db.specs.Names.{is_same}
use Rattle.lock_db.proofs.Names.{is_same-refl}
use Rattle.plain_cat.specs.declared.cat.Cat.{Cat}
use Rattle.base_words.specs.Lists.{Has}
use Rattle.vol_spell.specs.Owners.{Owners}
use Rattle.vol_parts.specs.declared.geometry.Geometry.{Geometry}
use Rattle.vol_spell.specs.Reading.{header_place}
use Rattle.node_cache.specs.Cached.{Cached}
use Rattle.op_law.specs.declared.need.PlanWrite.{PlanWrite}
use Rattle.core_state.specs.Staying.{IsGuarded, IsFreedBy}
use Rattle.core_state.specs.Worlds.{NodeState, Plain}
use Rattle.core_state.specs.Raises.{is_first_part, is_under, is_free_head, writes_first, frees}
use Rattle.core_state.specs.Stores.{hold_writes, part_raise, IsTrue}
use Rattle.core_state.proofs.CachedWrites.{frees_raises, both_true}
use Rattle.base_words.proofs.Booleans.{nat_same}

-- a write that frees the slot of a file, under the lock of the file
is_freeing : (g : Geometry) (n last : ℕ) (x : PlanWrite) → x.lock ≡ S n → x.lbn ≡ header_place g n → header_read x.block ≡ Ok (head.Free last) → frees g (S n) x ≡ true
is_freeing g n last x lock place slot =
    both_true (writes_first g (S n) x) (is_free_head (header_read x.block))
    (both_true (is_under (S n) x) (is_first_part g (S n) x.lbn) (subst (λ (y : LockName). is_same y (S n) ≡ true) (sym lock) (is_same-refl (S n))) (nat_same x.lbn (header_place g n) place))
    (ap is_free_head slot)

-- where none has, an entry's block stays guarded
pub not_freed : (g : Geometry) (ws all : List PlanWrite) (name : LockName) (l : ℕ) → ((x : PlanWrite) → Has ws x → Has all x) → part_raise g name l all ≤ 1 → IsFreedBy g ws name → ⊥
not_freed g ws all name l in_all few h =
    let frees_it : frees g name h.write ≡ true = subst (λ (y : LockName). frees g y h.write ≡ true) (sym h.is) (is_freeing g h.number h.last h.write (h.lock ∙ h.is) h.place h.slot) in
    let two : part_raise g name l all ≡ 2 = frees_raises g name l all h.write (in_all h.write h.has) frees_it in
    absurd (omega (arith, two, few))

-- An entry that is true stays so, where the drive has its block still, and its node's lock was not that of a directory that was freed.
pub committed_truth : (w v : Plain) (own other : Owners) (c d : Cat) (s : NodeState) (ws : List PlanWrite) (e : Cached) → v.geometry ≡ w.geometry → slice_get v.blocks e.lbn ≡ slice_get w.blocks e.lbn
    → ((x : PlanWrite) → Has ws x → Has (hold_writes s) x) → part_raise w.geometry e.lock e.lbn (hold_writes s) ≤ 1
    → (IsGuarded w.geometry own c e.lock e.lbn → IsGuarded w.geometry other d e.lock e.lbn ⊎ IsFreedBy w.geometry ws e.lock) → IsTrue w own c e → IsTrue v other d e
committed_truth w v own other c d s ws e geometry same in_all few goes t = elim (goes (record { guard = t.guard; kind = t.kind })) [
  | inl h ↦
      let there : IsGuarded v.geometry other d e.lock e.lbn = subst (λ (g : Geometry). IsGuarded g other d e.lock e.lbn) (sym geometry) h in
      record { block = same ∙ t.block; guard = there.guard; kind = there.kind }
  | inr freed ↦ absurd (not_freed w.geometry ws (hold_writes s) e.lock e.lbn in_all few freed)
]
