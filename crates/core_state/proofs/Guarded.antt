-- A block that may be cached stays under its lock.
use Rattle.std.proofs.Common.{◌≡◌, ◌∙◌, ◌⊎◌, ◌/◌, ◌-◌, ◌==◌, ℕ, Bool, true, false, List, Option, Some, None, Result, Ok, Err, slice_get, get_or, if◌then◌else◌, refl, sym, ap, subst, inl, inr, arith}
use Rattle.base_words.specs.Fields.{Block}
use Rattle.fx_header.specs.declared.run.Run.{Run}
use Rattle.fx_header.specs.declared.slot.Hdr.{Hdr}
use Rattle.fx_header.specs.declared.slot.Slot.{Slot as Head}
use Rattle.fx_header.specs.declared.slot.Slot.TheVariants as head
use Rattle.fx_header.specs.declared.slot.HeaderFault.{HeaderFault}
use Rattle.lock_db.specs.declared.name.LockName.{LockName}
use Rattle.lock_db.specs.declared.name.LockName.TheVariants.{S}
use Rattle.plain_cat.specs.declared.cat.Cat.{Cat}
use Rattle.plain_cat.specs.declared.cat.File.{File}
use Rattle.plain_cat.specs.declared.cat.Slot.{Slot}
use Rattle.plain_cat.specs.declared.cat.Slot.TheVariants as slot
use Rattle.plain_laws.proofs.Standing.{stands_from}
use Rattle.plain_rules.specs.Lookups.{file_in, slot_at, file_at}
use Rattle.vol_spell.specs.declared.owner.Owner.{Owner}
use Rattle.vol_spell.specs.declared.owner.Owner.TheVariants.{InFile}
use Rattle.base_words.specs.Lists.{Has}
use Rattle.vol_spell.specs.Owners.{Owners, OwnersMove, IsSpaceMove, IsDeathMove}
use Rattle.vol_parts.specs.declared.geometry.Geometry.{Geometry}
use Rattle.vol_parts.specs.declared.geometry.Part.{Part}
use Rattle.vol_parts.specs.Parts.{part_of}
use Rattle.vol_parts.specs.Volumes.{fields_in}
use Rattle.vol_parts.specs.Catalogues.{file_of, slot_with}
use Rattle.vol_spell.specs.Reading.{IsFileNumber, owner_at, header_block, head_told, fields_told, runs_told, clusters_of, told_of, body_blocks}
use Rattle.vol_spell.specs.Spelling.{Spells}
use Rattle.vol_spell.proofs.Parts.{slot_there, told}
use Rattle.vol_under.specs.Guards.{Guard, Lock, guard_by, guard_of, lock_of_part}
use Rattle.op_law.specs.Laws.{IsCacheable, Fixed, OfDirectory, is_dir_told, KeepsRuns, Freed, NoDir, Same}
use Rattle.vol_spell.proofs.Heads.{used_first}
use Rattle.vol_spell.proofs.HeadSlots.{alone_runs, dir_slot}
use Rattle.core_state.specs.Staying.{IsGuarded, IsFreed, DirsStay, SpacesStay, DeathsStay}

-- ---- guards

-- a part is guarded by the lock of the part, whoever owns the cluster
part_guarded : (g : Geometry) (own : Owners) (l : ℕ) (p : Part) → part_of g l ≡ Some p → guard_of g own l ≡ Some (Lock (lock_of_part p))
part_guarded g own l p e = ap (λ q. guard_by q (owner_at g own l)) e

-- a block of a file that is no part, by the lock of the file
file_guarded : (g : Geometry) (own : Owners) (l n : ℕ) → part_of g l ≡ None → owner_at g own l ≡ Some (InFile n) → guard_of g own l ≡ Some (Lock (S n))
file_guarded g own l n none e = (λ i. guard_by (none i) (e i))

lock_is : (a b : LockName) → Some (Lock a) ≡ Some (Lock b) → a ≡ b
lock_is a b e = name (ap guard_in e) where
  guard_in : Option Guard → Guard
  guard_in None = Lock a
  guard_in (Some x) = x

  name_in : Guard → LockName
  name_in (Lock x) = x
  name_in x = a

  name : Lock a ≡ Lock b → a ≡ b
  name f = ap name_in f

-- a part stays guarded
part_stays : (g : Geometry) (own other : Owners) (c d : Cat) (name : LockName) (l : ℕ) (p : Part) → part_of g l ≡ Some p → guard_of g own l ≡ Some (Lock name) → IsGuarded g other d name l
part_stays g own other c d name l p e guard = record {
  guard = part_guarded g other l p e ∙ sym (part_guarded g own l p e) ∙ guard;
  kind = Fixed p e;
}

-- a directory has a block still
abbrev HasStill : Geometry → Owners → Cat → ℕ → ℕ → Type 0
HasStill g other d l n = (owner_at g other l ≡ Some (InFile n)) × ((f : File) × (file_at d n ≡ Some f) × (f.dir ≡ true))

-- then that stays guarded; or something else is so
dir_stays : (X : Type 0) (g : Geometry) (own other : Owners) (c d : Cat) (name : LockName) (l n : ℕ) → guard_of g own l ≡ Some (Lock name) → owner_at g own l ≡ Some (InFile n)
    → (name ≡ S n → HasStill g other d l n ⊎ X) → IsGuarded g other d name l ⊎ X
dir_stays X g own other c d name l n guard owner there = by_part (part_of g l) refl where
  by_part : (o : Option Part) → part_of g l ≡ o → IsGuarded g other d name l ⊎ X
  by_part (Some p) e = inl (part_stays g own other c d name l p e guard)
  by_part None e =
      let is : name ≡ S n = lock_is name (S n) (sym guard ∙ file_guarded g own l n e owner) in
      elim (there is) [
        | inl h ↦ inl (record {
          guard = file_guarded g other l n e h.0 ∙ ap (λ x. Some (Lock x)) (sym is);
          kind = OfDirectory n h.1.0 h.1.1 h.1.2 h.0;
        })
        | inr x ↦ inr x
      ]

-- ---- directories

-- the file that a header tells
told_file : (factor n : ℕ) (said : Result Head HeaderFault) (blocks : List Block) → is_dir_told (fields_in said) ≡ true → (f : File) × (slot_with factor n said blocks ≡ slot.Used f) × (f.dir ≡ true)
told_file factor n (Ok (head.Used h)) blocks dir = (file_of factor n h blocks, refl, dir)
told_file factor n (Ok (head.Free seq)) blocks dir = absurd (let e : false ≡ true = dir in cc)
told_file factor n (Err fault) blocks dir = absurd (let e : false ≡ true = dir in cc)

-- and the header of a file
told_head : (factor n : ℕ) (said : Result Head HeaderFault) (blocks : List Block) (f : File) → slot_with factor n said blocks ≡ slot.Used f → f.dir ≡ true → is_dir_told (fields_in said) ≡ true
told_head factor n (Ok (head.Used h)) blocks f e dir = ap dir_in e ∙ dir where
  dir_in : Slot → Bool
  dir_in (slot.Used x) = x.dir
  dir_in (slot.Free seq) = false
told_head factor n (Ok (head.Free seq)) blocks f e dir = absurd (cc)
told_head factor n (Err fault) blocks f e dir = absurd (cc)

used_slot : (o : Option Slot) (f : File) → file_in o ≡ Some f → o ≡ Some (slot.Used f)
used_slot None f e = absurd (let x : None ≡ Some f = e in cc)
used_slot (Some (slot.Free seq)) f e = absurd (let x : None ≡ Some f = e in cc)
used_slot (Some (slot.Used h)) f e = ap used_in e where
  used_in : Option File → Option Slot
  used_in None = None
  used_in (Some x) = Some (slot.Used x)

some_is : (a b : Slot) → Some a ≡ Some b → a ≡ b
some_is a b e = ap slot_in e where
  slot_in : Option Slot → Slot
  slot_in None = a
  slot_in (Some x) = x

module _ (g : Geometry) (bs : List Block) (own : Owners) (c : Cat) (s : Spells g bs own c) (n : ℕ) (number : IsFileNumber g n) where
  its : slot_at c n ≡ Some (get_or c.files (n - 1) (slot.Free 0))
  its = stands_from c n (get_or c.files (n - 1) (slot.Free 0)) (let a = number.from in omega arith) (slot_there g bs own c s n number)

  -- a directory of the catalogue has a header that tells one
  dir_told : (f : File) → file_at c n ≡ Some f → f.dir ≡ true → is_dir_told (fields_told (header_block g bs n)) ≡ true
  dir_told f at dir =
      let there : Some (get_or c.files (n - 1) (slot.Free 0)) ≡ Some (slot.Used f) = sym its ∙ used_slot (slot_at c n) f at in
      told_head g.cluster n (head_told (header_block g bs n)) (body_blocks bs n (told_of g bs n)) f ((told g bs own c s n number).slot ∙ some_is (get_or c.files (n - 1) (slot.Free 0)) (slot.Used f) there) dir

  -- and the other way round
  told_dir : is_dir_told (fields_told (header_block g bs n)) ≡ true → (f : File) × (file_at c n ≡ Some f) × (f.dir ≡ true)
  told_dir dir =
      let h = told_file g.cluster n (head_told (header_block g bs n)) (body_blocks bs n (told_of g bs n)) dir in
      let tells_it = told g bs own c s n number in
      (h.0, ap file_in its ∙ ap (λ y. file_in (Some y)) (sym tells_it.slot ∙ h.1), h.2)

  -- what is told of a directory is told by its one header
  dir_alone : is_dir_told (fields_told (header_block g bs n)) ≡ true → (told_of g bs n).runs ≡ runs_told (header_block g bs n)
  dir_alone dir = by_fields (fields_told (header_block g bs n)) refl dir where
    by_fields : (o : Option Hdr) → fields_told (header_block g bs n) ≡ o → is_dir_told o ≡ true → (told_of g bs n).runs ≡ runs_told (header_block g bs n)
    by_fields None e d = absurd (let x : false ≡ true = d in cc)
    by_fields (Some h) e d =
        let reads = used_first (header_block g bs n) h e in
        alone_runs g bs n h reads (dir_slot g bs own c s n h number reads d)

  -- so its clusters are those of the runs of this header
  in_runs : is_dir_told (fields_told (header_block g bs n)) ≡ true → (q : ℕ) → slice_get own.clusters q ≡ Some (InFile n) → Has (clusters_of g.cluster (runs_told (header_block g bs n))) q
  in_runs dir q e = subst (λ (rs : List Run). Has (clusters_of g.cluster rs) q) (dir_alone dir) (((told g bs own c s n number).runs q).1 e)

  of_runs : is_dir_told (fields_told (header_block g bs n)) ≡ true → (q : ℕ) → Has (clusters_of g.cluster (runs_told (header_block g bs n))) q → slice_get own.clusters q ≡ Some (InFile n)
  of_runs dir q h = ((told g bs own c s n number).runs q).0 (subst (λ (rs : List Run). Has (clusters_of g.cluster rs) q) (sym (dir_alone dir)) h)

pub dirs_stay : DirsStay
dirs_stay g base new own other c d name l s after heads is = by_kind is.kind where
  by_kind : IsCacheable g own c l → IsGuarded g other d name l ⊎ IsFreed g base new name
  by_kind (Fixed p e) = inl (part_stays g own other c d name l p e is.guard)
  by_kind (OfDirectory n f at dir owner) = dir_stays (IsFreed g base new name) g own other c d name l n is.guard owner there where
    number : IsFileNumber g n
    number = s.owners.known (l / g.cluster) n owner

    was_dir : is_dir_told (fields_told (header_block g base n)) ≡ true
    was_dir = dir_told g base own c s n number f at dir

    there : name ≡ S n → HasStill g other d l n ⊎ IsFreed g base new name
    there named = by_head (heads n number) where
      by_head : KeepsRuns (header_block g base n) (header_block g new n) → HasStill g other d l n ⊎ IsFreed g base new name
      by_head (Freed last e) = inr (record { number = n; is = named; valid = number; was = was_dir; last = last; slot = e })
      by_head (NoDir e) = absurd (let x : false ≡ true = sym e ∙ was_dir in cc)
      by_head (Same is_dir same) = inl (
        of_runs g new other d after n number is_dir (l / g.cluster) (subst (λ rs. Has (clusters_of g.cluster rs) (l / g.cluster)) (sym same) (in_runs g base own c s n number was_dir (l / g.cluster) owner)),
        told_dir g new other d after n number is_dir,
      )

-- ---- the same files

same_files : (c d : Cat) (n : ℕ) (f : File) → d.files ≡ c.files → file_at c n ≡ Some f → file_at d n ≡ Some f
same_files c d n f e at = ap (λ fs. file_in (if n == 0 then None else slice_get fs (n - 1))) e ∙ at

stay : (P : Option Owner → Type 0) (g : Geometry) (own other : Owners) (c d : Cat) (name : LockName) (l : ℕ) → ((n : ℕ) → P (Some (InFile n)) → ⊥) → OwnersMove P own other → d.files ≡ c.files
    → IsGuarded g own c name l → IsGuarded g other d name l
stay P g own other c d name l fixed moves files is = by_kind is.kind where
  by_kind : IsCacheable g own c l → IsGuarded g other d name l
  by_kind (Fixed p e) = part_stays g own other c d name l p e is.guard
  by_kind (OfDirectory n f at dir owner) = still (dir_stays ⊥ g own other c d name l n is.guard owner (λ named. inl (owned (moves.clusters.each (l / g.cluster)), (f, same_files c d n f files at, dir)))) where
    still : IsGuarded g other d name l ⊎ ⊥ → IsGuarded g other d name l
    still (inl h) = h
    still (inr x) = absurd x

    owned : (slice_get other.clusters (l / g.cluster) ≡ slice_get own.clusters (l / g.cluster)) ⊎ (P (slice_get own.clusters (l / g.cluster)) × P (slice_get other.clusters (l / g.cluster))) → owner_at g other l ≡ Some (InFile n)
    owned t = elim t [
      | inl e ↦ e ∙ owner
      | inr m ↦ absurd (fixed n (subst P owner m.0))
    ]

pub spaces_stay : SpacesStay
spaces_stay g n own other c d name l moves files is = stay (IsSpaceMove n) g own other c d name l (λ m p. p) moves files is

pub deaths_stay : DeathsStay
deaths_stay g n own other c d name l moves files is = stay (IsDeathMove n) g own other c d name l (λ m p. p) moves files is
