-- What guards the blocks that the writes of a new file touch, and that they leave the runs of directories.
use Rattle.std.proofs.Common.{◌≡◌, ◌-◌, ℕ, Bool, true, false, cond, List, [], ◌∷◌, Option, Some, None, map, slice_get, is_some, refl, sym, ap, subst, ◌∙◌, inl, inr}
use Rattle.lock_db.specs.declared.name.LockName.TheVariants.{S}
use Rattle.plain_cat.specs.declared.ids.Fid.{Fid}
use Rattle.plain_cat.specs.declared.cat.Cat.{Cat}
use Rattle.plain_cat.specs.declared.cat.File.{File}
use Rattle.plain_cat.specs.declared.history.Stage.TheVariants as stage
use Rattle.base_words.specs.Fields.{Block}
use Rattle.fx_dir.specs.Writing.{block_of}
use Rattle.fx_header.specs.declared.slot.Hdr.{Hdr}
use Rattle.vol_spell.specs.declared.owner.Owner.{Owner}
use Rattle.vol_spell.specs.declared.owner.Owner.TheVariants.{InFile, Outside}
use Rattle.base_words.specs.Lists.{Has}
use Rattle.vol_spell.specs.Owners.{Owners}
use Rattle.vol_spell.specs.Spread.{spread}
use Rattle.vol_parts.specs.declared.geometry.Geometry.{Geometry}
use Rattle.vol_parts.specs.declared.geometry.Part.{Part}
use Rattle.vol_parts.specs.declared.geometry.Part.TheVariants.{Header}
use Rattle.vol_parts.specs.Parts.{part_of}
use Rattle.vol_spell.specs.Reading.{IsFileNumber, owner_at, header_place, header_block, fields_told}
use Rattle.vol_spell.specs.Places.{file_of_part}
use Rattle.vol_spell.specs.Spelling.{Spells}
use Rattle.vol_spell.proofs.Parts.{part_there, part_owner, in_use}
use Rattle.vol_under.specs.Guards.{Lock, Stock, guard_by, guard_of}
use Rattle.op_law.specs.declared.need.PlanWrite.{PlanWrite}
use Rattle.op_law.specs.Entering.{NewEntry, new_header, body_writes}
use Rattle.op_law.specs.Laws.{planned, is_dir_told, NoDir, LeavesDirs}
use Rattle.op_law.specs.Writing.{holding, empty_handed, write_at, header_write}
use Rattle.op_law.proofs.Naming.{both_named, under_lock, under_stock, both_leave}
use Rattle.op_steps.specs.Chained.{Chain, StandsOn}
use Rattle.op_steps.specs.FileWrites.{file_writes, FileGuards}
use Rattle.op_steps.proofs.FileBodies.{are_body}

-- a block that a node has outside is guarded by the node
outside_guard : (g : Geometry) (bs : List Block) (own : Owners) (x : Cat) (node : ℕ) (l : ℕ) → Spells g bs own x → owner_at g own l ≡ Some (Outside node) → guard_of g own l ≡ Some (Stock node)
outside_guard g bs own x node l spelt at = by_part (part_of g l) refl where
  by_part : (p : Option Part) → part_of g l ≡ p → guard_by p (owner_at g own l) ≡ Some (Stock node)
  by_part None e = ap (λ (o : Option Owner). guard_by None o) at
  by_part (Some p) e = let h : Some (Outside node) ≡ Some (InFile (file_of_part p)) = sym at ∙ part_owner g bs own x spelt l p e in absurd (cc)

-- a directory's own blocks are written under the lock of its number
body_locks : (g : Geometry) (n : ℕ) (f : File) (qs : List ℕ) (w : PlanWrite) → Has (body_writes g n f qs) w → w.lock ≡ S n
unfolding body_writes
body_locks g n f qs w t = by_kind f.dir t where
  each : (ls : List ℕ) → Has (map (λ l. write_at (S n) l (block_of []) stage.Charged (holding qs (Some n))) ls) w → w.lock ≡ S n
  each [] t = absurd t
  each (l ∷ ls) (inl e) = ap (λ (v : PlanWrite). v.lock) (sym e)
  each (l ∷ ls) (inr t) = each ls t

  by_kind : (d : Bool) → Has (cond d (map (λ l. write_at (S n) l (block_of []) stage.Charged (holding qs (Some n))) (spread g.cluster qs)) []) w → w.lock ≡ S n
  by_kind true t = each (spread g.cluster qs) t
  by_kind false t = absurd t

-- a write among others, as it is planned
planned_among : (ws : List PlanWrite) (w : PlanWrite) → Has ws w → Has (map planned ws) (planned w)
planned_among [] w t = absurd t
planned_among (v ∷ ws) w (inl e) = inl (ap planned e)
planned_among (v ∷ ws) w (inr t) = inr (planned_among ws w t)

pub file_guards : FileGuards
file_guards k parent n e qs x bs own on is lock =
    let g : Geometry = k.geometry in
    let vs : List PlanWrite = body_writes g n e.file qs in
    let head : PlanWrite = header_write g n (new_header g parent n e qs) stage.Lost empty_handed in
    let body = are_body g k.node n e.file qs k.stock bs own x on.spelt on.outs in
    let guard : guard_of g own (header_place g n) ≡ Some (Lock (S n)) = ap (λ (p : Option Part). guard_by p (owner_at g own (header_place g n))) (part_there g bs own x on.spelt (Header n) is) in
    both_named k.node k.locks g own vs (head ∷ [])
    (λ w t. under_stock k.node k.locks g own (S n) w lock (body_locks g n e.file qs w t)
    (outside_guard g bs own x k.node w.lbn on.spelt (body.each (planned w) (planned_among vs w t)).owner))
    (λ w t. elim t [
      | inl here ↦ under_lock k.node k.locks g own (S n) w lock (ap (λ (v : PlanWrite). v.lock) (sym here)) (ap (λ (v : PlanWrite). guard_of g own v.lbn) (sym here) ∙ guard)
      | inr none ↦ absurd none
    ])

-- ---- what they leave of directories

-- a number that a node has outside is no file's
unused_number : (g : Geometry) (bs : List Block) (own : Owners) (x : Cat) (node n : ℕ) → Spells g bs own x → IsFileNumber g n → slice_get own.numbers (n - 1) ≡ Some (Outside node) → fields_told (header_block g bs n) ≡ None
unused_number g bs own x node n spelt is out = by_fields (fields_told (header_block g bs n)) refl where
  by_fields : (o : Option Hdr) → fields_told (header_block g bs n) ≡ o → fields_told (header_block g bs n) ≡ None
  by_fields None e = e
  by_fields (Some h) e =
      let at : slice_get own.numbers (n - 1) ≡ Some (InFile n) = (in_use g bs own x spelt n is).0 (ap is_some e) in
      let both : Some (Outside node) ≡ Some (InFile n) = sym out ∙ at in
      absurd (cc)

-- the header is written to a slot that is no file's, and the blocks in front of it are outside
pub file_leaves : (k : Chain) (parent : Fid) (n : ℕ) (e : NewEntry) (qs : List ℕ) (x : Cat) (bs : List Block) (own : Owners) → StandsOn k (holding qs (Some n)) x bs own → IsFileNumber k.geometry n
    → LeavesDirs k.geometry bs (file_writes k.geometry parent n e qs)
file_leaves k parent n e qs x bs own on is =
    let g : Geometry = k.geometry in
    let vs : List PlanWrite = body_writes g n e.file qs in
    let body = are_body g k.node n e.file qs k.stock bs own x on.spelt on.outs in
    both_leave g bs vs (header_write g n (new_header g parent n e qs) stage.Lost empty_handed ∷ [])
    (λ w t i at.
    let outside : owner_at g own w.lbn ≡ Some (Outside k.node) = (body.each (planned w) (planned_among vs w t)).owner in
    let both : Some (Outside k.node) ≡ Some (InFile (file_of_part (Header i))) = sym outside ∙ part_owner g bs own x on.spelt w.lbn (Header i) at in
    absurd (cc))
    (λ w t i at. elim t [
      | inl here ↦
          let there : Some (Header n) ≡ Some (Header i) = sym (part_there g bs own x on.spelt (Header n) is) ∙ ap (λ (v : PlanWrite). part_of g v.lbn) here ∙ at in
          let same : n ≡ i = cc in
          let none : fields_told (header_block g bs n) ≡ None = unused_number g bs own x k.node n on.spelt is ((on.outs.numbers.all (n - 1)).1 (inl (inl refl))) in
          NoDir (subst (λ j. is_dir_told (fields_told (header_block g bs j)) ≡ false) same (ap is_dir_told none))
      | inr none ↦ absurd none
    ])
