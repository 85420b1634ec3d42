-- What guards the writes of a virtual block, the runs of directories, and what they leave outside.
use Rattle.std.proofs.Common.{◌≡◌, ◌≤◌, ◌<◌, ◌+◌, ◌-◌, ◌*◌, ◌++◌, ◌∙◌, inl, inr, ℕ, zero, suc, Bool, true, false, cond, List, [], ◌∷◌, Some, None, map, refl, sym, ap, subst, arith}
use Rattle.std.specs.Prelude.{nat_le, is_some}
use Rattle.std.specs.List.{range_with_len}
use Rattle.std.proofs.lemmas.Bool.Decides.{nat_tests}
use Rattle.base_words.specs.Fields.{Block}
use Rattle.base_words.specs.Tables.{zeros}
use Rattle.fx_header.specs.declared.slot.Hdr.{Hdr}
use Rattle.lock_db.specs.declared.name.LockName.TheVariants.{S}
use Rattle.plain_cat.specs.declared.cat.Cat.{Cat}
use Rattle.plain_cat.specs.declared.cat.File.{File}
use Rattle.plain_cat.specs.declared.history.Stage.{Stage}
use Rattle.plain_cat.specs.declared.history.Stage.TheVariants as stage
use Rattle.plain_rules.specs.Changes.{is_past_mark}
use Rattle.base_words.specs.Lists.{Has}
use Rattle.base_words.proofs.Listing.{has_parted}
use Rattle.vol_parts.specs.declared.geometry.Geometry.{Geometry}
use Rattle.vol_parts.specs.declared.geometry.Part.TheVariants.{Header}
use Rattle.vol_parts.specs.Parts.{part_of}
use Rattle.vol_parts.specs.Volumes.{fields_in}
use Rattle.vol_spell.specs.Files.{IsFileThere}
use Rattle.vol_spell.specs.Owners.{Owners}
use Rattle.vol_spell.specs.Reading.{header_block, fields_told}
use Rattle.vol_spell.specs.Spelling.{Spells}
use Rattle.vol_spell.proofs.Parts.{in_use, part_there}
use Rattle.vol_under.specs.Guards.{guard_of}
use Rattle.op_law.specs.declared.need.PlanWrite.{PlanWrite}
use Rattle.op_law.specs.Channels.{zero_writes, sizes_write, block_writes}
use Rattle.op_law.specs.Laws.{IsNamed, KeepsRuns, NoDir, is_dir_told, MayFill}
use Rattle.op_law.specs.Refusing.{SeenFile}
use Rattle.op_law.specs.SeenFiles.{file_place, file_write}
use Rattle.op_law.proofs.Naming.{under_lock, file_fills}
use Rattle.vol_spell.proofs.HeadSlots.{reads_fields}
use Rattle.op_steps.specs.Files.{file_in}
use Rattle.op_steps.proofs.HeadSteps.{head_guards, head_leaves}
use Rattle.op_steps.specs.BlockWrites.{WriteGuards, WriteLeaves, WriteFills}
use Rattle.op_steps.proofs.Places.{lies, guard}
use Rattle.vol_spell.proofs.FilePlaces.{no_dir}

-- ---- each of the writes

-- what holds of zeros at each of these virtual blocks holds of each of these writes
each_zero : (Q : PlanWrite → Type 0) (f : SeenFile) (j m : ℕ) → ((v : ℕ) → m ≤ v → v < m + j → Q (file_write f v zeros stage.Nothing))
    → (w : PlanWrite) → Has (map (λ v. file_write f v zeros stage.Nothing) (range_with_len m j)) w → Q w
each_zero Q f zero m so w t = absurd t
each_zero Q f (suc j) m so w (inl e) = subst Q e (so m (omega arith) (omega arith))
each_zero Q f (suc j) m so w (inr t) = each_zero Q f j (m + 1) (λ v from to. so v (omega arith) (omega arith)) w t

-- what holds of the write of each block up to a virtual one, and of the header, holds of each of its writes
pub each_write : (Q : PlanWrite → Type 0) (g : Geometry) (f : SeenFile) (vbn : ℕ) (b : Block) → 1 ≤ vbn → ((v : ℕ) → 1 ≤ v → v ≤ vbn → (c : Block) (s : Stage) → Q (file_write f v c s)) → Q (sizes_write g f vbn)
    → (w : PlanWrite) → Has (block_writes g f vbn b) w → Q w
unfolding block_writes
each_write Q g f vbn b from block head w = by_past (is_past_mark f.file vbn) refl where
  last_two : (s : Stage) → Has (file_write f vbn b s ∷ sizes_write g f vbn ∷ []) w → Q w
  last_two s (inl e) = subst Q e (block vbn from (omega arith) b s)
  last_two s (inr (inl e)) = subst Q e head
  last_two s (inr (inr t)) = absurd t

  alone : Has (file_write f vbn b stage.Done ∷ []) w → Q w
  alone (inl e) = subst Q e (block vbn from (omega arith) b stage.Done)
  alone (inr t) = absurd t

  by_end : (t : Bool) → Has (cond t (file_write f vbn b stage.DataOnly ∷ sizes_write g f vbn ∷ []) (file_write f vbn b stage.Done ∷ [])) w → Q w
  by_end true t = last_two stage.DataOnly t
  by_end false t = alone t

  behind : is_past_mark f.file vbn ≡ true → Has (zero_writes f vbn ++ file_write f vbn b stage.Nothing ∷ sizes_write g f vbn ∷ []) w → Q w
  behind past t =
      let low : 1 ≤ f.file.mark = grind (arith, nat_tests) in
      let to : f.file.mark ≤ vbn = grind (arith, nat_tests) in
      elim (has_parted (zero_writes f vbn) (file_write f vbn b stage.Nothing ∷ sizes_write g f vbn ∷ []) w t) [
        | inl z ↦ each_zero Q f (vbn - f.file.mark) f.file.mark (λ v at lt. block v (omega arith) (omega arith) zeros stage.Nothing) w z
        | inr z ↦ last_two stage.Nothing z
      ]

  by_past : (t : Bool) → is_past_mark f.file vbn ≡ t
      → Has (cond t (zero_writes f vbn ++ file_write f vbn b stage.Nothing ∷ sizes_write g f vbn ∷ []) (cond (nat_le f.file.end vbn) (file_write f vbn b stage.DataOnly ∷ sizes_write g f vbn ∷ []) (file_write f vbn b stage.Done ∷ []))) w → Q w
  by_past true past t = behind past t
  by_past false past t = by_end (nat_le f.file.end vbn) t

-- ---- on the blocks of a volume

pub write_guards : WriteGuards
write_guards g n h f vbn b x bs own node locks s has lock =
    each_write (λ w. IsNamed node locks w.lock (guard_of g own w.lbn)) g (file_in g bs n h) vbn b has.from
    (λ v from to c st. let top = has.to in under_lock node locks g own (S n) (file_write (file_in g bs n h) v c st) lock refl (guard g bs own x n h f s has.there v from (omega arith)))
    (head_guards g n (sizes_write g (file_in g bs n h) vbn) x bs own node locks s has.there.number refl refl lock (sizes_write g (file_in g bs n h) vbn) (inl refl))

-- a block of a file is no header
no_part : (g : Geometry) (bs : List Block) (own : Owners) (x : Cat) (n : ℕ) (h : Hdr) (f : File) (v i : ℕ) → Spells g bs own x → IsFileThere g x bs n h f → 1 ≤ v → v ≤ g.cluster * f.clusters
    → part_of g (file_place (file_in g bs n h) v) ≡ Some (Header i) → ⊥
no_part g bs own x n h f v i s there from to at = let both : None ≡ Some (Header i) = sym (lies g bs own x n h f s there v from to).no_part ∙ at in absurd (cc)

pub write_leaves : WriteLeaves
write_leaves g n h f vbn b x bs own s has =
    let flat : is_dir_told (fields_told (header_block g bs n)) ≡ false = ap is_dir_told (reads_fields (header_block g bs n) h has.there.reads) ∙ no_dir g bs own x n h f s has.there has.flat in
    each_write (λ w. (i : ℕ) → part_of g w.lbn ≡ Some (Header i) → KeepsRuns (header_block g bs i) w.block) g (file_in g bs n h) vbn b has.from
    (λ v from to c st i at. let top = has.to in absurd (no_part g bs own x n h f v i s has.there from (omega arith) at))
    (head_leaves g n (sizes_write g (file_in g bs n h) vbn) x bs own s has.there.number refl (NoDir flat) (sizes_write g (file_in g bs n h) vbn) (inl refl))

pub write_fills : WriteFills
write_fills g n h f vbn b x bs own took s has =
    each_write (λ w. (i : ℕ) → part_of g w.lbn ≡ Some (Header i) → MayFill own took i w.block) g (file_in g bs n h) vbn b has.from
    (λ v from to c st i at. let top = has.to in absurd (no_part g bs own x n h f v i s has.there from (omega arith) at))
    (file_fills g own took n n (sizes_write g (file_in g bs n h) vbn) (part_there g bs own x s (Header n) has.there.number) ((in_use g bs own x s n has.there.number).0 (ap (λ r. is_some (fields_in r)) has.there.reads)) (sizes_write g (file_in g bs n h) vbn) (inl refl))
