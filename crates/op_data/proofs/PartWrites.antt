-- A virtual block by the headers up to that which lists it: it stands where it does by all headers of the file, and its writes are those
-- by all headers.
use Rattle.std.proofs.Common.{◌≡◌, ◌≤◌, ◌<◌, ◌+◌, ◌-◌, ◌*◌, ◌/◌, ◌++◌, ℕ, zero, suc, Bool, true, false, cond, List, [], ◌∷◌, Some, map, refl, arith}
use Rattle.std.specs.Prelude.{nat_le}
use Rattle.std.specs.List.{range_with_len}
use Rattle.std.proofs.Math.Nat.{div-mul-le_self}
use Rattle.std.proofs.lemmas.Nat.{le-div}
use Rattle.std.proofs.lemmas.Bool.Decides.{nat_tests}
use Rattle.base_words.specs.Fields.{Block}
use Rattle.base_words.specs.Tables.{zeros}
use Rattle.fx_header.specs.declared.slot.Hdr.{Hdr}
use Rattle.lock_db.specs.declared.name.LockName.TheVariants.{S}
use Rattle.plain_cat.specs.declared.history.Stage.TheVariants as stage
use Rattle.plain_cat.specs.declared.cat.Cat.{Cat}
use Rattle.plain_rules.specs.Changes.{is_past_mark}
use Rattle.plain_rules.specs.Lookups.{header_most}
use Rattle.vol_parts.specs.declared.geometry.Geometry.{Geometry}
use Rattle.vol_spell.specs.Owners.{Owners}
use Rattle.vol_spell.specs.Reading.{IsFileNumber, header_block, fields_told}
use Rattle.vol_spell.specs.Spelling.{Spells}
use Rattle.op_law.specs.declared.need.PlanWrite.{PlanWrite}
use Rattle.op_law.specs.Channels.{sizes_write, written_header, block_writes}
use Rattle.op_law.specs.Headers.{part_file, whole_file}
use Rattle.op_law.specs.Refusing.{SeenFile}
use Rattle.op_law.specs.SeenFiles.{file_place, file_write}
use Rattle.op_law.specs.Writing.{write_at, empty_handed}
use Rattle.op_law.proofs.SeenRuns.{place_by_part}

module _ (g : Geometry) (bs : List Block) (own : Owners) (c : Cat) (s : Spells g bs own c) (n : ℕ) (h : Hdr) (is : IsFileNumber g n) (used : fields_told (header_block g bs n) ≡ Some h) (above : 11 < n)
    (vbn : ℕ) (from : 1 ≤ vbn) (to : vbn ≤ h.blocks) where
  -- the file by these headers, and by all
  abbrev pub part : SeenFile
  part = part_file g bs n h ((vbn - 1) / (header_most * g.cluster))

  abbrev whole : SeenFile
  whole = whole_file g bs n h

  -- each block up to this one stands where it does by all headers
  pub place_so : (v : ℕ) → 1 ≤ v → v ≤ vbn → file_place part v ≡ file_place whole v
  place_so v low le =
      let cluster = s.counts.geometry.cluster_from in
      let fits = div-mul-le_self (v - 1) (header_most * g.cluster) in
      let fewer : (v - 1) / (header_most * g.cluster) ≤ (vbn - 1) / (header_most * g.cluster) = le-div ((v - 1) / (header_most * g.cluster)) (vbn - 1) (header_most * g.cluster) (omega arith) (omega arith) in
      place_by_part g bs own c s n h is used above ((vbn - 1) / (header_most * g.cluster)) v low (omega arith) fewer

  -- so the zeros in front of it are written there
  zeros_so : (j m : ℕ) → 1 ≤ m → m + j ≤ vbn
      → ◌≡◌ {A = List PlanWrite} (map (λ v. file_write part v zeros stage.Nothing) (range_with_len m j)) (map (λ v. file_write whole v zeros stage.Nothing) (range_with_len m j))
  zeros_so zero m low le = refl
  zeros_so (suc j) m low le =
      let here = place_so m low (omega arith) in
      let behind = zeros_so j (m + 1) (omega arith) (omega arith) in
      λ i. write_at (S n) (here i) zeros stage.Nothing empty_handed ∷ behind i

  -- and so is the block
  pub writes_so : (b : Block) → block_writes g part vbn b ≡ block_writes g whole vbn b
  unfolding block_writes written_header
  writes_so b = by_past (is_past_mark whole.file vbn) refl where
    here : file_place part vbn ≡ file_place whole vbn
    here = place_so vbn from (omega arith)

    by_end : (t : Bool) → ◌≡◌ {A = List PlanWrite} (cond t (file_write part vbn b stage.DataOnly ∷ sizes_write g part vbn ∷ []) (file_write part vbn b stage.Done ∷ []))
        (cond t (file_write whole vbn b stage.DataOnly ∷ sizes_write g whole vbn ∷ []) (file_write whole vbn b stage.Done ∷ []))
    by_end true = λ i. write_at (S n) (here i) b stage.DataOnly empty_handed ∷ sizes_write g whole vbn ∷ []
    by_end false = λ i. write_at (S n) (here i) b stage.Done empty_handed ∷ []

    behind : is_past_mark whole.file vbn ≡ true → ◌≡◌ {A = List PlanWrite} (map (λ v. file_write part v zeros stage.Nothing) (range_with_len h.mark (vbn - h.mark)) ++ file_write part vbn b stage.Nothing ∷ sizes_write g part vbn ∷ [])
        (map (λ v. file_write whole v zeros stage.Nothing) (range_with_len h.mark (vbn - h.mark)) ++ file_write whole vbn b stage.Nothing ∷ sizes_write g whole vbn ∷ [])
    behind past =
        let low : 1 ≤ h.mark = grind (arith, nat_tests) in
        let le : h.mark ≤ vbn = grind (arith, nat_tests) in
        let all = zeros_so (vbn - h.mark) h.mark low (omega arith) in
        λ i. all i ++ write_at (S n) (here i) b stage.Nothing empty_handed ∷ sizes_write g whole vbn ∷ []

    by_past : (t : Bool) → is_past_mark whole.file vbn ≡ t → ◌≡◌ {A = List PlanWrite} (cond t (map (λ v. file_write part v zeros stage.Nothing) (range_with_len h.mark (vbn - h.mark)) ++ file_write part vbn b stage.Nothing ∷ sizes_write g part vbn ∷ [])
        (cond (nat_le h.end vbn) (file_write part vbn b stage.DataOnly ∷ sizes_write g part vbn ∷ []) (file_write part vbn b stage.Done ∷ [])))
        (cond t (map (λ v. file_write whole v zeros stage.Nothing) (range_with_len h.mark (vbn - h.mark)) ++ file_write whole vbn b stage.Nothing ∷ sizes_write g whole vbn ∷ [])
        (cond (nat_le h.end vbn) (file_write whole vbn b stage.DataOnly ∷ sizes_write g whole vbn ∷ []) (file_write whole vbn b stage.Done ∷ [])))
    by_past true past = behind past
    by_past false past = by_end (nat_le h.end vbn)
