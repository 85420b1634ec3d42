-- The runs of a file that was seen, and where its blocks stand. With all headers of the file its runs are those that are told of it
-- (`seen_runs`, `seen_clusters`), and its numbers are its header slots (`seen_numbers`, `seen_last`). With the first k others they are
-- what these headers list (`part_runs`), and a virtual block that lies in them stands where it does by all headers (`place_by_part`),
-- and is listed (`part_reaches`). So many are asked for as are there (`part_within`). All runs end at or before LBN 65,536
-- (`part_inside`, `whole_inside`), and those of all headers have as many blocks as the first header says (`whole_count`).
use Rattle.std.proofs.Common.{◌≡◌, ◌≤◌, ◌<◌, ◌+◌, ◌-◌, ◌*◌, ◌/◌, ◌∙◌, ◌==◌, inl, inr, ℕ, zero, suc, true, List, [], ◌∷◌, ◌++◌, Some, Ok, length, map, take, drop, min, All, flat_map, sum_by, refl, sym, ap, subst, arith, append-nil}
use Rattle.std.specs.Prelude.{slice_index_or}
use Rattle.std.specs.List.{range_with_len}
use Rattle.std.proofs.Math.Nat.{mul-le-mul_left, div-lt_iff_lt-mul, div-div-eq-div-mul, lt-mul-div-succ}
use Rattle.std.proofs.Math.ListN.{take-append-drop, get_or-append}
use Rattle.std.proofs.lemmas.Bool.{cases_lt, and_parts, eqb-true}
use Rattle.std.proofs.lemmas.List.{length-map, length-take, get_or-take, take_all}
use Rattle.std.proofs.lemmas.List.Concat.{flat_map-append}
use Rattle.std.proofs.lemmas.List.Sums.{sum_by-cons}
use Rattle.base_words.specs.Fields.{Block}
use Rattle.fx_header.specs.declared.run.Run.{Run}
use Rattle.fx_header.specs.declared.slot.Hdr.{Hdr}
use Rattle.fx_header.specs.declared.slot.Slot.TheVariants.{Used}
use Rattle.fx_header.specs.Headers.{header_read, runs_in}
use Rattle.fx_header.specs.Pointers.{blocks_in, lbns_in}
use Rattle.plain_cat.specs.declared.cat.Cat.{Cat}
use Rattle.plain_rules.specs.Lookups.{header_most}
use Rattle.vol_parts.specs.declared.geometry.Geometry.{Geometry}
use Rattle.vol_parts.specs.Chains.{Headers, held, cut, last_slot, are_filled, are_parts_filled, is_well_split}
use Rattle.vol_parts.specs.Volumes.{fields_in, runs_with, chain_from}
use Rattle.vol_parts.proofs.Cuts.{cut-takes}
use Rattle.vol_parts.proofs.Linked.{blocks-listed}
use Rattle.vol_parts.proofs.Sizes.{length-lbns_in}
use Rattle.vol_spell.specs.Owners.{Owners}
use Rattle.vol_spell.specs.Reading.{IsFileNumber, header_block, headers_at, head_told, fields_told, told_of, runs_told, clusters_of, clusters_told}
use Rattle.vol_spell.specs.Spelling.{AreWhole, size_in, Spells}
use Rattle.vol_spell.proofs.Heads.{first_reads}
use Rattle.vol_spell.proofs.HeadSlots.{reads_runs}
use Rattle.vol_spell.proofs.Parts.{told}
use Rattle.op_law.specs.Headers.{slots_seen, numbers_of, last_header, placed, others_told, headers_behind, part_file, whole_file}
use Rattle.op_law.specs.SeenFiles.{runs_seen, runs_by, runs_listed, file_clusters, file_place}
use Rattle.op_law.specs.Readable.{EndsInside}
use Rattle.op_law.proofs.Heads.{front_whole, runs_inside}
use Rattle.op_law.proofs.Chains.{slots_begin, size_whole, others_count}

-- ---- by the first header alone

-- The runs of a file by its header alone: the first of those that it lists, as far as the file's blocks go.
pub lone_runs : (b : Block) (h : Hdr) → header_read b ≡ Ok (Used h) → runs_by h.blocks b [] ≡ cut h.blocks (runs_in b)
lone_runs b h reads =
    let all : runs_listed b ≡ runs_in b = ap (λ r. runs_with (fields_in r) b) reads in
    ap (cut h.blocks) (append-nil (runs_listed b) ∙ all)

-- so they are those that are told by this header
pub first_runs : (b : Block) (h : Hdr) → head_told b ≡ Ok (Used h) → runs_by h.blocks b [] ≡ runs_told b
first_runs b h reads = lone_runs b h (first_reads b h reads) ∙ sym (reads_runs b h reads)

-- ---- by the headers that were seen

-- the runs that headers list which were seen are those of their slots
listed_behind : (g : Geometry) (bs : List Block) (k : ℕ) (ms : List ℕ) → flat_map (λ (x : ℕ × Block). runs_listed x.1) (take k (map (placed g bs) ms)) ≡ flat_map (headers_at g bs).lists (take k ms)
listed_behind g bs zero ms = refl
listed_behind g bs (suc k) [] = refl
listed_behind g bs (suc k) (m ∷ ms) = ap (λ rs. runs_listed (header_block g bs m) ++ rs) (listed_behind g bs k ms)

-- and so are their numbers
numbers_behind : (g : Geometry) (bs : List Block) (ms : List ℕ) → slots_seen g (map (placed g bs) ms) ≡ ms
numbers_behind g bs [] = refl
numbers_behind g bs (m ∷ ms) =
    let here : 4 * g.cluster + m - 4 * g.cluster ≡ m = omega arith in
    λ i. here i ∷ numbers_behind g bs ms i

last_behind : (g : Geometry) (bs : List Block) (n : ℕ) (ms : List ℕ) → last_header g n (header_block g bs n) (map (placed g bs) ms) ≡ (last_slot n ms, header_block g bs (last_slot n ms))
last_behind g bs n [] = refl
last_behind g bs n (m ∷ ms) =
    let here : 4 * g.cluster + m - 4 * g.cluster ≡ m = omega arith in
    ap (λ j. last_header g j (header_block g bs m) (map (placed g bs) ms)) here ∙ last_behind g bs m ms

-- ---- headers that are full

-- of headers that are filled all but the last have as many blocks as a header can list
first_full : (hs : Headers) (full left n j : ℕ) (ms : List ℕ) → are_filled full left (hs.lists n) (map hs.lists ms) ≡ true → j ≤ length ms → sum_by (held hs) (take j (n ∷ ms)) ≡ j * full
first_full hs full left n zero ms filled le = let z : 0 ≡ 0 * full = omega arith in z
first_full hs full left n (suc j) [] filled le = absurd (omega arith)
first_full hs full left n (suc j) (m ∷ ms) filled le =
    let parts = and_parts (held hs n == full) (are_filled full (left - held hs n) (hs.lists m) (map hs.lists ms)) filled in
    let here : held hs n ≡ full = eqb-true (held hs n) full parts.0 in
    let behind = first_full hs full (left - held hs n) m j ms parts.1 (omega arith) in
    let e : suc j * full ≡ full + j * full = omega arith in
    sum_by-cons (held hs) n (take j (m ∷ ms)) ∙ (λ i. here i + behind i) ∙ sym e

-- a block that is cut off by none of both stands in the front part where it does in all
cut_place : (k i : ℕ) (xs ys : List ℕ) → i < k → i < length xs → slice_index_or (take k xs) i 0 ≡ slice_index_or (take k (xs ++ ys)) i 0
cut_place k i xs ys lt within = get_or-take k xs i 0 lt ∙ sym (get_or-append xs ys 0 i within) ∙ sym (get_or-take k (xs ++ ys) i 0 lt)

-- ---- the file

module _ (g : Geometry) (bs : List Block) (n : ℕ) (h : Hdr) (used : fields_told (header_block g bs n) ≡ Some h) where
  -- what the first header and the first k others list, as far as the file's blocks go
  pub part_runs : (k : ℕ) → runs_seen (part_file g bs n h k) ≡ cut h.blocks (flat_map (headers_at g bs).lists (take (suc k) (told_of g bs n).slots))
  part_runs k =
      ap (λ rs. cut h.blocks (runs_listed (header_block g bs n) ++ rs)) (listed_behind g bs k (others_told g bs n))
      ∙ ap (λ ns. cut h.blocks (flat_map (headers_at g bs).lists (take (suc k) ns))) (sym (slots_begin g bs n h used))

  told_runs : (told_of g bs n).runs ≡ cut h.blocks (flat_map (headers_at g bs).lists (told_of g bs n).slots)
  told_runs = ap (λ o. (chain_from (headers_at g bs) n o).runs) used ∙ ap (λ o. cut h.blocks (flat_map (headers_at g bs).lists (chain_from (headers_at g bs) n o).slots)) (sym used)

  -- a file that was seen with as many other headers as it has was seen whole
  pub part_whole : (k : ℕ) → length (others_told g bs n) ≤ k → part_file g bs n h k ≡ whole_file g bs n h
  part_whole k le =
      let many : length (headers_behind g bs n) ≡ length (others_told g bs n) = length-map (others_told g bs n) (placed g bs) in
      let all : take k (headers_behind g bs n) ≡ headers_behind g bs n = take_all k (headers_behind g bs n) (omega arith) in
      ap (λ xs. record (whole_file g bs n h) { rest = xs }) all

  -- its runs are those that are told of it
  pub seen_runs : runs_seen (whole_file g bs n h) ≡ (told_of g bs n).runs
  seen_runs =
      let k = length (told_of g bs n).slots in
      let one : k ≡ suc (length (others_told g bs n)) = ap length (slots_begin g bs n h used) in
      ap runs_seen (sym (part_whole k (omega arith))) ∙ part_runs k
      ∙ ap (λ ns. cut h.blocks (flat_map (headers_at g bs).lists ns)) (take_all (suc k) (told_of g bs n).slots (omega arith)) ∙ sym told_runs

  pub seen_clusters : file_clusters g (whole_file g bs n h) ≡ clusters_told g (told_of g bs n)
  seen_clusters = ap (clusters_of g.cluster) seen_runs

  -- its numbers are its header slots
  pub seen_numbers : numbers_of g (whole_file g bs n h) ≡ (told_of g bs n).slots
  seen_numbers = ap (λ ns. n ∷ ns) (numbers_behind g bs (others_told g bs n)) ∙ sym (slots_begin g bs n h used)

  -- and its last header is the one in the last of them
  pub seen_last : last_header g n (header_block g bs n) (headers_behind g bs n) ≡ (last_slot n (others_told g bs n), header_block g bs (last_slot n (others_told g bs n)))
  seen_last = last_behind g bs n (others_told g bs n)

  -- a file that has one slot has no other header
  pub one_behind : (told_of g bs n).slots ≡ n ∷ [] → headers_behind g bs n ≡ []
  one_behind one = ap (λ ns. map (placed g bs) (drop 1 ns)) one

-- ---- where blocks stand

module _ (g : Geometry) (bs : List Block) (own : Owners) (c : Cat) (s : Spells g bs own c) (n : ℕ) (h : Hdr) (is : IsFileNumber g n) (used : fields_told (header_block g bs n) ≡ Some h) where
  -- the runs that were seen of a file end at or before LBN 65,536
  pub part_inside : (k : ℕ) → All EndsInside (runs_seen (part_file g bs n h k))
  part_inside k =
      let hs : Headers = headers_at g bs in
      let ns : List ℕ = (told_of g bs n).slots in
      let front : List Run = flat_map hs.lists (take (suc k) ns) in
      let behind : List Run = flat_map hs.lists (drop (suc k) ns) in
      let parted : flat_map hs.lists ns ≡ front ++ behind = ap (flat_map hs.lists) (sym (take-append-drop (suc k) ns)) ∙ flat_map-append hs.lists (take (suc k) ns) (drop (suc k) ns) in
      let all : AreWhole g (cut h.blocks (front ++ behind)) = subst (AreWhole g) (told_runs g bs n h used ∙ ap (cut h.blocks) parted) (told g bs own c s n is).whole in
      subst (λ (rs : List Run). All EndsInside rs) (sym (part_runs g bs n h used k)) (runs_inside g (cut h.blocks front) s.counts.geometry (front_whole g h.blocks front behind all))

  pub whole_inside : All EndsInside (runs_seen (whole_file g bs n h))
  whole_inside = subst (λ (rs : List Run). All EndsInside rs) (sym (seen_runs g bs n h used)) (runs_inside g (told_of g bs n).runs s.counts.geometry (told g bs own c s n is).whole)

  -- all runs of a file have as many blocks as its first header says
  pub whole_count : length (lbns_in (runs_seen (whole_file g bs n h))) ≡ h.blocks
  whole_count = ap (λ rs. length (lbns_in rs)) (seen_runs g bs n h used) ∙ length-lbns_in (told_of g bs n).runs ∙ (told g bs own c s n is).size ∙ ap size_in used

module _ (g : Geometry) (bs : List Block) (own : Owners) (c : Cat) (s : Spells g bs own c) (n : ℕ) (h : Hdr) (is : IsFileNumber g n) (used : fields_told (header_block g bs n) ≡ Some h) (above : 11 < n) where
  -- the headers up to that of a virtual block are there
  pub part_within : (vbn : ℕ) → 1 ≤ vbn → vbn ≤ h.blocks → (vbn - 1) / (header_most * g.cluster) ≤ length (others_told g bs n)
  part_within vbn some le =
      let k = h.blocks / g.cluster in
      let whole : k * g.cluster ≡ h.blocks = size_whole g bs own c s n h is used in
      let count : length (others_told g bs n) ≡ (k - 1) / 77 = others_count g bs own c s n h is used above in
      let cluster : (vbn - 1) / g.cluster < k = (div-lt_iff_lt-mul s.counts.geometry.cluster_from).1 (omega arith) in
      let parted : (vbn - 1) / g.cluster / 77 ≡ (vbn - 1) / (g.cluster * 77) = div-div-eq-div-mul (vbn - 1) g.cluster 77 in
      let turned : g.cluster * 77 ≡ 77 * g.cluster = omega arith in
      let same : (vbn - 1) / (g.cluster * 77) ≡ (vbn - 1) / (77 * g.cluster) = ap (λ m. (vbn - 1) / m) turned in
      omega arith

  -- headers of the file but the last list as many blocks as a header can
  pub slots_full : (j : ℕ) → j ≤ length (others_told g bs n) → length (lbns_in (flat_map (headers_at g bs).lists (take j (told_of g bs n).slots))) ≡ j * (header_most * g.cluster)
  unfolding is_well_split
  slots_full j le =
      let hs : Headers = headers_at g bs in
      let slots = slots_begin g bs n h used in
      let parts : (told_of g bs n).parts ≡ map hs.lists (n ∷ others_told g bs n) =
      ap (λ o. (chain_from hs n o).parts) used ∙ ap (λ o. map hs.lists (chain_from hs n o).slots) (sym used) ∙ ap (map hs.lists) slots in
      let filled : are_filled (77 * g.cluster) (blocks_in (told_of g bs n).runs) (hs.lists n) (map hs.lists (others_told g bs n)) ≡ true =
      ap (are_parts_filled (77 * g.cluster) (blocks_in (told_of g bs n).runs)) (sym parts) ∙ (told g bs own c s n is).split above in
      length-lbns_in (flat_map hs.lists (take j (told_of g bs n).slots)) ∙ blocks-listed hs (take j (told_of g bs n).slots)
      ∙ ap (λ ns. sum_by (held hs) (take j ns)) slots ∙ first_full hs (77 * g.cluster) (blocks_in (told_of g bs n).runs) n j (others_told g bs n) filled le

  -- the headers up to that of a virtual block list it
  part_lists : (k vbn : ℕ) → k < length (others_told g bs n) → 1 ≤ vbn → (vbn - 1) / (header_most * g.cluster) ≤ k
      → vbn - 1 < length (lbns_in (flat_map (headers_at g bs).lists (take (suc k) (told_of g bs n).slots)))
  part_lists k vbn more some enough =
      let full : length (lbns_in (flat_map (headers_at g bs).lists (take (suc k) (told_of g bs n).slots))) ≡ suc k * (77 * g.cluster) = slots_full (suc k) (omega arith) in
      let low : 1 ≤ g.cluster = s.counts.geometry.cluster_from in
      let last : vbn - 1 < 77 * g.cluster * ((vbn - 1) / (77 * g.cluster) + 1) = lt-mul-div-succ (vbn - 1) (omega arith) in
      let most : 77 * g.cluster * ((vbn - 1) / (77 * g.cluster) + 1) ≤ 77 * g.cluster * (k + 1) = mul-le-mul_left (77 * g.cluster) (omega arith) in
      let turned : suc k * (77 * g.cluster) ≡ 77 * g.cluster * (k + 1) = omega arith in
      omega arith

  -- a virtual block that the headers list which were seen stands where it does by all headers
  pub place_by_part : (k vbn : ℕ) → 1 ≤ vbn → vbn ≤ h.blocks → (vbn - 1) / (header_most * g.cluster) ≤ k → file_place (part_file g bs n h k) vbn ≡ file_place (whole_file g bs n h) vbn
  place_by_part k vbn some le enough = elim (cases_lt k (length (others_told g bs n))) [
    | inl more ↦ by_front more
    | inr all ↦ ap (λ f. file_place f vbn) (part_whole g bs n h used k all)
  ]
    where
      parted : (xs ys : List ℕ) → lbns_in (flat_map (headers_at g bs).lists (xs ++ ys)) ≡ lbns_in (flat_map (headers_at g bs).lists xs) ++ lbns_in (flat_map (headers_at g bs).lists ys)
      parted xs ys = ap lbns_in (flat_map-append (headers_at g bs).lists xs ys)
          ∙ flat_map-append (λ (r : Run). range_with_len r.lbn r.count) (flat_map (headers_at g bs).lists xs) (flat_map (headers_at g bs).lists ys)

      by_front : k < length (others_told g bs n) → file_place (part_file g bs n h k) vbn ≡ file_place (whole_file g bs n h) vbn
      by_front more =
          let ns : List ℕ = (told_of g bs n).slots in
          let front = lbns_in (flat_map (headers_at g bs).lists (take (suc k) ns)) in
          let behind = lbns_in (flat_map (headers_at g bs).lists (drop (suc k) ns)) in
          let part : lbns_in (runs_seen (part_file g bs n h k)) ≡ take h.blocks front = ap lbns_in (part_runs g bs n h used k) ∙ cut-takes h.blocks (flat_map (headers_at g bs).lists (take (suc k) ns)) in
          let all : lbns_in (runs_seen (whole_file g bs n h)) ≡ take h.blocks (front ++ behind) =
          ap lbns_in (seen_runs g bs n h used ∙ told_runs g bs n h used) ∙ cut-takes h.blocks (flat_map (headers_at g bs).lists ns)
          ∙ ap (take h.blocks) (ap (λ ms. lbns_in (flat_map (headers_at g bs).lists ms)) (sym (take-append-drop (suc k) ns)) ∙ parted (take (suc k) ns) (drop (suc k) ns)) in
          ap (λ ls. slice_index_or ls (vbn - 1) 0) part ∙ cut_place h.blocks (vbn - 1) front behind (omega arith) (part_lists k vbn more some enough) ∙ ap (λ ls. slice_index_or ls (vbn - 1) 0) (sym all)

  -- and it is there
  pub part_reaches : (k vbn : ℕ) → 1 ≤ vbn → vbn ≤ h.blocks → (vbn - 1) / (header_most * g.cluster) ≤ k → vbn - 1 < length (lbns_in (runs_seen (part_file g bs n h k)))
  part_reaches k vbn some le enough = elim (cases_lt k (length (others_told g bs n))) [
    | inl more ↦
        let front = lbns_in (flat_map (headers_at g bs).lists (take (suc k) (told_of g bs n).slots)) in
        let part : length (lbns_in (runs_seen (part_file g bs n h k))) ≡ min h.blocks (length front) =
        ap length (ap lbns_in (part_runs g bs n h used k) ∙ cut-takes h.blocks (flat_map (headers_at g bs).lists (take (suc k) (told_of g bs n).slots))) ∙ length-take h.blocks front in
        let there : vbn - 1 < length front = part_lists k vbn more some enough in
        omega arith
    | inr all ↦
        let whole : length (lbns_in (runs_seen (part_file g bs n h k))) ≡ h.blocks = ap (λ f. length (lbns_in (runs_seen f))) (part_whole g bs n h used k all) ∙ whole_count g bs own c s n h is used in
        omega arith
  ]
