-- What a header tells of the catalogue that the blocks spell.
use Rattle.std.proofs.Common.{◌≡◌, ◌≤◌, ◌<◌, ◌+◌, ◌-◌, ◌*◌, ◌/◌, ◌∙◌, ℕ, Bool, true, false, cond, List, [], ◌∷◌, Option, Some, None, length, slice_get, refl, sym, ap, subst, arith}
use Rattle.std.specs.Prelude.{◌==◌, ◌&&◌, not, option_map, Result, Ok, Err, if◌then◌else◌}
use Rattle.std.specs.List.{range_with_len}
use Rattle.std.proofs.lemmas.Bool.Decides.{nat_tests}
use Rattle.std.proofs.lemmas.Option.{slice_get-map}
use Rattle.std.proofs.lemmas.Nat.{div-mul-add}
use Rattle.base_words.specs.Fields.{Block}
use Rattle.fx_header.specs.declared.slot.Hdr.{Hdr}
use Rattle.fx_header.specs.declared.slot.HeaderFault.{HeaderFault}
use Rattle.fx_header.specs.declared.slot.Slot.{Slot as Head}
use Rattle.fx_header.specs.declared.slot.Slot.TheVariants as head
use Rattle.fx_header.specs.Headers.{header_read, runs_in}
use Rattle.fx_header.specs.Pointers.{blocks_in, lbns_in}
use Rattle.fx_dir.specs.Directory.{directory}
use Rattle.plain_cat.specs.declared.cat.Cat.{Cat}
use Rattle.plain_cat.specs.declared.cat.File.{File}
use Rattle.plain_rules.specs.Lookups.{slot_at, file_in, file_at}
use Rattle.vol_parts.specs.declared.geometry.Geometry.{Geometry}
use Rattle.vol_parts.specs.declared.finding.Finding.TheVariants as finding
use Rattle.vol_parts.specs.Chains.{as_first, cut}
use Rattle.vol_parts.specs.Fatal.{is_one_header, has_dir_size, found_in}
use Rattle.vol_parts.specs.Volumes.{fields_in, Told}
use Rattle.vol_parts.specs.Catalogues.{is_structure, slot_with, slot_of, files_of, file_of}
use Rattle.vol_spell.specs.Owners.{Owners}
use Rattle.vol_spell.specs.Reading.{IsFileNumber, volume_of, header_block, head_told, told_of, fields_told, alone, runs_first, runs_told, clusters_told, body_blocks}
use Rattle.vol_spell.specs.Spelling.{dir_found, size_in, has_one_at_most, Spells}
use Rattle.vol_spell.specs.Spread.{blocks_at}
use Rattle.vol_spell.specs.Files.{blocks_told}
use Rattle.vol_spell.proofs.Heads.{first_reads}
use Rattle.vol_spell.proofs.OneHeader.{one_slot, told_alone, alone_enough, alone_whole}
use Rattle.vol_spell.proofs.Parts.{told}
use Rattle.vol_spell.proofs.Runs.{size_of_runs}
use Rattle.vol_spell.proofs.Told.{told_by, slot_there_of}
use Rattle.vol_spell.proofs.Viewing.{get_range}

-- a file that holds no parts of the volume has none to keep
pub no_parts : {A : Type 0} (n : ℕ) → is_structure n ≡ false → is_structure n ≡ true → A
no_parts n plain e = absurd (let f : true ≡ false = sym e ∙ plain in cc)

pub reads_fields : (b : Block) (h : Hdr) → head_told b ≡ Ok (head.Used h) → fields_told b ≡ Some h
reads_fields b h e = ap fields_in e

pub reads_runs : (b : Block) (h : Hdr) → head_told b ≡ Ok (head.Used h) → runs_told b ≡ cut h.blocks (runs_in b)
reads_runs b h e = ap (λ o. runs_first o b) (reads_fields b h e)

pub quotient : (k w : ℕ) → 1 ≤ w → k * w / w ≡ k
quotient k w low = ap (λ x. x / w) (let z : k * w ≡ k * w + 0 = omega arith in z) ∙ div-mul-add k w 0 (omega arith)

-- a fault that is told is one that is read
err_first : (r : Result Head HeaderFault) (fault : HeaderFault) → as_first r ≡ Err fault → r ≡ Err fault
err_first (Ok (head.Used f)) fault e = absurd (by_segment (f.seg == 0) e) where
  by_segment : (t : Bool) → (if t then Ok (head.Used f) else Ok (head.Free f.seq)) ≡ Err fault → ⊥
  by_segment true e = cc
  by_segment false e = cc
err_first (Ok (head.Free seq)) fault e = absurd (cc)
err_first (Err other) fault e = e

-- a directory in which nothing is found has one header
pub dir_alone : (g : Geometry) (n : ℕ) (f : Hdr) (t : Told) (blocks : List Block) → f.dir ≡ true → dir_found g n (Some f) t blocks ≡ None → is_one_header f t ≡ true
dir_alone g n f t blocks dir none =
    by_one (is_one_header f t) (has_dir_size g.cluster f t.runs)
    (ap (λ q. cond (not q) None (cond (is_one_header f t && has_dir_size g.cluster f t.runs) (found_in n (directory blocks)) (Some (finding.DirSize n)))) (sym dir) ∙ none)
  where
    by_one : (a b : Bool) → cond (a && b) (found_in n (directory blocks)) (Some (finding.DirSize n)) ≡ None → a ≡ true
    by_one true b e = refl
    by_one false b e = absurd (cc)

-- what is told of a file of one header is told by this header
pub alone_told : (g : Geometry) (bs : List Block) (n : ℕ) (h : Hdr) → head_told (header_block g bs n) ≡ Ok (head.Used h) → (told_of g bs n).slots ≡ n ∷ [] → told_of g bs n ≡ alone n h (header_block g bs n)
alone_told g bs n h e one = told_alone g bs n h (reads_fields (header_block g bs n) h e) one

-- its runs are the first of those that this header lists
pub alone_runs : (g : Geometry) (bs : List Block) (n : ℕ) (h : Hdr) → head_told (header_block g bs n) ≡ Ok (head.Used h) → (told_of g bs n).slots ≡ n ∷ [] → (told_of g bs n).runs ≡ runs_told (header_block g bs n)
alone_runs g bs n h e one = ap (λ (t : Told). t.runs) (alone_told g bs n h e one) ∙ sym (reads_runs (header_block g bs n) h e)

module _ (g : Geometry) (bs : List Block) (own : Owners) (c : Cat) (s : Spells g bs own c) where
  -- a system file has one header, which lists just its blocks
  pub system_slot : (n : ℕ) (h : Hdr) → IsFileNumber g n → head_told (header_block g bs n) ≡ Ok (head.Used h) → n ≤ 11 → (told_of g bs n).slots ≡ n ∷ []
  system_slot n h is e low = one_slot g bs n h (reads_fields (header_block g bs n) h e) ((told g bs own c s n is).system low)

  pub system_one : (n : ℕ) (h : Hdr) → IsFileNumber g n → head_told (header_block g bs n) ≡ Ok (head.Used h) → n ≤ 11 → is_one_header h (alone n h (header_block g bs n)) ≡ true
  system_one n h is e low =
      subst (λ (t : Told). has_one_at_most (fields_in t.head) t ≡ true) (alone_told g bs n h e (system_slot n h is e low)) ((told g bs own c s n is).system low)

  pub system_runs : (n : ℕ) (h : Hdr) → IsFileNumber g n → head_told (header_block g bs n) ≡ Ok (head.Used h) → n ≤ 11 → (told_of g bs n).runs ≡ runs_in (header_block g bs n)
  system_runs n h is e low = ap (λ (t : Told). t.runs) (alone_told g bs n h e (system_slot n h is e low)) ∙ alone_whole n h (header_block g bs n) (system_one n h is e low)

  -- and so has a directory
  pub dir_slot : (n : ℕ) (h : Hdr) → IsFileNumber g n → head_told (header_block g bs n) ≡ Ok (head.Used h) → h.dir ≡ true → (told_of g bs n).slots ≡ n ∷ []
  dir_slot n h is e dir = one_slot g bs n h (reads_fields (header_block g bs n) h e) (ap (λ r. has_one_at_most (fields_in r) (told_of g bs n)) e ∙ one) where
    one : is_one_header h (told_of g bs n) ≡ true
    one =
        dir_alone g n h (told_of g bs n) (body_blocks bs n (told_of g bs n)) dir
        (ap (λ r. dir_found g n (fields_in r) (told_of g bs n) (body_blocks bs n (told_of g bs n))) (sym e) ∙ (told g bs own c s n is).dir)

  pub dir_one : (n : ℕ) (h : Hdr) → IsFileNumber g n → head_told (header_block g bs n) ≡ Ok (head.Used h) → h.dir ≡ true → is_one_header h (alone n h (header_block g bs n)) ≡ true
  dir_one n h is e dir =
      dir_alone g n h (alone n h (header_block g bs n)) (body_blocks bs n (told_of g bs n)) dir
      (subst (λ (t : Told). dir_found g n (fields_in t.head) t (body_blocks bs n (told_of g bs n)) ≡ None) (alone_told g bs n h e (dir_slot n h is e dir)) (told g bs own c s n is).dir)

  pub dir_runs : (n : ℕ) (h : Hdr) → IsFileNumber g n → head_told (header_block g bs n) ≡ Ok (head.Used h) → h.dir ≡ true → (told_of g bs n).runs ≡ runs_in (header_block g bs n)
  dir_runs n h is e dir = ap (λ (t : Told). t.runs) (alone_told g bs n h e (dir_slot n h is e dir)) ∙ alone_whole n h (header_block g bs n) (dir_one n h is e dir)

  -- one header lists all blocks of its file
  pub listed_enough : (n : ℕ) (h : Hdr) → IsFileNumber g n → head_told (header_block g bs n) ≡ Ok (head.Used h) → (told_of g bs n).slots ≡ n ∷ [] → h.blocks ≤ blocks_in (runs_in (header_block g bs n))
  listed_enough n h is e one =
      alone_enough h (header_block g bs n) (subst (λ (t : Told). blocks_in t.runs ≡ size_in (fields_in t.head)) (alone_told g bs n h e one) (told g bs own c s n is).size)

  listed_slot : (n : ℕ) → IsFileNumber g n → slice_get (files_of (volume_of g bs)) (n - 1) ≡ Some (slot_of (volume_of g bs) n)
  unfolding files_of
  listed_slot n is =
      let a = is.from in
      let b = is.to in
      let e : 1 + (n - 1) ≡ n = omega arith in
      let lt : n - 1 < g.files = omega arith in
      slice_get-map (slot_of (volume_of g bs)) (range_with_len 1 g.files) (n - 1) ∙ ap (option_map (slot_of (volume_of g bs))) (get_range 1 g.files (n - 1) lt ∙ ap (λ x. Some x) e)

  -- the slot of a number, by the block of its first header
  pub slot_is : (n : ℕ) → IsFileNumber g n → slot_at c n ≡ Some (slot_with g.cluster n (head_told (header_block g bs n)) (blocks_told g bs n))
  slot_is n is =
      let t = told_by g bs own c s in
      let a = is.from in
      let z : (n == 0) ≡ false = grind (arith, nat_tests) in
      ap (λ x. cond x None (slice_get c.files (n - 1))) z ∙ ap (λ xs. slice_get xs (n - 1)) t.files ∙ listed_slot n is
      ∙ ap (λ x. Some x) (slot_there_of (volume_of g bs) n (told_of g bs n) (blocks_at bs (lbns_in (told_of g bs n).runs)) (t.told n is) (t.bodies n is))

  -- the file of a number whose header is in use
  pub file_told_at : (n : ℕ) (h : Hdr) → IsFileNumber g n → head_told (header_block g bs n) ≡ Ok (head.Used h) → file_at c n ≡ Some (file_of g.cluster n h (blocks_told g bs n))
  file_told_at n h is e = ap file_in (slot_is n is) ∙ ap (λ r. file_in (Some (slot_with g.cluster n r (blocks_told g bs n)))) e

  -- the header of a number that has a file is its first one
  pub file_first : (n : ℕ) (h : Hdr) (f : File) → IsFileNumber g n → header_read (header_block g bs n) ≡ Ok (head.Used h) → file_at c n ≡ Some f → head_told (header_block g bs n) ≡ Ok (head.Used h)
  file_first n h f is e at = by_head (head_told (header_block g bs n)) refl (ap file_in (sym (slot_is n is)) ∙ at) where
    by_head : (r : Result Head HeaderFault) → head_told (header_block g bs n) ≡ r → file_in (Some (slot_with g.cluster n (head_told (header_block g bs n)) (blocks_told g bs n))) ≡ Some f
        → head_told (header_block g bs n) ≡ Ok (head.Used h)
    by_head (Ok (head.Used x)) is_head file =
        let both : ◌≡◌ {A = Result Head HeaderFault} (Ok (head.Used x)) (Ok (head.Used h)) = sym (first_reads (header_block g bs n) x is_head) ∙ e in
        is_head ∙ both
    by_head (Ok (head.Free seq)) is_head file = absurd (no_file (ap (λ r. file_in (Some (slot_with g.cluster n r (blocks_told g bs n)))) (sym is_head) ∙ file)) where
      no_file : ◌≡◌ {A = Option File} None (Some f) → ⊥
      no_file q = cc
    by_head (Err fault) is_head file = absurd (let q : header_read (header_block g bs n) ≡ Err fault = err_first (header_read (header_block g bs n)) fault is_head in let both : ◌≡◌ {A = Result Head HeaderFault} (Ok (head.Used h)) (Err fault) = sym e ∙ q in cc)

  -- a header of a file says as many blocks as the file's clusters have
  pub blocks_whole : (n : ℕ) (h : Hdr) → IsFileNumber g n → head_told (header_block g bs n) ≡ Ok (head.Used h) → c.factor * (h.blocks / g.cluster) ≡ h.blocks
  blocks_whole n h is e =
      let t = told g bs own c s n is in
      let low = s.counts.geometry.cluster_from in
      let k = length (clusters_told g (told_of g bs n)) in
      let count : k * g.cluster ≡ blocks_in (told_of g bs n).runs = size_of_runs g (told_of g bs n).runs low t.whole in
      let said : blocks_in (told_of g bs n).runs ≡ h.blocks = t.size ∙ ap size_in (reads_fields (header_block g bs n) h e) in
      divided c.factor g.cluster h.blocks k s.constants.factor low (sym said ∙ sym count) where
        divided : (f w x k : ℕ) → f ≡ w → 1 ≤ w → x ≡ k * w → f * (x / w) ≡ x
        divided f w x k a low e = rw (a, e) (ap (λ y. w * y) (quotient k w low) ∙ (let z : w * k ≡ k * w = omega arith in z))
