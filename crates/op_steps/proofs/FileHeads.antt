-- The header of a new file: what is read of it, and that it is a whole block.
use Rattle.std.proofs.Common.{◌≡◌, ◌<◌, ◌≤◌, ◌+◌, ◌*◌, ◌++◌, ℕ, Bool, true, false, List, [], ◌∷◌, Some, None, length, refl, sym, ap, ◌∙◌, inl, inr, arith, cond, lit<, Ok}
use Rattle.std.specs.Prelude.{◌==◌, ◌&&◌, not, codes, decimal}
use Rattle.std.proofs.lemmas.Bool.{eq-eqb}
use Rattle.std.proofs.lemmas.Bool.Decides.{nat_tests}
use Rattle.std.proofs.Math.Nat.{mul-div_cancel_left, mul-le-mul_right}
use Rattle.std.proofs.lemmas.Fmt.{IsAscii-decimal}
use Rattle.base_words.specs.Fields.{Block, IsBytes, IsWholeBlock}
use Rattle.fx_dir.specs.Directory.{directory}
use Rattle.fx_header.specs.declared.slot.Slot.TheVariants as head
use Rattle.fx_header.specs.Pointers.{merged, map_words, blocks_in}
use Rattle.fx_header.proofs.SpellLemmas.{blocks_in-merged}
use Rattle.fx_header.specs.Headers.{header_read, header_bytes, map_area, runs_in, with_runs}
use Rattle.fx_header.proofs.NewLemmas.{Ranges, new-fielded, new-reads, header-area}
use Rattle.vol_parts.proofs.Bytes.{bytes-append, bytes-cons, bytes-none}
use Rattle.vol_parts.proofs.WholeHeaders.{whole_header, whole_runs}
use Rattle.vol_parts.proofs.Names.{bytes-name}
use Rattle.plain_cat.specs.declared.ids.Fid.{Fid}
use Rattle.plain_cat.specs.declared.ids.Uic.{Uic}
use Rattle.plain_cat.specs.declared.cat.File.{File}
use Rattle.plain_cat.specs.declared.cat.Slot.TheVariants as slot
use Rattle.plain_rules.specs.Changes.{new_file, new_dir}
use Rattle.base_words.specs.Lists.{Has}
use Rattle.vol_parts.specs.declared.geometry.Geometry.{Geometry}
use Rattle.vol_parts.specs.Parts.{IsGeometry}
use Rattle.vol_parts.specs.Chains.{cut}
use Rattle.vol_parts.specs.Fatal.{is_one_header, is_cluster_run, found_in}
use Rattle.vol_parts.specs.Volumes.{Told}
use Rattle.vol_parts.proofs.Cuts.{cut-leaves}
use Rattle.vol_parts.proofs.Listed.{runs-some}
use Rattle.vol_parts.specs.declared.finding.Finding.TheVariants as finding
use Rattle.vol_parts.specs.Catalogues.{is_structure, plain_entries, file_of, slot_with}
use Rattle.vol_spell.specs.Reading.{total_of, alone}
use Rattle.vol_spell.specs.Spelling.{dir_found}
use Rattle.op_law.specs.Entering.{NewEntry, fields_for, new_header}
use Rattle.plain_cat.specs.Names.{text_of}
use Rattle.op_law.specs.Writing.{runs_for}
use Rattle.op_steps.specs.FileWrites.{IsNewFile, CanBeMade}
use Rattle.op_steps.proofs.FileRuns.{are_runs_for, short_words, blocks_for_runs}

-- ---- the sizes of a new file

pub record IsSized (g : Geometry) (f : File) (k : ℕ) : Type 0 where
  pub clusters : f.clusters ≡ k
  pub mark : f.mark ≤ 1
  pub end : f.end ≤ g.cluster * k + 1
  pub byte : f.byte ≡ 0

pub sized : (g : Geometry) (f : File) (k : ℕ) → IsNewFile g f k → IsSized g f k
sized g f k (inl e) =
    let mark : f.mark ≡ 1 = ap (λ (x : File). x.mark) e in
    let end : f.end ≡ 1 = ap (λ (x : File). x.end) e in
    record { clusters = ap (λ (x : File). x.clusters) e; mark = omega arith; end = omega arith; byte = ap (λ (x : File). x.byte) e }
sized g f k (inr (e, one)) =
    let clusters : f.clusters ≡ 1 = ap (λ (x : File). x.clusters) e in
    let mark : f.mark ≡ 0 = ap (λ (x : File). x.mark) e in
    let end : f.end ≡ g.cluster + 1 = ap (λ (x : File). x.end) e in
    let all : g.cluster * 1 ≡ g.cluster = omega arith in
    let same : g.cluster * k ≡ g.cluster = ap (λ j. g.cluster * j) one ∙ all in
    record { clusters = omega arith; mark = omega arith; end = omega arith; byte = ap (λ (x : File). x.byte) e }

-- ---- the text

bytes-text : (name : List ℕ) (ver : ℕ) → IsBytes name → ver ≤ 32767 → IsBytes (text_of name ver)
bytes-text name ver are top =
    let version : IsBytes (decimal ver) = λ i. let h = IsAscii-decimal ver (omega arith) i in omega arith in
    bytes-append name (codes ";" ++ decimal ver) are (bytes-append (codes ";") (decimal ver) (bytes-cons 59 [] (lit< tt) bytes-none) version)

-- ---- what is read

module _ (g : Geometry) (parent : Fid) (n : ℕ) (e : NewEntry) (qs : List ℕ) (geometry : IsGeometry g) (can : CanBeMade g n e qs) (within : (q : ℕ) → Has qs q → q < total_of g) where
  fits : Ranges (fields_for g n e.file)
  fits =
      let s = sized g e.file (length qs) can.kind in
      let clusters = s.clusters in
      let mark = s.mark in
      let end = s.end in
      let byte = s.byte in
      let few = can.few in
      let low = geometry.cluster_from in
      let high = geometry.cluster_to in
      let files = geometry.files_to in
      let from = can.number.from in
      let to = can.number.to in
      let size : g.cluster * length qs ≤ 16 * length qs = mul-le-mul_right (length qs) high in
      let blocks : g.cluster * e.file.clusters ≡ g.cluster * length qs = ap (λ k. g.cluster * k) clusters in
      record {
        from = from;
        num = omega arith;
        seq = can.seq;
        owner = can.owner;
        blocks = omega arith;
        mark = omega arith;
        end = omega arith;
        byte = omega arith;
        seg = omega arith;
        ext = omega arith;
        ext_seq = omega arith;
      }

  abbrev base : Block
  base = header_bytes (fields_for g n e.file) (text_of e.name e.ver) (parent.num, parent.seq)

  room : length (map_words (runs_for g qs)) ≤ 2 * map_area base
  room =
      let area = header-area (fields_for g n e.file) (text_of e.name e.ver) (parent.num, parent.seq) in
      let short = short_words g geometry.cluster_from qs within geometry.cluster_to geometry.blocks_to in
      let few = can.few in
      omega arith

  back : (header_read (with_runs base (runs_for g qs)) ≡ Ok (head.Used (fields_for g n e.file))) × (runs_in (with_runs base (runs_for g qs)) ≡ merged (runs_for g qs))
  back =
      let s = sized g e.file (length qs) can.kind in
      let mark = s.mark in
      let end = s.end in
      let byte = s.byte in
      let blocks : g.cluster * e.file.clusters ≡ g.cluster * length qs = ap (λ k. g.cluster * k) s.clusters in
      let all : blocks_in (runs_for g qs) ≡ g.cluster * e.file.clusters = blocks_for_runs g qs ∙ sym blocks in
      let made = new-reads (fields_for g n e.file) (text_of e.name e.ver) (parent.num, parent.seq) fits (λ first. (omega arith, omega arith)) (λ first. omega arith) in
      let read = made.runs (runs_for g qs) (are_runs_for g geometry.cluster_from qs within geometry.blocks_to, room) (λ first. (omega (arith, all), omega (arith, all))) in
      (read.0 ∙ ap (λ (z : ℕ). Ok (head.Used (record (fields_for g n e.file) { blocks = z }))) all, read.1)

  pub head_is : header_read (new_header g parent n e qs) ≡ Ok (head.Used (fields_for g n e.file))
  unfolding new_header
  head_is = back.0

  pub runs_are : runs_in (new_header g parent n e qs) ≡ merged (runs_for g qs)
  unfolding new_header
  runs_are = back.1

  abbrev made : Block
  made = new_header g parent n e qs

  -- it lists just the blocks of the file
  pub listed_is : blocks_in (runs_in (new_header g parent n e qs)) ≡ g.cluster * e.file.clusters
  listed_is =
      let s = sized g e.file (length qs) can.kind in
      ap blocks_in runs_are ∙ blocks_in-merged (runs_for g qs) ∙ blocks_for_runs g qs ∙ ap (λ k. g.cluster * k) (sym s.clusters)

  pub cut_is : cut (g.cluster * e.file.clusters) (runs_in (new_header g parent n e qs)) ≡ merged (runs_for g qs)
  cut_is = cut-leaves (g.cluster * e.file.clusters) (runs_in made) (runs-some made) (omega (arith, listed_is)) ∙ runs_are

  no_surplus : (alone n (fields_for g n e.file) (new_header g parent n e qs)).surplus ≡ false
  no_surplus = let all : blocks_in (runs_in made) ≤ g.cluster * e.file.clusters = omega (arith, listed_is) in grind (arith, nat_tests)

  pub whole_new : IsWholeBlock (new_header g parent n e qs)
  unfolding new_header
  whole_new =
      whole_runs base (runs_for g qs)
      (whole_header (fields_for g n e.file) (text_of e.name e.ver) (parent.num, parent.seq) (bytes-text e.name e.ver (bytes-name e.name can.name) can.ver))
      (new-fielded (fields_for g n e.file) (text_of e.name e.ver) (parent.num, parent.seq) fits).offsets room

-- ---- what is told with the blocks

-- a directory's own blocks have no entries
abbrev pub IsBare : File → List Block → Type 0
IsBare f body = f.dir ≡ true → directory body ≡ Ok []

plain_told : (g : Geometry) (n seq : ℕ) (owner : Uic) (body : List Block) (k : ℕ) → 1 ≤ g.cluster → is_structure n ≡ false → file_of g.cluster n (fields_for g n (new_file seq owner k)) body ≡ new_file seq owner k
plain_told g n seq owner body k low plain =
    ap (λ (z : ℕ). record (new_file seq owner k) { clusters = z; written = cond {A = List Block} (is_structure n) [] [] }) (mul-div_cancel_left k low)
    ∙ ap (λ (t : Bool). record (new_file seq owner k) { written = cond {A = List Block} t [] [] }) plain

directory_told : (g : Geometry) (n seq : ℕ) (owner : Uic) (body : List Block) → 1 ≤ g.cluster → directory body ≡ Ok [] → file_of g.cluster n (fields_for g n (new_dir seq owner g.cluster)) body ≡ new_dir seq owner g.cluster
directory_told g n seq owner body low bare =
    ap (λ (z : ℕ). record (new_dir seq owner g.cluster) { clusters = z; entries = plain_entries (directory body) }) (mul-div_cancel_left 1 low)
    ∙ ap (λ r. record (new_dir seq owner g.cluster) { entries = plain_entries r }) bare

file_told : (g : Geometry) (n : ℕ) (f : File) (body : List Block) (k : ℕ) → 1 ≤ g.cluster → is_structure n ≡ false → IsNewFile g f k → IsBare f body → file_of g.cluster n (fields_for g n f) body ≡ f
file_told g n f body k low plain (inl e) bare =
    ap (λ (x : File). file_of g.cluster n (fields_for g n x) body) e ∙ plain_told g n f.seq f.owner body k low plain ∙ sym e
file_told g n f body k low plain (inr (e, one)) bare =
    ap (λ (x : File). file_of g.cluster n (fields_for g n x) body) e ∙ directory_told g n f.seq f.owner body low (bare (ap (λ (x : File). x.dir) e)) ∙ sym e

-- and a new directory can be read
runs_of_one : (g : Geometry) (qs : List ℕ) → length qs ≡ 1 → is_cluster_run g.cluster (merged (runs_for g qs)) ≡ true
runs_of_one g [] one = absurd (omega arith)
runs_of_one g (q ∷ []) one = eq-eqb g.cluster g.cluster refl
runs_of_one g (q ∷ p ∷ qs) one = absurd (omega arith)

-- a file has one header where nothing is listed behind its blocks
record HasOneHeader (g : Geometry) (k : ℕ) (t : Told) : Type 0 where
  pub last : t.surplus ≡ false
  pub size : blocks_in t.runs ≡ g.cluster * k

directory_found : (g : Geometry) (n seq : ℕ) (owner : Uic) (body : List Block) (t : Told) → HasOneHeader g 1 t → is_cluster_run g.cluster t.runs ≡ true → directory body ≡ Ok []
    → dir_found g n (Some (fields_for g n (new_dir seq owner g.cluster))) t body ≡ None
directory_found g n seq owner body t alone run bare =
    let one : is_one_header (fields_for g n (new_dir seq owner g.cluster)) t ≡ true =
    ap (λ s. not s && (blocks_in t.runs == g.cluster * 1)) alone.last ∙ eq-eqb (blocks_in t.runs) (g.cluster * 1) alone.size in
    ap (λ o. cond (o && (is_cluster_run g.cluster t.runs && ((g.cluster + 1 == g.cluster + 1) && true))) (found_in n (directory body)) (Some (finding.DirSize n))) one
    ∙ ap (λ t. cond (t && ((g.cluster + 1 == g.cluster + 1) && true)) (found_in n (directory body)) (Some (finding.DirSize n))) run
    ∙ ap (λ t. cond (t && true) (found_in n (directory body)) (Some (finding.DirSize n))) (eq-eqb (g.cluster + 1) (g.cluster + 1) refl)
    ∙ ap (found_in n) bare

dir_told : (g : Geometry) (n : ℕ) (f : File) (body : List Block) (qs : List ℕ) (t : Told) → IsNewFile g f (length qs) → IsBare f body → HasOneHeader g (length qs) t → t.runs ≡ merged (runs_for g qs)
    → dir_found g n (Some (fields_for g n f)) t body ≡ None
dir_told g n f body qs t (inl e) bare alone runs = ap (λ (x : File). dir_found g n (Some (fields_for g n x)) t body) e
dir_told g n f body qs t (inr (e, one)) bare alone runs =
    ap (λ (x : File). dir_found g n (Some (fields_for g n x)) t body) e
    ∙ directory_found g n f.seq f.owner body t (record { last = alone.last; size = alone.size ∙ ap (λ k. g.cluster * k) one })
    (ap (is_cluster_run g.cluster) runs ∙ runs_of_one g qs one) (bare (ap (λ (x : File). x.dir) e))

-- what the header tells with the blocks of the file: a directory that can be read, and the file
pub new_dir_told : (g : Geometry) (parent : Fid) (n : ℕ) (e : NewEntry) (qs : List ℕ) (body : List Block) → IsGeometry g → CanBeMade g n e qs → ((q : ℕ) → Has qs q → q < total_of g) → IsBare e.file body
    → dir_found g n (Some (fields_for g n e.file)) (alone n (fields_for g n e.file) (new_header g parent n e qs)) body ≡ None
new_dir_told g parent n e qs body geometry can within bare =
    let s = sized g e.file (length qs) can.kind in
    let listed = listed_is g parent n e qs geometry can within in
    let cuts = cut_is g parent n e qs geometry can within in
    dir_told g n e.file body qs (alone n (fields_for g n e.file) (new_header g parent n e qs)) can.kind bare
    (record {
      last = no_surplus g parent n e qs geometry can within;
      size = ap blocks_in cuts ∙ sym (ap blocks_in (runs_are g parent n e qs geometry can within)) ∙ listed ∙ ap (λ k. g.cluster * k) s.clusters;
    })
    cuts

pub new_slot_told : (g : Geometry) (parent : Fid) (n : ℕ) (e : NewEntry) (qs : List ℕ) (body : List Block) → IsGeometry g → CanBeMade g n e qs → ((q : ℕ) → Has qs q → q < total_of g) → is_structure n ≡ false → IsBare e.file body
    → slot_with g.cluster n (Ok (head.Used (fields_for g n e.file))) body ≡ slot.Used e.file
new_slot_told g parent n e qs body geometry can within plain bare =
    ap (λ (f : File). slot.Used f) (file_told g n e.file body (length qs) geometry.cluster_from plain can.kind bare)
