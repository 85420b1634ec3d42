-- A directory of the catalogue on the blocks that spell it.
use Rattle.std.proofs.Common.{◌≡◌, ◌∙◌, ◌<◌, ◌+◌, ◌-◌, ℕ, zero, suc, Bool, true, false, List, [], ◌∷◌, Some, None, Result, Ok, Err, Option, length, map, take, slice_get, refl, sym, ap, subst, inl, inr, arith, append-nil, if◌then◌else◌}
use Rattle.std.specs.Prelude.{◌==◌, ◌&&◌, ◌||◌, not, slice_index_or}
use Rattle.std.specs.List.{range_with_len}
use Rattle.std.proofs.lemmas.Bool.{and_parts}
use Rattle.std.proofs.lemmas.Bool.Decides.{nat_tests}
use Rattle.std.proofs.lemmas.Option.{slice_get-get_or}
use Rattle.std.proofs.lemmas.List.FromFn.{length-range_with_len}
use Rattle.base_words.specs.Fields.{Block, AreWholeBlocks}
use Rattle.fx_header.specs.declared.run.Run.{Run}
use Rattle.fx_header.specs.declared.slot.Hdr.{Hdr}
use Rattle.fx_header.specs.declared.slot.Slot.{Slot as Head}
use Rattle.fx_header.specs.declared.slot.Slot.TheVariants as head
use Rattle.fx_header.specs.declared.slot.HeaderFault.{HeaderFault}
use Rattle.fx_header.specs.Headers.{runs_in}
use Rattle.fx_header.specs.Pointers.{lbns_in}
use Rattle.fx_dir.specs.declared.RawEnt.{RawEnt}
use Rattle.fx_dir.specs.Directory.{directory, dir_entries}
use Rattle.plain_cat.specs.declared.cat.Cat.{Cat}
use Rattle.plain_cat.specs.declared.cat.File.{File}
use Rattle.plain_cat.specs.declared.cat.Slot.{Slot}
use Rattle.plain_cat.specs.declared.cat.Slot.TheVariants as slot
use Rattle.plain_rules.specs.Lookups.{file_in, file_at}
use Rattle.base_words.specs.Lists.{Has}
use Rattle.vol_spell.specs.Owners.{Owners}
use Rattle.vol_spell.specs.Spread.{blocks_at}
use Rattle.vol_spell.proofs.Placing.{length-blocks_at}
use Rattle.vol_parts.specs.declared.finding.Finding.TheVariants as finding
use Rattle.vol_parts.specs.declared.geometry.Geometry.{Geometry}
use Rattle.vol_parts.specs.Volumes.{Told, fields_in}
use Rattle.vol_parts.specs.Catalogues.{plain_entry, plain_entries, is_structure, written_blocks, entries_in, file_of, slot_with}
use Rattle.vol_parts.specs.Chains.{cut}
use Rattle.vol_parts.specs.Fatal.{is_one_header, is_cluster_run, is_system_header, has_dir_size, found_in}
use Rattle.vol_spell.specs.Reading.{IsFileNumber, header_block, head_told, told_of, alone, body_places, body_blocks}
use Rattle.vol_spell.specs.Spelling.{Tells, dir_found, Spells}
use Rattle.vol_spell.proofs.HeadSlots.{alone_told, dir_slot, dir_runs}
use Rattle.vol_spell.proofs.OneHeader.{alone_whole}
use Rattle.vol_spell.proofs.Frames.{of_body}
use Rattle.vol_spell.proofs.Told.{no_dir, no_directory, which_structure}
use Rattle.vol_spell.specs.Entries.{places_in, blocks_of}
use Rattle.vol_spell.proofs.EntryLists.{read_where_none_found, none_found_where_read, entries_plainly}

-- a directory is none of the files that hold the volume's own structures
module _ (g : Geometry) (bs : List Block) (own : Owners) (x : Cat) (s : Spells g bs own x) where
  system : (n : ℕ) → is_structure n ≡ true → is_system_header n (fields_in (told_of g bs n).head) ≡ true
  system n e =
      let P : ℕ → Type 0 = λ k. is_system_header k (fields_in (told_of g bs k).head) ≡ true in
      elim (which_structure n e) [
        | inl one ↦ subst P (sym one) s.structures.index.header
        | inr more ↦ elim more [ inl two ↦ subst P (sym two) s.structures.bitmap.header | inr ten ↦ subst P (sym ten) s.structures.quota.header ]
      ]

  plain_directory : (n : ℕ) (h : Hdr) → (told_of g bs n).head ≡ Ok (head.Used h) → h.dir ≡ true → is_structure n ≡ false
  plain_directory n h e d = by_kind (is_structure n) refl where
    by_kind : (k : Bool) → is_structure n ≡ k → is_structure n ≡ false
    by_kind false k = k
    by_kind true k =
        let t : is_system_header n (Some h) ≡ true = ap (λ r. is_system_header n (fields_in r)) (sym e) ∙ system n k in
        let f : true ≡ false = sym d ∙ no_dir n h (no_directory n k) t in
        absurd (cc)

-- the blocks have the directory d under number n, with these fields in its header and these entries
pub record IsDirAt (g : Geometry) (bs : List Block) (n : ℕ) (d : File) : Type 0 where
  pub fields : Hdr
  pub entries : List RawEnt
  pub header : head_told (header_block g bs n) ≡ Ok (head.Used fields)
  pub dir : fields.dir ≡ true
  pub told : told_of g bs n ≡ alone n fields (header_block g bs n)
  pub one : is_one_header fields (alone n fields (header_block g bs n)) ≡ true
  pub places : body_places n (told_of g bs n) ≡ places_in (header_block g bs n)
  pub file : file_of g.cluster n fields (blocks_of g bs n) ≡ d
  pub size : has_dir_size g.cluster fields (runs_in (header_block g bs n)) ≡ true
  pub read : directory (blocks_of g bs n) ≡ Ok entries
  pub count : length (blocks_of g bs n) ≡ g.cluster
  pub whole : AreWholeBlocks (blocks_of g bs n)

-- the slot of a file in use
pub used_at : (x : Cat) (n : ℕ) (d : File) → file_at x n ≡ Some d → slice_get x.files (n - 1) ≡ Some (slot.Used d)
used_at x n d h = by_number (n == 0) h where
  by_slot : (o : Option Slot) → file_in o ≡ Some d → o ≡ Some (slot.Used d)
  by_slot None e = absurd (cc)
  by_slot (Some (slot.Free seq)) e = absurd (cc)
  by_slot (Some (slot.Used f)) e = let same : f ≡ d = cc in ap (λ (y : File). Some (slot.Used y)) same

  by_number : (q : Bool) → file_in (if q then None else slice_get x.files (n - 1)) ≡ Some d → slice_get x.files (n - 1) ≡ Some (slot.Used d)
  by_number true e = absurd (cc)
  by_number false e = by_slot (slice_get x.files (n - 1)) e

-- whole blocks are whole at each place
whole_at : (bs : List Block) (ls : List ℕ) → AreWholeBlocks bs → ((l : ℕ) → Has ls l → l < length bs) → AreWholeBlocks (blocks_at bs ls)
whole_at bs [] whole lt j b e = absurd (let h : None ≡ Some b = e in cc)
whole_at bs (l ∷ ls) whole lt zero b e =
    let here : slice_get bs l ≡ Some (slice_index_or bs l []) = slice_get-get_or bs l [] (lt l (inl refl)) in
    let same : Some (slice_index_or bs l []) ≡ Some b = e in
    whole l b (here ∙ same)
whole_at bs (l ∷ ls) whole lt (suc j) b e = whole_at bs ls whole (λ k t. lt k (inr t)) j b e

-- the run of a directory has a cluster's blocks
pub one_cluster : (factor : ℕ) (rs : List Run) → is_cluster_run factor rs ≡ true → length (lbns_in rs) ≡ factor
one_cluster factor [] h = absurd (cc)
one_cluster factor (r ∷ []) h =
    let c : r.count ≡ factor = grind (arith, nat_tests) in
    ap length (append-nil (range_with_len r.lbn r.count)) ∙ length-range_with_len r.lbn r.count ∙ c
one_cluster factor (r ∷ q ∷ rs) h = absurd (cc)

-- a directory in which nothing is found has its size, and entries
record IsSound (g : Geometry) (n : ℕ) (f : Hdr) (t : Told) (blocks : List Block) : Type 0 where
  one : is_one_header f t ≡ true
  size : has_dir_size g.cluster f t.runs ≡ true
  entries : List RawEnt
  read : directory blocks ≡ Ok entries

nothing_found : (g : Geometry) (n : ℕ) (f : Hdr) (t : Told) (blocks : List Block) → f.dir ≡ true → dir_found g n (Some f) t blocks ≡ None → IsSound g n f t blocks
nothing_found g n f t blocks d h =
    by_dir (is_one_header f t && has_dir_size g.cluster f t.runs) refl
    (ap (λ q. if not q then None else if is_one_header f t && has_dir_size g.cluster f t.runs then found_in n (directory blocks) else Some (finding.DirSize n)) (sym d) ∙ h)
  where
    by_dir : (q : Bool) → (is_one_header f t && has_dir_size g.cluster f t.runs) ≡ q → (if q then found_in n (directory blocks) else Some (finding.DirSize n)) ≡ None → IsSound g n f t blocks
    by_dir false e none = absurd (cc)
    by_dir true e none =
        let r = read_where_none_found n blocks none in
        let parts = and_parts (is_one_header f t) (has_dir_size g.cluster f t.runs) e in
        record { one = parts.0; size = parts.1; entries = r.0; read = r.1 }

module _ (g : Geometry) (bs : List Block) (own : Owners) (x : Cat) (s : Spells g bs own x) (n : ℕ) (is : IsFileNumber g n) (d : File) (at : file_at x n ≡ Some d) (dir : d.dir ≡ true) where
  abbrev h : Block
  h = header_block g bs n

  tells : Tells g own n (told_of g bs n) (body_blocks bs n (told_of g bs n)) (slot.Used d)
  tells = s.files n (slot.Used d) is (used_at x n d at)

  by_read : (r : Result Head HeaderFault) → head_told h ≡ r → slot_with g.cluster n r (body_blocks bs n (told_of g bs n)) ≡ slot.Used d → IsDirAt g bs n d
  by_read (Err fault) e told = absurd (cc)
  by_read (Ok (head.Free seq)) e told = absurd (cc)
  by_read (Ok (head.Used f)) e told =
      let file : file_of g.cluster n f (body_blocks bs n (told_of g bs n)) ≡ d = cc in
      let is_dir : f.dir ≡ true = ap (λ (y : File). y.dir) file ∙ dir in
      let one : told_of g bs n ≡ alone n f h = alone_told g bs n f e (dir_slot g bs own x s n f is e is_dir) in
      let plain : is_structure n ≡ false = plain_directory g bs own x s n f (ap (λ (t : Told). t.head) one) is_dir in
      let places : body_places n (told_of g bs n) ≡ places_in h =
      ap (λ q. if q then [] else lbns_in (told_of g bs n).runs) plain ∙ ap lbns_in (dir_runs g bs own x s n f is e is_dir) in
      let runs : cut f.blocks (runs_in h) ≡ runs_in h = ap (λ (t : Told). t.runs) (sym one) ∙ dir_runs g bs own x s n f is e is_dir in
      let body : body_blocks bs n (told_of g bs n) ≡ blocks_of g bs n = ap (blocks_at bs) places in
      let found : dir_found g n (Some f) (alone n f h) (body_blocks bs n (told_of g bs n)) ≡ None =
      ap (λ (t : Told). dir_found g n (fields_in t.head) t (body_blocks bs n (told_of g bs n))) (sym one) ∙ tells.dir in
      let found_on : dir_found g n (Some f) (alone n f h) (blocks_of g bs n) ≡ None = ap (dir_found g n (Some f) (alone n f h)) (sym body) ∙ found in
      let sound = nothing_found g n f (alone n f h) (blocks_of g bs n) is_dir found_on in
      let size : has_dir_size g.cluster f (runs_in h) ≡ true = ap (has_dir_size g.cluster f) (sym runs) ∙ sound.size in
      let run = and_parts (is_cluster_run g.cluster (runs_in h)) ((f.mark == 0) && ((f.end == g.cluster + 1) && (f.byte == 0))) size in
      record {
        fields = f;
        entries = sound.entries;
        header = e;
        dir = is_dir;
        told = one;
        one = sound.one;
        places = places;
        file = ap (file_of g.cluster n f) (sym body) ∙ file;
        size = size;
        read = sound.read;
        count = length-blocks_at bs (places_in h) ∙ one_cluster g.cluster (runs_in h) run.0;
        whole = whole_at bs (places_in h) s.whole (λ l t. (of_body g bs own x s n l is (subst (λ (ls : List ℕ). Has ls l) (sym places) t)).within);
      }

  pub dir_at : IsDirAt g bs n d
  dir_at = by_read (head_told h) refl tells.slot

-- ---- what other blocks of the directory tell

written_none : (n : ℕ) (f : Hdr) (blocks : List Block) → f.dir ≡ true → written_blocks n f blocks ≡ []
written_none n f blocks e = ap (λ q. if q || is_structure n then [] else if f.mark == 0 then blocks else take (f.mark - 1) blocks) e

entries_told : (f : Hdr) (blocks : List Block) → f.dir ≡ true → entries_in f blocks ≡ plain_entries (directory blocks)
entries_told f blocks e = ap (λ q. if q then plain_entries (directory blocks) else []) e

-- the entries of the directory are those that its blocks tell
pub dir_lists : (g : Geometry) (bs : List Block) (n : ℕ) (d : File) (at : IsDirAt g bs n d) → d.entries ≡ map plain_entry at.entries
dir_lists g bs n d at = ap (λ (y : File). y.entries) (sym at.file) ∙ entries_told at.fields (blocks_of g bs n) at.dir ∙ ap plain_entries at.read

-- blocks that read as these entries tell the directory with them, and nothing is found in it
pub record ShowsDir (g : Geometry) (n : ℕ) (t : Told) (d : File) (es : List RawEnt) (blocks : List Block) : Type 0 where
  pub none : dir_found g n (fields_in t.head) t blocks ≡ None
  pub slot : slot_with g.cluster n t.head blocks ≡ slot.Used (record d { entries = map plain_entry es })

pub shows_dir : (g : Geometry) (bs : List Block) (n : ℕ) (d : File) (at : IsDirAt g bs n d) (es : List RawEnt) (blocks : List Block) → dir_entries blocks ≡ Ok es → ShowsDir g n (told_of g bs n) d es blocks
shows_dir g bs n d at es blocks read =
    let f = at.fields in
    let h = header_block g bs n in
    record {
      none = ap (λ (t : Told). dir_found g n (fields_in t.head) t blocks) at.told
          ∙ ap (λ q. if not q then None else if is_one_header f (alone n f h) && has_dir_size g.cluster f (cut f.blocks (runs_in h)) then found_in n (directory blocks) else Some (finding.DirSize n)) at.dir
          ∙ ap (λ q. if q && has_dir_size g.cluster f (cut f.blocks (runs_in h)) then found_in n (directory blocks) else Some (finding.DirSize n)) at.one
          ∙ ap (λ (rs : List Run). if has_dir_size g.cluster f rs then found_in n (directory blocks) else Some (finding.DirSize n)) (alone_whole n f h at.one)
          ∙ ap (λ q. if q then found_in n (directory blocks) else Some (finding.DirSize n)) at.size
          ∙ none_found_where_read n (directory blocks) es read;
      slot = ap (λ (t : Told). slot_with g.cluster n t.head blocks) at.told ∙ ap (λ (y : File). slot.Used y) file;
    }
  where
    file : file_of g.cluster n at.fields blocks ≡ record d { entries = map plain_entry es }
    file =
        let f = at.fields in
        let old = blocks_of g bs n in
        let now : entries_in f blocks ≡ map plain_entry es = entries_told f blocks at.dir ∙ entries_plainly (directory blocks) es read in
        let blank : file_of g.cluster n f blocks ≡ record (file_of g.cluster n f old) { written = []; entries = map plain_entry es } =
        λ i. record (file_of g.cluster n f blocks) { written = written_none n f blocks at.dir i; entries = now i } in
        let same : record (file_of g.cluster n f old) { entries = map plain_entry es } ≡ record (file_of g.cluster n f old) { written = []; entries = map plain_entry es } =
        λ i. record (file_of g.cluster n f old) { written = written_none n f old at.dir i; entries = map plain_entry es } in
        blank ∙ sym same ∙ ap (λ (y : File). record y { entries = map plain_entry es }) at.file
