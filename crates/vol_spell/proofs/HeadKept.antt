-- The header of a file whose clusters stay: marked for delete, or with other sizes.
use Rattle.std.proofs.Common.{◌≡◌, ◌∙◌, ◌≤◌, ◌<◌, ◌+◌, ◌*◌, ◌^◌, ℕ, Bool, true, false, List, [], ◌∷◌, Some, None, Ok, is_some, length, slice_set, inl, refl, sym, ap, subst, arith}
use Rattle.std.proofs.Math.Nat.{mul-le-mul_right}
use Rattle.base_words.specs.Fields.{Block, IsWholeBlock}
use Rattle.fx_header.specs.declared.run.Run.{Run}
use Rattle.fx_header.specs.declared.slot.Hdr.{Hdr}
use Rattle.fx_header.specs.declared.slot.Slot.TheVariants.{Used}
use Rattle.fx_header.specs.Pointers.{blocks_in}
use Rattle.fx_header.specs.Headers.{runs_in, marked, with_mark, with_end}
use Rattle.fx_header.proofs.SetterLemmas.{marked-reads, mark-reads, end-reads}
use Rattle.plain_cat.specs.declared.cat.Cat.{Cat}
use Rattle.plain_cat.specs.declared.cat.File.{File}
use Rattle.plain_cat.specs.declared.cat.Slot.TheVariants as slot
use Rattle.vol_parts.specs.declared.geometry.Geometry.{Geometry}
use Rattle.vol_parts.specs.declared.geometry.Part.TheVariants.{Header}
use Rattle.vol_parts.specs.Chains.{cut}
use Rattle.vol_parts.specs.Volumes.{Told}
use Rattle.vol_parts.specs.Catalogues.{file_of, written_blocks}
use Rattle.vol_parts.proofs.WholeHeaders.{whole_marked, whole_mark, whole_end}
use Rattle.vol_spell.specs.Files.{with_sizes, blocks_told, IsFileThere, IsResized}
use Rattle.vol_spell.specs.Kinds.{IsHeaderFor}
use Rattle.vol_spell.specs.declared.owner.Owner.TheVariants.{InFile}
use Rattle.vol_spell.specs.Owners.{Owners, IsFileMove}
use Rattle.vol_spell.specs.Reading.{header_place, header_block, head_told, told_of, clusters_told, clusters_of, body_blocks}
use Rattle.vol_spell.specs.Spelling.{IsHead, AreWhole, size_in, Tells, dir_found, Spells}
use Rattle.vol_spell.specs.Spread.{blocks_at, spread}
use Rattle.vol_spell.proofs.HeadFiles.{head_whole, number_is, sized, counted, places_are, few, body_shown, dir_read, not_structure, file_is}
use Rattle.vol_spell.proofs.HeadSame.{IsHeadSame, with_head, head_same}
use Rattle.vol_spell.proofs.HeadSlots.{no_parts, reads_fields, alone_told, listed_enough}
use Rattle.vol_spell.proofs.Heads.{first_reads, first_segment, reads_first}
use Rattle.vol_spell.proofs.HeadRuns.{marked_runs, mark_runs, end_runs}
use Rattle.vol_spell.proofs.HeadTold.{IsHeadWith}
use Rattle.vol_spell.proofs.Parts.{told, part_owned, in_use}
use Rattle.vol_spell.proofs.Frames.{on_volume}
use Rattle.vol_spell.proofs.Moving.{moves_compose}

-- ---- sizes

-- a block with the runs, the number and the blocks of another has the clusters
pub relisted : (g : Geometry) (n : ℕ) (b new : Block) (h k : Hdr) (ds : List ℕ) → IsWholeBlock new → head_told new ≡ Ok (Used k) → k.num ≡ h.num → k.blocks ≡ h.blocks → runs_in new ≡ runs_in b
    → IsHeadWith g n b h ds → IsHeadWith g n new k ds
relisted g n b new h k ds whole reads num blocks runs at =
    let same : cut k.blocks (runs_in new) ≡ cut h.blocks (runs_in b) = λ i. cut (blocks i) (runs i) in
    record {
      whole = whole;
      reads = reads;
      num = num ∙ at.num;
      enough = let most = at.enough in subst (λ (rs : List Run). k.blocks ≤ blocks_in rs) (sym runs) (omega (arith, blocks, most));
      runs = subst (λ (rs : List Run). AreWhole g rs) (sym same) at.runs;
      clusters = ap (λ (rs : List Run). clusters_of g.cluster rs) same ∙ at.clusters;
    }

-- another mark leaves the clusters
pub remark : (g : Geometry) (n : ℕ) (b : Block) (h : Hdr) (ds : List ℕ) (mark : ℕ) → IsHeadWith g n b h ds → mark < 2 ^ 32 → mark ≤ h.blocks + 1 → IsHeadWith g n (with_mark b mark) (record h { mark = mark }) ds
remark g n b h ds mark at fits within =
    let read = first_reads b h at.reads in
    relisted g n b (with_mark b mark) h (record h { mark = mark }) ds (whole_mark b mark at.whole)
    (reads_first (with_mark b mark) (record h { mark = mark }) (mark-reads b h mark at.whole.long fits read within) (first_segment b h at.reads))
    refl refl (mark_runs b h mark at.whole.long read) at

-- and another end
pub reend : (g : Geometry) (n : ℕ) (b : Block) (h : Hdr) (ds : List ℕ) (end byte : ℕ) → IsHeadWith g n b h ds → end < 2 ^ 32 → end ≤ h.blocks + 1 → byte ≤ 511 → IsHeadWith g n (with_end b end byte) (record h { end = end; byte = byte }) ds
reend g n b h ds end byte at fits within small =
    let read = first_reads b h at.reads in
    relisted g n b (with_end b end byte) h (record h { end = end; byte = byte }) ds (whole_end b end byte at.whole)
    (reads_first (with_end b end byte) (record h { end = end; byte = byte }) (end-reads b h end byte at.whole.long fits read within small) (first_segment b h at.reads))
    refl refl (end_runs b h end byte at.whole.long read) at

-- ---- the same header, but for its mark or its end

pub remarked : (was : Block) (old : Hdr) (b : Block) (h : Hdr) (mark : ℕ) → IsHeadSame was old b h → mark < 2 ^ 32 → mark ≤ h.blocks + 1 → IsHeadSame was old (with_mark b mark) (record h { mark = mark })
remarked was old b h mark at fits within =
    let read = first_reads b h at.reads in
    record {
      whole = whole_mark b mark at.whole;
      reads = reads_first (with_mark b mark) (record h { mark = mark }) (mark-reads b h mark at.whole.long fits read within) (first_segment b h at.reads);
      num = at.num;
      blocks = at.blocks;
      ext = at.ext;
      ext_seq = at.ext_seq;
      runs = mark_runs b h mark at.whole.long read ∙ at.runs;
    }

pub reended : (was : Block) (old : Hdr) (b : Block) (h : Hdr) (end byte : ℕ) → IsHeadSame was old b h → end < 2 ^ 32 → end ≤ h.blocks + 1 → byte ≤ 511 → IsHeadSame was old (with_end b end byte) (record h { end = end; byte = byte })
reended was old b h end byte at fits within small =
    let read = first_reads b h at.reads in
    record {
      whole = whole_end b end byte at.whole;
      reads = reads_first (with_end b end byte) (record h { end = end; byte = byte }) (end-reads b h end byte at.whole.long fits read within small) (first_segment b h at.reads);
      num = at.num;
      blocks = at.blocks;
      ext = at.ext;
      ext_seq = at.ext_seq;
      runs = end_runs b h end byte at.whole.long read ∙ at.runs;
    }

-- ---- a file that is there

module _ (g : Geometry) (node n : ℕ) (h : Hdr) (f : File) (x : Cat) (bs : List Block) (own : Owners) (spelt : Spells g bs own x) (is : IsFileThere g x bs n h f) where
  abbrev b : Block
  b = header_block g bs n

  abbrev cs : List ℕ
  cs = clusters_told g (told_of g bs n)

  abbrev shown : List Block
  shown = blocks_at bs (spread g.cluster (clusters_told g (told_of g bs n)))

  -- its first header, where it has no other, lists its clusters
  pub first : (told_of g bs n).slots ≡ n ∷ [] → IsHeadWith g n (header_block g bs n) h (clusters_told g (told_of g bs n))
  first one =
      let same = alone_told g bs n h is.reads one in
      record {
        whole = head_whole g bs own x n h spelt is.number is.reads;
        reads = is.reads;
        num = number_is g bs own x n h spelt is.number is.reads;
        enough = listed_enough g bs own x spelt n h is.number is.reads one;
        runs = subst (λ (t : Told). AreWhole g t.runs) same (told g bs own x spelt n is.number).whole;
        clusters = ap (λ (t : Told). clusters_of g.cluster t.runs) (sym same);
      }

  pub file : f ≡ file_of g.cluster n h shown
  file = file_is g bs own x n h spelt is.number is.reads f is.file

  pub itself : IsHeadSame (header_block g bs n) h (header_block g bs n) h
  itself = record { whole = head_whole g bs own x n h spelt is.number is.reads; reads = is.reads; num = refl; blocks = refl; ext = refl; ext_seq = refl; runs = refl }

  on : header_place g n < length bs
  on = on_volume g bs own x spelt (header_place g n) (InFile 1) (part_owned g bs own x spelt (Header n) is.number)

  -- a block with the same clusters, whose file is this one
  module _ (b' : Block) (h' : Hdr) (f' : File) (same : IsHeadSame (header_block g bs n) h b' h') (dir : dir_found g n (Some h') (with_head (told_of g bs n) h') shown ≡ None) (says : file_of g.cluster n h' shown ≡ f') where
    number : h'.num ≡ n
    number = same.num ∙ number_is g bs own x n h spelt is.number is.reads

    tells : Tells g own n (with_head (told_of g bs n) h') (body_blocks bs n (with_head (told_of g bs n) h')) (slot.Used f')
    tells =
        let t = told g bs own x spelt n is.number in
        let body : body_blocks bs n (told_of g bs n) ≡ shown = body_shown g bs own x n h spelt is.number is.reads (not_structure n is.above) in
        record {
          reads = number;
          whole = t.whole;
          once = t.once;
          runs = t.runs;
          few = t.few;
          split = t.split;
          system = λ low. let above = is.above in absurd (omega arith);
          slots = t.slots;
          size = t.size ∙ ap size_in (reads_fields (header_block g bs n) h is.reads) ∙ sym same.blocks;
          dir = ap (dir_found g n (Some h') (with_head (told_of g bs n) h')) body ∙ dir;
          slot = ap (λ (blocks : List Block). slot.Used (file_of g.cluster n h' blocks)) body ∙ ap (λ (y : File). slot.Used y) says;
        }

    pub kept_for : IsHeaderFor g bs node n n own own x b' (slot.Used f')
    kept_for = record {
      whole = same.whole;
      number = is.number;
      slot = inl refl;
      owned = subst (IsFileMove node n) (sym ((in_use g bs own x spelt n is.number).0 (ap is_some (reads_fields (header_block g bs n) h is.reads)))) refl;
      head = subst (IsHead n) (sym (first_reads b' h' same.reads)) number;
      alike = λ ne. absurd (ne refl);
      parts = no_parts n (not_structure n is.above);
      moves = (moves_compose (IsFileMove node n)).still own;
      tells = subst (λ (z : Told). Tells g own n z (body_blocks bs n z) (slot.Used f')) (sym (head_same g bs n h b' h' on is.reads same)) tells;
      reserved = λ old low at. let above = is.above in absurd (omega arith);
    }

  -- ---- marked

  marked_same : IsHeadSame (header_block g bs n) h (marked (header_block g bs n)) (record h { marked = true })
  marked_same =
      let read = first_reads b h is.reads in
      let whole = itself.whole in
      record {
        whole = whole_marked b whole;
        reads = reads_first (marked b) (record h { marked = true }) (marked-reads b h whole.long whole.bytes read) (first_segment b h is.reads);
        num = refl;
        blocks = refl;
        ext = refl;
        ext_seq = refl;
        runs = marked_runs b h whole.long read;
      }

  pub marked_for : IsHeaderFor g bs node n n own own x (marked (header_block g bs n)) (slot.Used (record f { marked = true }))
  marked_for = kept_for (marked b) (record h { marked = true }) (record f { marked = true }) marked_same (dir_read g bs own x n h spelt is.number is.reads (not_structure n is.above))
      (ap (λ (y : File). record y { marked = true }) (sym file))

  -- ---- with other sizes

  module _ (new : File) (flat : f.dir ≡ false) (sizes : IsResized g bs n h f new) where
    count : f.clusters ≡ length cs
    count = ap (λ (y : File). y.clusters) file ∙ counted g bs own x n h spelt is.number is.reads

    blocks : h.blocks ≡ g.cluster * f.clusters
    blocks = sized g bs own x n h spelt is.number is.reads ∙ ap (λ z. g.cluster * z) (sym count)

    low : g.cluster * f.clusters + 1 < 2 ^ 32
    low =
        let top = few g bs own x n h spelt is.number is.reads is.above in
        let same = count in
        let up : g.cluster * f.clusters ≤ 16 * f.clusters = mul-le-mul_right f.clusters spelt.counts.geometry.cluster_to in
        omega arith

    abbrev fields : Hdr
    fields = record h { mark = new.mark; end = new.end; byte = new.byte }

    pub sized_same : IsHeadSame (header_block g bs n) h (with_sizes (header_block g bs n) new) fields
    sized_same =
        let top = low in
        let size = blocks in
        let mark = sizes.mark in
        let end = sizes.end in
        reended b h (with_mark b new.mark) (record h { mark = new.mark }) new.end new.byte (remarked b h b h new.mark itself (omega arith) (omega arith)) (omega arith) (omega arith) sizes.byte

    places : blocks_told g bs n ≡ shown
    places = ap (blocks_at bs) (places_are g bs own x n h spelt is.number is.reads)

    told_so : file_of g.cluster n fields shown ≡ new
    told_so =
        let written : written_blocks n fields shown ≡ new.written = ap (written_blocks n fields) (sym places) ∙ sizes.written in
        ap (λ (w : List Block). record (file_of g.cluster n h shown) { mark = new.mark; end = new.end; byte = new.byte; written = w }) written
        ∙ ap (λ (y : File). record y { mark = new.mark; end = new.end; byte = new.byte; written = new.written }) (sym file)
        ∙ sizes.same

    pub sized_for : IsHeaderFor g bs node n n own own x (with_sizes (header_block g bs n) new) (slot.Used new)
    sized_for =
        let dir : h.dir ≡ false = ap (λ (y : File). y.dir) (sym file) ∙ flat in
        kept_for (with_sizes b new) fields new sized_same (ap (λ (d : Bool). dir_found g n (Some (record fields { dir = d })) (with_head (told_of g bs n) fields) shown) dir) told_so

    -- the same is told of the file then, but for its sizes
    pub sized_told : told_of g (slice_set bs (header_place g n) (with_sizes (header_block g bs n) new)) n ≡ with_head (told_of g bs n) fields
    sized_told = head_same g bs n h (with_sizes b new) fields on is.reads sized_same
