-- The first header of a file whose clusters stay, as a step: marked for delete, or with other sizes.
use Rattle.std.proofs.Common.{◌≡◌, ◌∙◌, ◌≤◌, ◌<◌, ◌+◌, ◌*◌, ◌^◌, ℕ, Bool, true, false, List, length, slice_set, refl, sym, ap, arith}
use Rattle.std.proofs.Math.Nat.{mul-le-mul_right}
use Rattle.base_words.specs.Fields.{Block}
use Rattle.fx_header.specs.declared.run.Run.{Run}
use Rattle.fx_header.specs.declared.slot.Hdr.{Hdr}
use Rattle.fx_header.specs.Headers.{runs_in, marked, with_mark}
use Rattle.fx_header.proofs.SetterLemmas.{marked-reads}
use Rattle.plain_cat.specs.declared.cat.Cat.{Cat}
use Rattle.plain_cat.specs.declared.cat.File.{File}
use Rattle.plain_cat.specs.declared.cat.Slot.TheVariants as slot
use Rattle.vol_parts.specs.declared.geometry.Geometry.{Geometry}
use Rattle.vol_parts.specs.Catalogues.{file_of, written_blocks}
use Rattle.vol_parts.proofs.WholeHeaders.{whole_marked}
use Rattle.vol_spell.specs.Files.{with_sizes, blocks_told, IsFileThere, IsResized}
use Rattle.vol_spell.specs.Kinds.{IsHeaderFor}
use Rattle.vol_spell.specs.Owners.{Owners}
use Rattle.vol_spell.specs.Reading.{header_place, header_block, told_of, clusters_told}
use Rattle.vol_spell.specs.Spelling.{Spells}
use Rattle.vol_spell.specs.Spread.{blocks_at, spread}
use Rattle.vol_spell.proofs.HeadKept.{marked_for}
use Rattle.vol_spell.proofs.HeadRuns.{marked_runs}
use Rattle.vol_under.specs.Chains.{End}
use Rattle.op_steps.specs.Files.{file_in}
use Rattle.op_steps.specs.MarkWrites.{IsSameChain, marked_write, MarkedSteps, sized_write, SizedSteps}
use Rattle.op_steps.proofs.ChainFiles.{heads, chain_sized, chain_counted, chain_places, chain_few, chain_file}
use Rattle.op_steps.proofs.FileNow.{now_has}
use Rattle.op_steps.proofs.FirstHeaders.{IsSameFirst, first_now, first_same, first_for}
use Rattle.op_steps.proofs.HeadSteps.{head_steps}
use Rattle.op_steps.proofs.HeaderBlocks.{IsHeaderOf, mark_is, end_is}

module _ (g : Geometry) (node n : ℕ) (h : Hdr) (f : File) (x : Cat) (bs : List Block) (own : Owners) (spelt : Spells g bs own x) (there : IsFileThere g x bs n h f) where
  abbrev rs : List Run
  rs = runs_in (header_block g bs n)

  abbrev qs : List ℕ
  qs = clusters_told g (told_of g bs n)

  -- a block with the same runs, whose file is this one
  kept_for : (b : Block) (h2 : Hdr) (f2 : File) → IsHeaderOf b h2 rs → h2.num ≡ h.num → h2.blocks ≡ h.blocks → h2.seg ≡ h.seg → h2.ext ≡ h.ext → h2.ext_seq ≡ h.ext_seq → h2.dir ≡ h.dir → h.dir ≡ false
      → file_of g.cluster n h2 (blocks_at bs (spread g.cluster qs)) ≡ f2 → IsHeaderFor g bs node n n own own x b (slot.Used f2)
  kept_for b h2 f2 b_is num blocks seg ext ext_seq dir flat told =
      let hs = heads g bs own x n h spelt there.number there.above there.reads in
      first_for g own x n h f bs b h2 b_is (record { num = num; blocks = blocks; seg = seg; ext = ext; ext_seq = ext_seq; dir = dir }) node hs.is hs.m hs.x hs.cs hs.ds (now_has g own x n h f bs spelt there) flat f2
      (ap (λ ps. file_of g.cluster n h2 (blocks_at bs (spread g.cluster ps))) (sym hs.clusters) ∙ told)

  -- which has the same chain
  kept_chain : (b : Block) (h2 : Hdr) → IsHeaderOf b h2 rs → IsSameFirst h h2 → IsSameChain g n bs (slice_set bs (header_place g n) b)
  kept_chain b h2 b_is same =
      let hs = heads g bs own x n h spelt there.number there.above there.reads in
      first_same g own x n h f bs b h2 b_is same hs.is hs.m hs.x hs.cs hs.ds (now_has g own x n h f bs spelt there)

  was : IsHeaderOf (header_block g bs n) h rs
  was =
      let hs = heads g bs own x n h spelt there.number there.above there.reads in
      first_now g own x n h f bs hs.is hs.m hs.x hs.cs hs.ds (now_has g own x n h f bs spelt there)

  file_now : f ≡ file_of g.cluster n h (blocks_at bs (spread g.cluster qs))
  file_now = chain_file g bs own x n h spelt there.number there.above there.reads f there.file

  -- ---- marked: a directory has one header

  marked_is : IsHeaderOf (marked (header_block g bs n)) (record h { marked = true }) rs
  marked_is = record {
    whole = whole_marked (header_block g bs n) was.whole;
    reads = marked-reads (header_block g bs n) h was.whole.long was.whole.bytes was.reads;
    runs = marked_runs (header_block g bs n) h was.whole.long was.reads;
  }

  pub marked_then : IsHeaderFor g bs node n n own own x (marked (header_block g bs n)) (slot.Used (record f { marked = true }))
  marked_then = by_dir h.dir refl where
    by_dir : (d : Bool) → h.dir ≡ d → IsHeaderFor g bs node n n own own x (marked (header_block g bs n)) (slot.Used (record f { marked = true }))
    by_dir true e = marked_for g node n h f x bs own spelt there
    by_dir false e =
        kept_for (marked (header_block g bs n)) (record h { marked = true }) (record f { marked = true }) marked_is refl refl refl refl refl refl e
        (ap (λ (y : File). record y { marked = true }) (sym file_now))

  pub marked_chain : IsSameChain g n bs (slice_set bs (header_place g n) (marked (header_block g bs n)))
  marked_chain = kept_chain (marked (header_block g bs n)) (record h { marked = true }) marked_is (record { num = refl; blocks = refl; seg = refl; ext = refl; ext_seq = refl; dir = refl })

  -- ---- with other sizes

  module _ (new : File) (flat : f.dir ≡ false) (sizes : IsResized g bs n h f new) where
    blocks : h.blocks ≡ g.cluster * f.clusters
    blocks =
        chain_sized g bs own x n h spelt there.number there.above there.reads
        ∙ ap (λ z. g.cluster * z) (sym (ap (λ (y : File). y.clusters) file_now ∙ chain_counted g bs own x n h spelt there.number there.above there.reads))

    low : g.cluster * f.clusters + 1 < 2 ^ 32
    low =
        let top = chain_few g bs own x n h spelt there.number there.above there.reads in
        let same : f.clusters ≡ length qs = ap (λ (y : File). y.clusters) file_now ∙ chain_counted g bs own x n h spelt there.number there.above there.reads in
        let up : g.cluster * f.clusters ≤ 16 * f.clusters = mul-le-mul_right f.clusters spelt.counts.geometry.cluster_to in
        omega arith

    abbrev fields : Hdr
    fields = record h { mark = new.mark; end = new.end; byte = new.byte }

    sized_is : IsHeaderOf (with_sizes (header_block g bs n) new) fields rs
    sized_is =
        let top = low in
        let size = blocks in
        let mark = sizes.mark in
        let end = sizes.end in
        end_is (with_mark (header_block g bs n) new.mark) (record h { mark = new.mark }) rs new.end new.byte (mark_is (header_block g bs n) h rs new.mark was (omega arith) (omega arith)) (omega arith) (omega arith) sizes.byte

    dir : h.dir ≡ false
    dir = ap (λ (y : File). y.dir) (sym file_now) ∙ flat

    told : file_of g.cluster n fields (blocks_at bs (spread g.cluster qs)) ≡ new
    told =
        let shown : List Block = blocks_at bs (spread g.cluster qs) in
        let places : blocks_told g bs n ≡ shown = ap (blocks_at bs) (chain_places g bs own x n h spelt there.number there.above there.reads) in
        let written : written_blocks n fields shown ≡ new.written = ap (written_blocks n fields) (sym places) ∙ sizes.written in
        ap (λ (w : List Block). record (file_of g.cluster n h shown) { mark = new.mark; end = new.end; byte = new.byte; written = w }) written
        ∙ ap (λ (y : File). record y { mark = new.mark; end = new.end; byte = new.byte; written = new.written }) (sym file_now)
        ∙ sizes.same

    pub sized_then : IsHeaderFor g bs node n n own own x (with_sizes (header_block g bs n) new) (slot.Used new)
    sized_then = kept_for (with_sizes (header_block g bs n) new) fields new sized_is refl refl refl refl refl refl dir told

    pub sized_chain : IsSameChain g n bs (slice_set bs (header_place g n) (with_sizes (header_block g bs n) new))
    sized_chain = kept_chain (with_sizes (header_block g bs n) new) fields sized_is (record { num = refl; blocks = refl; seg = refl; ext = refl; ext_seq = refl; dir = refl })

pub marked_steps : (end : End) → MarkedSteps end
marked_steps end k n h f s ws x bs own on is lock stage rest =
    head_steps end k n (slot.Used (record f { marked = true })) (marked_write k.geometry (file_in k.geometry bs n h) s) ws x bs own own on.spelt lock refl (marked_then k.geometry k.node n h f x bs own on.spelt is) on.outs stage
    (λ w. rest w (marked_chain k.geometry k.node n h f x bs own on.spelt is))

pub sized_steps : (end : End) → SizedSteps end
sized_steps end k n h f new s ws x bs own on is flat sizes lock stage rest =
    head_steps end k n (slot.Used new) (sized_write k.geometry (file_in k.geometry bs n h) new s) ws x bs own own on.spelt lock refl (sized_then k.geometry k.node n h f x bs own on.spelt is new flat sizes) on.outs stage
    (λ w. rest w (sized_chain k.geometry k.node n h f x bs own on.spelt is new flat sizes))
