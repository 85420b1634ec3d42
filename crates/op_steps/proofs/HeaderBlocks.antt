-- The blocks of headers that are written: what is read of them, and the runs that they list.
use Rattle.std.proofs.Common.{◌≡◌, ◌∙◌, ◌≤◌, ◌<◌, ◌+◌, ◌*◌, ◌^◌, nat_lt, ℕ, Bool, true, false, min, cond, List, [], Some, take, length, sym, ap, subst, arith}
use Rattle.std.specs.Prelude.{Ok}
use Rattle.std.proofs.lemmas.List.{take_all}
use Rattle.base_words.specs.Fields.{Block, IsWholeBlock}
use Rattle.base_words.specs.Lists.{Has}
use Rattle.fx_header.specs.declared.run.Run.{Run}
use Rattle.fx_header.specs.declared.slot.Hdr.{Hdr}
use Rattle.fx_header.specs.declared.slot.Slot.TheVariants.{Used}
use Rattle.fx_header.specs.Pointers.{merged, map_words, AreRuns, blocks_in}
use Rattle.fx_header.specs.Headers.{header_read, header_bytes, runs_in, map_area, with_map, with_blocks, with_mark, with_end, scattered}
use Rattle.fx_header.proofs.SoundLemmas.{reads-sound, areas-of}
use Rattle.fx_header.proofs.SpellLemmas.{blocks_in-merged}
use Rattle.fx_header.proofs.PartLemmas.{map-runs, map-reads, blocks-runs, blocks-reads, link-runs, link-reads}
use Rattle.fx_header.proofs.SetterLemmas.{mark-reads, end-reads, scattered-reads}
use Rattle.fx_header.proofs.NewLemmas.{new-reads, header-area}
use Rattle.vol_parts.proofs.Bytes.{bytes-none}
use Rattle.vol_parts.proofs.WholeHeaders.{whole_header, whole_map, whole_link, whole_blocks, whole_mark, whole_end, whole_scattered}
use Rattle.vol_parts.specs.declared.geometry.Geometry.{Geometry}
use Rattle.vol_parts.specs.Chains.{Headers, held, cut}
use Rattle.vol_parts.specs.Parts.{IsGeometry}
use Rattle.vol_parts.specs.Volumes.{fields_in, runs_with}
use Rattle.plain_cat.specs.declared.cat.File.{File}
use Rattle.plain_rules.specs.Lookups.{extra, header_most}
use Rattle.vol_spell.specs.Reading.{total_of, header_block, headers_at, clusters_of}
use Rattle.vol_spell.specs.Spelling.{AreWhole}
use Rattle.vol_spell.proofs.HeadRuns.{mark_runs, end_runs, scattered_runs}
use Rattle.op_law.specs.Headers.{listing, next_fields, next_header, grown_first, grown_mark}
use Rattle.op_law.specs.Refusing.{SeenFile}
use Rattle.op_law.specs.Sizes.{lowered}
use Rattle.op_law.specs.Writing.{runs_for}
use Rattle.op_steps.proofs.Cut.{lowered_fields}
use Rattle.op_steps.proofs.CutClusters.{HasFirst, first_clusters}
use Rattle.op_steps.proofs.FileRuns.{whole_for, clusters_for_runs, are_runs_for, short_words, blocks_for_runs}
use Rattle.op_steps.proofs.Leading.{IsFull, IsLast}

-- a block that reads as a header with these fields, and lists these runs
pub record IsHeaderOf (b : Block) (x : Hdr) (rs : List Run) : Type 0 where
  pub whole : IsWholeBlock b
  pub reads : header_read b ≡ Ok (Used x)
  pub runs : runs_in b ≡ rs

-- a slot with such a block says and lists so
pub says_so : (g : Geometry) (bs : List Block) (i : ℕ) (x : Hdr) (rs : List Run) → IsHeaderOf (header_block g bs i) x rs → ((headers_at g bs).says i ≡ Some x) × ((headers_at g bs).lists i ≡ rs)
says_so g bs i x rs is =
    let says : fields_in (header_read (header_block g bs i)) ≡ Some x = ap fields_in is.reads in
    (says, ap (λ o. runs_with o (header_block g bs i)) says ∙ is.runs)

-- ---- the clusters that are listed

module _ (g : Geometry) (qs : List ℕ) (geometry : IsGeometry g) (within : (q : ℕ) → Has qs q → q < total_of g) where
  low : 1 ≤ g.cluster
  low = geometry.cluster_from

  -- a header that lists these clusters has their blocks
  listed_blocks : blocks_in (merged (runs_for g qs)) ≡ g.cluster * length qs
  listed_blocks = blocks_in-merged (runs_for g qs) ∙ blocks_for_runs g qs

  pub lists_last : (h : Headers) (n : ℕ) → h.lists n ≡ merged (runs_for g qs) → IsLast g h n qs
  lists_last h n lists =
      let first : HasFirst g (length qs) (merged (runs_for g qs)) (cut (g.cluster * length qs) (merged (runs_for g qs))) =
      first_clusters g low (length qs) (merged (runs_for g qs)) (whole_for g low qs within) in
      let all : held h n ≡ g.cluster * length qs = ap blocks_in lists ∙ listed_blocks in
      record {
        enough = omega arith;
        whole = subst (λ (rs : List Run). AreWhole g (cut (g.cluster * length qs) rs)) (sym lists) first.whole;
        clusters = ap (λ (rs : List Run). clusters_of g.cluster (cut (g.cluster * length qs) rs)) lists ∙ first.clusters ∙ ap (λ ks. take (length qs) ks) (clusters_for_runs g low qs within) ∙ take_all (length qs) qs (omega arith);
      }

  pub lists_full : (h : Headers) (n : ℕ) → length qs ≡ header_most → h.lists n ≡ merged (runs_for g qs) → IsFull g h n qs
  lists_full h n full lists = record {
    whole = subst (λ (rs : List Run). AreWhole g rs) (sym lists) (whole_for g low qs within);
    clusters = ap (λ (rs : List Run). clusters_of g.cluster rs) lists ∙ clusters_for_runs g low qs within;
    full = full;
  }

  are : AreRuns (runs_for g qs)
  are = are_runs_for g low qs within geometry.blocks_to

  -- ---- blocks

  module _ (few : length qs ≤ header_most) where
    short : length (map_words (runs_for g qs)) ≤ 4 * length qs
    short = short_words g low qs within geometry.cluster_to geometry.blocks_to

    -- a header that lists other clusters, and has another link
    pub listing_is : (b : Block) (x : Hdr) (rs : List Run) (link : ℕ × ℕ) → IsHeaderOf b x rs → link.0 < 2 ^ 24 → link.1 < 2 ^ 16
        → IsHeaderOf (listing g b qs link) (record x { ext = link.0; ext_seq = link.1 }) (merged (runs_for g qs))
    unfolding listing
    listing_is b x rs link is num seq =
        let sound = reads-sound b x is.reads in
        let areas = areas-of b sound.offsets in
        let words = short in
        let room : length (map_words (runs_for g qs)) ≤ 2 * map_area b = omega (arith, areas.room, words, few) in
        let mapped : Block = with_map b (runs_for g qs) in
        let whole : IsWholeBlock mapped = whole_map b (runs_for g qs) is.whole sound.offsets room in
        let read : header_read mapped ≡ Ok (Used x) = map-reads b (runs_for g qs) is.whole.long sound.offsets are room x is.reads in
        let runs : runs_in mapped ≡ merged (runs_for g qs) = map-runs b (runs_for g qs) is.whole.long sound.offsets are room in
        let again = reads-sound mapped x read in
        record {
          whole = whole_link mapped link.0 link.1 whole;
          reads = link-reads mapped link.0 link.1 whole.long x num seq read;
          runs = (link-runs mapped link.0 link.1 whole.long again.offsets again.map).0 ∙ runs;
        }

-- ---- other fields

pub blocks_is : (b : Block) (x : Hdr) (rs : List Run) (blocks : ℕ) → IsHeaderOf b x rs → blocks < 2 ^ 32 → x.end ≤ blocks + 1 → x.mark ≤ blocks + 1 → IsHeaderOf (with_blocks b blocks) (record x { blocks = blocks }) rs
blocks_is b x rs blocks is fits end mark =
    let sound = reads-sound b x is.reads in
    record {
      whole = whole_blocks b blocks is.whole;
      reads = blocks-reads b blocks is.whole.long x fits is.reads (λ first. (end, mark));
      runs = (blocks-runs b blocks is.whole.long sound.offsets sound.map).0 ∙ is.runs;
    }

pub mark_is : (b : Block) (x : Hdr) (rs : List Run) (mark : ℕ) → IsHeaderOf b x rs → mark < 2 ^ 32 → mark ≤ x.blocks + 1 → IsHeaderOf (with_mark b mark) (record x { mark = mark }) rs
mark_is b x rs mark is fits within = record {
  whole = whole_mark b mark is.whole;
  reads = mark-reads b x mark is.whole.long fits is.reads within;
  runs = mark_runs b x mark is.whole.long is.reads ∙ is.runs;
}

pub end_is : (b : Block) (x : Hdr) (rs : List Run) (end byte : ℕ) → IsHeaderOf b x rs → end < 2 ^ 32 → end ≤ x.blocks + 1 → byte ≤ 511 → IsHeaderOf (with_end b end byte) (record x { end = end; byte = byte }) rs
end_is b x rs end byte is fits within small = record {
  whole = whole_end b end byte is.whole;
  reads = end-reads b x end byte is.whole.long fits is.reads within small;
  runs = end_runs b x end byte is.whole.long is.reads ∙ is.runs;
}

pub scattered_is : (b : Block) (x : Hdr) (rs : List Run) → IsHeaderOf b x rs → IsHeaderOf (scattered b) x rs
scattered_is b x rs is = record {
  whole = whole_scattered b is.whole;
  reads = scattered-reads b x is.whole.long is.whole.bytes is.reads;
  runs = scattered_runs b x is.whole.long is.reads ∙ is.runs;
}

-- ---- the first header of a file that loses clusters

-- its mark and its end come down to the block behind those that stay
pub lowered_is : (f : File) (b : Block) (h : Hdr) (rs : List Run) (blocks : ℕ) → IsHeaderOf b h rs → f.mark ≡ h.mark → f.end ≡ h.end → f.byte ≡ h.byte → blocks ≤ h.blocks → blocks + 1 < 2 ^ 32 → h.byte ≤ 511
    → IsHeaderOf (lowered b f blocks) (lowered_fields h blocks) rs
lowered_is f b h rs blocks is mark end byte room top small =
    let m : ℕ = min h.mark (blocks + 1) in
    let e : ℕ = min h.end (blocks + 1) in
    let y : ℕ = cond (nat_lt (blocks + 1) h.end) 0 h.byte in
    let low : cond (nat_lt (blocks + 1) h.end) 0 h.byte ≤ 511 = by_test (nat_lt (blocks + 1) h.end) in
    let ended = end_is b h rs (min h.end (blocks + 1)) (cond (nat_lt (blocks + 1) h.end) 0 h.byte) is (omega arith) (omega arith) low in
    let both = mark_is (with_end b e y) (record h { end = e; byte = y }) rs (min h.mark (blocks + 1)) ended (omega arith) (omega arith) in
    subst (λ z. IsHeaderOf (with_mark (with_end b (min f.end (blocks + 1)) (cond (nat_lt (blocks + 1) f.end) 0 f.byte)) (min z (blocks + 1))) (lowered_fields h blocks) rs) (sym mark)
    (subst (λ z. IsHeaderOf (with_mark (with_end b (min z (blocks + 1)) (cond (nat_lt (blocks + 1) z) 0 f.byte)) m) (lowered_fields h blocks) rs) (sym end)
    (subst (λ z. IsHeaderOf (with_mark (with_end b e (cond (nat_lt (blocks + 1) h.end) 0 z)) m) (lowered_fields h blocks) rs) (sym byte) both))
  where
    by_test : (t : Bool) → cond t 0 h.byte ≤ 511
    by_test true = omega arith
    by_test false = small

-- ---- a first header of a file that gets clusters, and a new header

-- the first header says more blocks
pub grown_first_is : (g : Geometry) (f : File) (b : Block) (x : Hdr) (rs : List Run) (k : ℕ) → IsHeaderOf b x rs → g.cluster * (f.clusters + k) + 1 < 2 ^ 32 → x.end ≤ g.cluster * (f.clusters + k) + 1
    → x.mark ≤ g.cluster * (f.clusters + k) + 1 → grown_mark g f ≤ g.cluster * (f.clusters + k) + 1
    → IsHeaderOf (grown_first g f b k) (record x { blocks = g.cluster * (f.clusters + k); mark = grown_mark g f }) rs
unfolding grown_first
grown_first_is g f b x rs k is top end mark new_mark =
    let blocks : ℕ = g.cluster * (f.clusters + k) in
    let sized = blocks_is b x rs (g.cluster * (f.clusters + k)) is (omega arith) end mark in
    let marked = mark_is (with_blocks b (g.cluster * (f.clusters + k))) (record x { blocks = g.cluster * (f.clusters + k) }) rs (grown_mark g f) sized (omega arith) new_mark in
    scattered_is (with_mark (with_blocks b (g.cluster * (f.clusters + k))) (grown_mark g f)) (record x { blocks = g.cluster * (f.clusters + k); mark = grown_mark g f }) rs marked

-- the new header
pub next_is : (g : Geometry) (f : SeenFile) (new : ℕ × ℕ) (qs : List ℕ) → IsGeometry g → ((q : ℕ) → Has qs q → q < total_of g) → length qs ≤ header_most → 1 ≤ new.0 → new.0 < 2 ^ 24 → new.1 < 2 ^ 16 → f.file.owner.0 < 2 ^ 32
    → extra f.file.clusters + 1 ≤ 15 → IsHeaderOf (next_header g f new qs) (next_fields f.file (extra f.file.clusters + 1) new) (merged (runs_for g qs))
unfolding next_header
next_is g f new qs geometry within few from num seq owner seg =
    let fields : Hdr = next_fields f.file (extra f.file.clusters + 1) new in
    let base : Block = header_bytes fields [] (f.num, f.file.seq) in
    let area = header-area fields [] (f.num, f.file.seq) in
    let short = short_words g geometry.cluster_from qs within geometry.cluster_to geometry.blocks_to in
    let room : length (map_words (runs_for g qs)) ≤ 2 * map_area base = omega (arith, area, short, few) in
    let are : AreRuns (runs_for g qs) = are_runs_for g geometry.cluster_from qs within geometry.blocks_to in
    let made = new-reads fields [] (f.num, f.file.seq) (record {
      from = from;
      num = num;
      seq = seq;
      owner = owner;
      blocks = omega arith;
      mark = omega arith;
      end = omega arith;
      byte = omega arith;
      seg = seg;
      ext = omega arith;
      ext_seq = omega arith;
    }) (λ first. (omega arith, omega arith)) (λ first. omega arith) in
    let mapped = made.map (runs_for g qs) (are, room) in
    let whole : IsWholeBlock base = whole_header fields [] (f.num, f.file.seq) bytes-none in
    record {
      whole = whole_map base (runs_for g qs) whole (reads-sound base fields made.empty.0).offsets room;
      reads = mapped.0;
      runs = mapped.1;
    }
