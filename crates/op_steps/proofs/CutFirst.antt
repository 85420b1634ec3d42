-- The first header of a file that loses clusters.
use Rattle.std.proofs.Common.{◌≡◌, ◌≢◌, ◌∙◌, ◌≤◌, ◌<◌, ◌+◌, ◌*◌, ◌^◌, ◌++◌, ℕ, false, List, [], ◌∷◌, Some, min, take, drop, length, slice_set, refl, sym, ap, subst, inl, arith, length-take}
use Rattle.std.specs.Prelude.{Ok}
use Rattle.std.proofs.Math.Nat.{mul-le-mul_left, mul-le-mul_right}
use Rattle.std.proofs.lemmas.List.{take-append-drop}
use Rattle.base_words.specs.Fields.{Block}
use Rattle.base_words.specs.Lists.{Has}
use Rattle.base_words.proofs.Listing.{has_first, has_second}
use Rattle.fx_header.specs.declared.run.Run.{Run}
use Rattle.fx_header.specs.declared.slot.Hdr.{Hdr}
use Rattle.fx_header.specs.declared.slot.Slot.TheVariants as head
use Rattle.fx_header.specs.Headers.{runs_in}
use Rattle.fx_header.specs.Pointers.{merged}
use Rattle.plain_cat.specs.declared.cat.Cat.{Cat}
use Rattle.plain_cat.specs.declared.cat.File.{File}
use Rattle.plain_cat.specs.declared.cat.Slot.TheVariants as slot
use Rattle.plain_rules.specs.Changes.{cut}
use Rattle.plain_rules.specs.Lookups.{file_most}
use Rattle.vol_parts.specs.declared.geometry.Geometry.{Geometry}
use Rattle.vol_parts.specs.Catalogues.{file_of}
use Rattle.vol_spell.specs.Kinds.{IsHeaderFor}
use Rattle.vol_spell.specs.Owners.{Owners}
use Rattle.vol_spell.specs.Reading.{IsFileNumber, total_of, header_place, header_block, headers_at, head_told}
use Rattle.vol_spell.specs.Spelling.{IsHead}
use Rattle.vol_spell.specs.Spread.{blocks_at, spread}
use Rattle.vol_spell.proofs.Heads.{first_reads, first_segment, reads_first}
use Rattle.vol_spell.proofs.HeadFiles.{not_structure}
use Rattle.vol_spell.proofs.Placing.{index-set_here, spread_joined, blocks_joined, spread_places, length-blocks_at}
use Rattle.op_law.specs.Headers.{tail_of, listing, no_link, cut_last}
use Rattle.op_law.specs.Refusing.{SeenFile}
use Rattle.op_law.specs.SeenFiles.{file_clusters}
use Rattle.op_law.specs.Sizes.{lowered, cut_first}
use Rattle.op_law.specs.Writing.{empty_handed, runs_for}
use Rattle.op_steps.specs.Chained.{Chain, StandsOn}
use Rattle.op_steps.proofs.ChainFiles.{slot_on, slot_whole, slot_stays, chain_few, chain_sized, chain_file, chain_number, chain_byte}
use Rattle.op_steps.proofs.Cut.{lowered_fields, cut_fields, cut_told}
use Rattle.op_steps.proofs.CutOwners.{left, within, kept_slot, gives, front_once, front_mine, kept_numbers, front_few}
use Rattle.op_steps.proofs.CutParts.{IsCutHere}
use Rattle.op_steps.proofs.FileNow.{IsNow, seen_with, clusters_now}
use Rattle.op_steps.proofs.HeaderBlocks.{IsHeaderOf, says_so, lists_last, listing_is, blocks_is, lowered_is}
use Rattle.op_steps.proofs.HeadersFor.{IsChainFor, chain_for}
use Rattle.op_steps.proofs.LeadMoves.{last_same, lead_apart, lead_behind, IsFirstSet, lead_first}
use Rattle.op_steps.proofs.Leading.{AreHeaders, HasHeaders}

module _ (k : Chain) (n : ℕ) (h : Hdr) (f : File) (kept : ℕ) (x : Cat) (bs : List Block) (own : Owners) (on : StandsOn k empty_handed x bs own) (flat : f.dir ≡ false) (is : List ℕ) (m : ℕ) (y : Hdr) (cs ds : List ℕ)
    (now : IsNow k.geometry own x n h f bs is m y cs ds) (le : kept ≤ length (cs ++ ds)) (ks gs : List ℕ) (split : ks ++ gs ≡ is) where
  abbrev g : Geometry
  g = k.geometry

  -- the file as it is seen
  abbrev s : SeenFile
  s = seen_with k.geometry bs n h is

  abbrev front : List ℕ
  front = take kept (cs ++ ds)

  abbrev back : List ℕ
  back = drop kept (cs ++ ds)

  abbrev pub limit : ℕ
  limit = k.geometry.cluster * kept

  number : IsFileNumber k.geometry n
  number = now.there.number

  front_count : length front ≡ kept
  front_count = length-take kept (cs ++ ds) ∙ (let e : min kept (length (cs ++ ds)) ≡ kept = omega arith in e)

  file_is : f ≡ file_of k.geometry.cluster n h (blocks_at bs (spread k.geometry.cluster (cs ++ ds)))
  file_is = chain_file g bs own x n h on.spelt number now.there.above now.there.reads f now.there.file ∙ ap (λ qs. file_of g.cluster n h (blocks_at bs (spread g.cluster qs))) now.clusters

  pub dir : h.dir ≡ false
  dir = ap (λ (z : File). z.dir) (sym file_is) ∙ flat

  few : length (cs ++ ds) ≤ file_most
  few = subst (λ qs. length qs ≤ file_most) now.clusters (chain_few g bs own x n h on.spelt number now.there.above now.there.reads)

  size : h.blocks ≡ k.geometry.cluster * length (cs ++ ds)
  size = chain_sized g bs own x n h on.spelt number now.there.above now.there.reads ∙ ap (λ qs. g.cluster * length qs) now.clusters

  room : limit ≤ h.blocks
  room = let e = size in let up : g.cluster * kept ≤ g.cluster * length (cs ++ ds) = mul-le-mul_left g.cluster le in omega arith

  top : limit + 1 < 2 ^ 32
  top =
      let most = few in
      let up : g.cluster * kept ≤ 16 * kept = mul-le-mul_right kept on.spelt.counts.geometry.cluster_to in
      omega arith

  -- ---- the file then

  abbrev front_blocks : List Block
  front_blocks = blocks_at bs (spread k.geometry.cluster (take kept (cs ++ ds)))

  abbrev back_blocks : List Block
  back_blocks = blocks_at bs (spread k.geometry.cluster (drop kept (cs ++ ds)))

  joined : blocks_at bs (spread k.geometry.cluster (cs ++ ds)) ≡ front_blocks ++ back_blocks
  joined =
      ap (λ (qs : List ℕ). blocks_at bs (spread g.cluster qs)) (sym (take-append-drop kept (cs ++ ds))) ∙ ap (blocks_at bs) (spread_joined g.cluster front back)
      ∙ blocks_joined bs (spread g.cluster front) (spread g.cluster back)

  front_long : length front_blocks ≡ k.geometry.cluster * kept
  front_long =
      let turn : kept * g.cluster ≡ g.cluster * kept = omega arith in
      length-blocks_at bs (spread g.cluster front) ∙ spread_places.count g.cluster front ∙ ap (λ z. z * g.cluster) front_count ∙ turn

  -- the fields of its first header, maybe with another link
  abbrev pub fields : ℕ → ℕ → Hdr
  fields ext ext_seq = record (cut_fields h limit) { ext = ext; ext_seq = ext_seq }

  told_cut : (ext ext_seq : ℕ) → file_of k.geometry.cluster n (fields ext ext_seq) front_blocks ≡ cut x f kept
  told_cut ext ext_seq =
      cut_told g x.factor n h kept front_blocks back_blocks on.spelt.constants.factor on.spelt.counts.geometry.cluster_from (not_structure n now.there.above) dir front_long
      ∙ ap (λ (body : List Block). cut x (file_of g.cluster n h body) kept) (sym joined)
      ∙ ap (λ (z : File). cut x z kept) (sym file_is)

  module _ (ext ext_seq : ℕ) (b : Block) (rs : List Run) (is_b : IsHeaderOf b (fields ext ext_seq) rs)
      (has : HasHeaders k.geometry (headers_at k.geometry (slice_set bs (header_place k.geometry n) b)) n (fields ext ext_seq) (n ∷ ks) (take kept (cs ++ ds))) where
    abbrev after : List Block
    after = slice_set bs (header_place k.geometry n) b

    pub here : header_block k.geometry after n ≡ b
    here = index-set_here bs (header_place g n) b (slot_on g bs own x n on.spelt number)

    pub reads_after : head_told (header_block k.geometry after n) ≡ Ok (head.Used (fields ext ext_seq))
    reads_after = ap head_told here ∙ reads_first b (fields ext ext_seq) is_b.reads (first_segment (header_block g bs n) h now.there.reads)

    for : IsChainFor k.geometry bs own (left k n h f kept x bs own on is m y cs ds now ks gs split) k.node n n b (fields ext ext_seq) (n ∷ ks) (take kept (cs ++ ds)) (cut x f kept)
    for =
        let num = chain_number g bs own x n h on.spelt number now.there.above now.there.reads in
        record {
          whole = is_b.whole;
          head = subst (IsHead n) (sym is_b.reads) num;
          reads = reads_after;
          num = num;
          has = has;
          alike = λ ne. absurd (ne refl);
          moves = (gives k n h f kept x bs own on is m y cs ds now ks gs split).moves;
          once = front_once k n h f kept x bs own on is m y cs ds now ks gs split;
          clusters = front_mine k n h f kept x bs own on is m y cs ds now ks gs split;
          numbers = kept_numbers k n h f kept x bs own on is m y cs ds now ks gs split;
          few = let a = few in let c = front_few k n h f kept x bs own on is m y cs ds now ks gs split in omega arith;
          flat = dir;
          file = told_cut ext ext_seq;
        }

    pub first_for : IsHeaderFor k.geometry bs k.node n n own (left k n h f kept x bs own on is m y cs ds now ks gs split) x b (slot.Used (cut x f kept))
    first_for =
        chain_for g bs own (left k n h f kept x bs own on is m y cs ds now ks gs split) x k.node n n b (fields ext ext_seq) (n ∷ ks) (take kept (cs ++ ds)) (cut x f kept) on.spelt number now.there.above (inl refl)
        (kept_slot k n h f kept x bs own on is m y cs ds now ks gs split n (inl refl)).1 for

  -- ---- its block

  was : IsHeaderOf (header_block k.geometry bs n) h (runs_in (header_block k.geometry bs n))
  was = record { whole = slot_whole g bs own x n on.spelt number; reads = first_reads (header_block g bs n) h now.there.reads; runs = refl }

  abbrev low_block : Block
  low_block = lowered (header_block k.geometry bs n) s.file limit

  low_is : IsHeaderOf low_block (lowered_fields h limit) (runs_in (header_block k.geometry bs n))
  low_is =
      lowered_is s.file (header_block g bs n) h (runs_in (header_block g bs n)) limit was refl refl refl room top (chain_byte g bs own x n h on.spelt number now.there.above now.there.reads)

  module _ (kept_here : IsCutHere k.geometry (headers_at k.geometry bs) n h ks (cs ++ ds) kept) where
    -- what the last header that stays lists
    pub tail_now : tail_of kept (file_clusters k.geometry s) ≡ kept_here.ds
    tail_now = ap (tail_of kept) (clusters_now g own x n h f bs is m y cs ds now) ∙ kept_here.tail

    pub tail_within : (q : ℕ) → Has kept_here.ds q → q < total_of k.geometry
    tail_within q t =
        within k n h f kept x bs own on is m y cs ds now ks gs split q
        (subst (λ qs. Has qs q) (take-append-drop kept (cs ++ ds)) (has_first front back q (subst (λ qs. Has qs q) (sym kept_here.parts) (has_second kept_here.cs kept_here.ds q t))))

    -- a header that lists it, and has no link
    pub relisted : (b : Block) (z : Hdr) (rs : List Run) → IsHeaderOf b z rs → IsHeaderOf (cut_last k.geometry s kept b) (record z { ext = 0; ext_seq = 0 }) (merged (runs_for k.geometry kept_here.ds))
    relisted b z rs is_b =
        subst (λ qs. IsHeaderOf (listing g b qs no_link) (record z { ext = 0; ext_seq = 0 }) (merged (runs_for g kept_here.ds))) (sym tail_now)
        (listing_is g kept_here.ds on.spelt.counts.geometry tail_within kept_here.few b z rs no_link is_b (omega arith) (omega arith))

    all_blocks : k.geometry.cluster * kept ≡ k.geometry.cluster * length (kept_here.cs ++ kept_here.ds)
    all_blocks = ap (λ z. g.cluster * z) (sym front_count ∙ ap length kept_here.parts)

-- where it is the last one that stays
module _ (k : Chain) (n : ℕ) (h : Hdr) (f : File) (kept : ℕ) (x : Cat) (bs : List Block) (own : Owners) (on : StandsOn k empty_handed x bs own) (flat : f.dir ≡ false) (is : List ℕ) (m : ℕ) (y : Hdr) (cs ds : List ℕ)
    (now : IsNow k.geometry own x n h f bs is m y cs ds) (le : kept ≤ length (cs ++ ds)) (gs : List ℕ) (split : [] ++ gs ≡ is) (kept_here : IsCutHere k.geometry (headers_at k.geometry bs) n h [] (cs ++ ds) kept) where
  abbrev pub sole : Block
  sole = cut_first k.geometry (seen_with k.geometry bs n h is) kept []

  pub sole_is : IsHeaderOf sole (fields k n h f kept x bs own on flat is m y cs ds now le [] gs split 0 0) (merged (runs_for k.geometry kept_here.ds))
  unfolding cut_first
  sole_is =
      let g = k.geometry in
      let low = low_block k n h f kept x bs own on flat is m y cs ds now le [] gs split in
      let listed = relisted k n h f kept x bs own on flat is m y cs ds now le [] gs split kept_here low (lowered_fields h (g.cluster * kept)) (runs_in (header_block g bs n)) (low_is k n h f kept x bs own on flat is m y cs ds now le [] gs split) in
      let fits = top k n h f kept x bs own on flat is m y cs ds now le [] gs split in
      blocks_is (cut_last g (seen_with g bs n h is) kept low) (record (lowered_fields h (g.cluster * kept)) { ext = 0; ext_seq = 0 }) (merged (runs_for g kept_here.ds)) (g.cluster * kept) listed (omega arith) (omega arith) (omega arith)

  pub sole_has : HasHeaders k.geometry (headers_at k.geometry (slice_set bs (header_place k.geometry n) sole)) n (fields k n h f kept x bs own on flat is m y cs ds now le [] gs split 0 0) (n ∷ []) (take kept (cs ++ ds))
  sole_has =
      let g = k.geometry in
      let after = slice_set bs (header_place g n) sole in
      let first = fields k n h f kept x bs own on flat is m y cs ds now le [] gs split 0 0 in
      let listed = merged (runs_for g kept_here.ds) in
      let at : header_block g after n ≡ sole = index-set_here bs (header_place g n) sole (slot_on g bs own x n on.spelt now.there.number) in
      let so = says_so g after n first listed (subst (λ (z : Block). IsHeaderOf z first listed) (sym at) sole_is) in
      let none : kept_here.cs ≡ [] = kept_here.lead.2 in
      record {
        is = [];
        m = n;
        x = first;
        cs = [];
        ds = kept_here.ds;
        slots = refl;
        clusters = kept_here.parts ∙ ap (λ qs. qs ++ kept_here.ds) none;
        are = record {
          says = so.0;
          lead = (refl, refl, refl);
          last = lists_last g kept_here.ds on.spelt.counts.geometry (tail_within k n h f kept x bs own on flat is m y cs ds now le [] gs split kept_here) (headers_at g after) n so.1;
          few = kept_here.few;
          some = kept_here.some;
          short = kept_here.short;
          blocks = all_blocks k n h f kept x bs own on flat is m y cs ds now le [] gs split kept_here ∙ ap (λ qs. g.cluster * length (qs ++ kept_here.ds)) none;
        };
      }

-- where another one is the last
module _ (k : Chain) (n : ℕ) (h : Hdr) (f : File) (kept : ℕ) (x : Cat) (bs : List Block) (own : Owners) (on : StandsOn k empty_handed x bs own) (flat : f.dir ≡ false) (is : List ℕ) (m : ℕ) (y : Hdr) (cs ds : List ℕ)
    (now : IsNow k.geometry own x n h f bs is m y cs ds) (le : kept ≤ length (cs ++ ds)) (i : ℕ) (ks gs : List ℕ) (split : (i ∷ ks) ++ gs ≡ is) (kept_here : IsCutHere k.geometry (headers_at k.geometry bs) n h (i ∷ ks) (cs ++ ds) kept) (seen : ℕ × Block) (others : List (ℕ × Block)) where
  abbrev pub start : Block
  start = cut_first k.geometry (seen_with k.geometry bs n h is) kept (seen ∷ others)

  pub start_is : IsHeaderOf start (fields k n h f kept x bs own on flat is m y cs ds now le (i ∷ ks) gs split h.ext h.ext_seq) (runs_in (header_block k.geometry bs n))
  unfolding cut_first
  start_is =
      let g = k.geometry in
      let low = low_block k n h f kept x bs own on flat is m y cs ds now le (i ∷ ks) gs split in
      let fits = top k n h f kept x bs own on flat is m y cs ds now le (i ∷ ks) gs split in
      blocks_is low (lowered_fields h (g.cluster * kept)) (runs_in (header_block g bs n)) (g.cluster * kept) (low_is k n h f kept x bs own on flat is m y cs ds now le (i ∷ ks) gs split) (omega arith) (omega arith) (omega arith)

  abbrev pub next : List Block
  next = slice_set bs (header_place k.geometry n) start

  abbrev pub first : Hdr
  first = fields k n h f kept x bs own on flat is m y cs ds now le (i ∷ ks) gs split h.ext h.ext_seq

  start_so : ((headers_at k.geometry next).says n ≡ Some first) × ((headers_at k.geometry next).lists n ≡ runs_in (header_block k.geometry bs n))
  start_so =
      let at : header_block k.geometry next n ≡ start = index-set_here bs (header_place k.geometry n) start (slot_on k.geometry bs own x n on.spelt now.there.number) in
      says_so k.geometry next n first (runs_in (header_block k.geometry bs n)) (subst (λ (z : Block). IsHeaderOf z first (runs_in (header_block k.geometry bs n))) (sym at) start_is)

  set : IsFirstSet (headers_at k.geometry bs) (headers_at k.geometry next) n h first
  set = record {
    files = refl;
    others = λ j ne. slot_stays k.geometry bs n j start ne;
    lists = start_so.1 ∙ sym (says_so k.geometry bs n h (runs_in (header_block k.geometry bs n)) (was k n h f kept x bs own on flat is m y cs ds now le (i ∷ ks) gs split)).1;
    ext = refl;
    ext_seq = refl;
    seg = refl;
  }

  pub last_other : kept_here.m ≢ n
  last_other = lead_apart k.geometry (headers_at k.geometry bs) n h i ks kept_here.m kept_here.x kept_here.cs kept_here.m now.are.says kept_here.lead (lead_behind k.geometry (headers_at k.geometry bs) n h i ks kept_here.m kept_here.x kept_here.cs kept_here.lead)

  pub start_are : AreHeaders k.geometry (headers_at k.geometry next) n first (i ∷ ks) kept_here.m kept_here.x kept_here.cs kept_here.ds
  start_are =
      let g = k.geometry in
      let stays = set.others kept_here.m last_other in
      record {
        says = start_so.0;
        lead = lead_first g (headers_at g bs) (headers_at g next) n h first i ks kept_here.m kept_here.x kept_here.cs set now.are.says kept_here.lead;
        last = last_same g (headers_at g bs) (headers_at g next) kept_here.m kept_here.ds stays.lists kept_here.last;
        few = kept_here.few;
        some = kept_here.some;
        short = kept_here.short;
        blocks = all_blocks k n h f kept x bs own on flat is m y cs ds now le (i ∷ ks) gs split kept_here;
      }

  pub start_has : HasHeaders k.geometry (headers_at k.geometry next) n first (n ∷ i ∷ ks) (take kept (cs ++ ds))
  start_has = record { is = i ∷ ks; m = kept_here.m; x = kept_here.x; cs = kept_here.cs; ds = kept_here.ds; slots = refl; clusters = kept_here.parts; are = start_are }
