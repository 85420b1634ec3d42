-- Another block in the slot of a file's first header, with the same runs, the same blocks and the same link.
use Rattle.std.proofs.Common.{◌≡◌, ◌≢◌, ◌∙◌, ◌≤◌, ◌++◌, ℕ, false, List, [], ◌∷◌, Some, length, flat_map, slice_get, slice_set, refl, sym, ap, subst, inl, inr}
use Rattle.std.specs.Prelude.{◌↔◌, Ok}
use Rattle.base_words.specs.Fields.{Block}
use Rattle.base_words.specs.Lists.{Has, Once}
use Rattle.base_words.proofs.Listing.{same_or_not}
use Rattle.fx_header.specs.declared.run.Run.{Run}
use Rattle.fx_header.specs.declared.slot.Hdr.{Hdr}
use Rattle.fx_header.specs.declared.slot.Slot.TheVariants as head
use Rattle.fx_header.specs.Headers.{runs_in}
use Rattle.plain_cat.specs.declared.cat.Cat.{Cat}
use Rattle.plain_cat.specs.declared.cat.File.{File}
use Rattle.plain_cat.specs.declared.cat.Slot.TheVariants as slot
use Rattle.plain_rules.specs.Lookups.{file_most}
use Rattle.vol_parts.specs.declared.geometry.Geometry.{Geometry}
use Rattle.vol_parts.specs.Catalogues.{file_of}
use Rattle.vol_parts.specs.Chains.{cut, chain_of}
use Rattle.vol_parts.specs.Volumes.{Told, told_with, told_by}
use Rattle.vol_spell.specs.declared.owner.Owner.TheVariants.{InFile}
use Rattle.vol_spell.specs.Kinds.{IsHeaderFor}
use Rattle.vol_spell.specs.Owners.{Owners, IsFileMove}
use Rattle.vol_spell.specs.Reading.{header_place, header_block, headers_at, head_told, told_of}
use Rattle.vol_spell.specs.Spelling.{IsHead}
use Rattle.vol_spell.specs.Spread.{blocks_at, spread}
use Rattle.vol_spell.proofs.Heads.{first_reads, first_segment, reads_first}
use Rattle.vol_spell.proofs.Moving.{moves_compose}
use Rattle.vol_spell.proofs.Placing.{index-set_here}
use Rattle.op_steps.specs.MarkWrites.{IsSameChain}
use Rattle.op_steps.proofs.ChainFiles.{slot_on, slot_whole, slot_kept, slot_stays, chain_once, chain_owned, chain_few, chain_number}
use Rattle.op_steps.proofs.FileNow.{IsNow, now_owned}
use Rattle.op_steps.proofs.HeaderBlocks.{IsHeaderOf, says_so}
use Rattle.op_steps.proofs.HeadersFor.{IsChainFor, chain_for, chain_numbers}
use Rattle.op_steps.proofs.LeadMoves.{last_same, lead_apart, lead_behind, IsFirstSet, lead_first}
use Rattle.op_steps.proofs.Leading.{Lead, IsLast, HasHeaders}

-- a header with the same number, blocks, SEG_NUM and link
pub record IsSameFirst (h k : Hdr) : Type 0 where
  pub num : k.num ≡ h.num
  pub blocks : k.blocks ≡ h.blocks
  pub seg : k.seg ≡ h.seg
  pub ext : k.ext ≡ h.ext
  pub ext_seq : k.ext_seq ≡ h.ext_seq
  pub dir : k.dir ≡ h.dir

-- the first header as it stands
pub first_now : (g : Geometry) (own : Owners) (x : Cat) (n : ℕ) (h : Hdr) (f : File) (bs : List Block) (is : List ℕ) (m : ℕ) (y : Hdr) (cs ds : List ℕ) → IsNow g own x n h f bs is m y cs ds → IsHeaderOf (header_block g bs n) h (runs_in (header_block g bs n))
first_now g own x n h f bs is m y cs ds now = record { whole = slot_whole g bs own x n now.spelt now.there.number; reads = first_reads (header_block g bs n) h now.there.reads; runs = refl }

-- the runs of a file, by its slots
runs_are : (g : Geometry) (bs : List Block) (n : ℕ) (h : Hdr) → head_told (header_block g bs n) ≡ Ok (head.Used h) → (told_of g bs n).runs ≡ cut h.blocks (flat_map (headers_at g bs).lists (told_of g bs n).slots)
runs_are g bs n h reads =
    let told : told_of g bs n ≡ told_with (Ok (head.Used h)) (chain_of (headers_at g bs) n h) = ap (told_by (headers_at g bs) n) reads in
    ap (λ (t : Told). t.runs) told ∙ ap (λ (t : Told). cut h.blocks (flat_map (headers_at g bs).lists t.slots)) (sym told)

same_lists : (a b : ℕ → List Run) (ns : List ℕ) → ((i : ℕ) → b i ≡ a i) → flat_map b ns ≡ flat_map a ns
same_lists a b [] same = refl
same_lists a b (n ∷ ns) same = ap (λ rs. rs ++ flat_map b ns) (same n) ∙ ap (λ rs. a n ++ rs) (same_lists a b ns same)

module _ (g : Geometry) (own : Owners) (x : Cat) (n : ℕ) (h : Hdr) (f : File) (bs : List Block) (b : Block) (h2 : Hdr) (b_is : IsHeaderOf b h2 (runs_in (header_block g bs n))) (same : IsSameFirst h h2) where
  abbrev after : List Block
  after = slice_set bs (header_place g n) b

  -- all headers then
  first_has : (is : List ℕ) (m : ℕ) (y : Hdr) (cs ds : List ℕ) → IsNow g own x n h f bs is m y cs ds → HasHeaders g (headers_at g after) n h2 (n ∷ is) (cs ++ ds)
  first_has is m y cs ds now = by_slots is now.are.lead now where
    here : header_block g after n ≡ b
    here = index-set_here bs (header_place g n) b (slot_on g bs own x n now.spelt now.there.number)

    so : ((headers_at g after).says n ≡ Some h2) × ((headers_at g after).lists n ≡ runs_in (header_block g bs n))
    so = says_so g after n h2 (runs_in (header_block g bs n)) (subst (λ (z : Block). IsHeaderOf z h2 (runs_in (header_block g bs n))) (sym here) b_is)

    lists : (headers_at g after).lists n ≡ (headers_at g bs).lists n
    lists = so.1 ∙ sym (says_so g bs n h (runs_in (header_block g bs n)) (first_now g own x n h f bs is m y cs ds now)).1

    set : IsFirstSet (headers_at g bs) (headers_at g after) n h h2
    set = record { files = refl; others = λ j ne. slot_stays g bs n j b ne; lists = lists; ext = same.ext; ext_seq = same.ext_seq; seg = same.seg }

    by_slots : (is' : List ℕ) → Lead g (headers_at g bs) n h is' m y cs → IsNow g own x n h f bs is' m y cs ds → HasHeaders g (headers_at g after) n h2 (n ∷ is') (cs ++ ds)
    by_slots [] lead now' = record {
      is = [];
      m = n;
      x = h2;
      cs = cs;
      ds = ds;
      slots = refl;
      clusters = refl;
      are = record {
        says = so.0;
        lead = (refl, refl, lead.2);
        last = last_same g (headers_at g bs) (headers_at g after) n ds lists (subst (λ j. IsLast g (headers_at g bs) j ds) (sym lead.0) now'.are.last);
        few = now'.are.few;
        some = now'.are.some;
        short = now'.are.short;
        blocks = same.blocks ∙ now'.are.blocks;
      };
    }
    by_slots (i ∷ is') lead now' =
        let behind : Has (i ∷ is') m = lead_behind g (headers_at g bs) n h i is' m y cs lead in
        let other : m ≢ n = lead_apart g (headers_at g bs) n h i is' m y cs m now'.are.says lead behind in
        record {
          is = i ∷ is';
          m = m;
          x = y;
          cs = cs;
          ds = ds;
          slots = refl;
          clusters = refl;
          are = record {
            says = so.0;
            lead = lead_first g (headers_at g bs) (headers_at g after) n h h2 i is' m y cs set now'.are.says lead;
            last = last_same g (headers_at g bs) (headers_at g after) m ds (set.others m other).lists now'.are.last;
            few = now'.are.few;
            some = now'.are.some;
            short = now'.are.short;
            blocks = same.blocks ∙ now'.are.blocks;
          };
        }

  -- so the file has the same slots and runs
  pub first_same : (is : List ℕ) (m : ℕ) (y : Hdr) (cs ds : List ℕ) → IsNow g own x n h f bs is m y cs ds → IsSameChain g n bs after
  first_same is m y cs ds now =
      let low = now.spelt.counts.geometry.cluster_from in
      let here : header_block g after n ≡ b = index-set_here bs (header_place g n) b (slot_on g bs own x n now.spelt now.there.number) in
      let zero : h2.seg ≡ 0 = same.seg ∙ first_segment (header_block g bs n) h now.there.reads in
      let reads : head_told (header_block g after n) ≡ Ok (head.Used h2) = ap head_told here ∙ reads_first b h2 b_is.reads zero in
      let has = first_has is m y cs ds now in
      let slots : (told_of g after n).slots ≡ (told_of g bs n).slots = chain_numbers g after n h2 (n ∷ is) (cs ++ ds) low reads has ∙ sym now.slots in
      let first : (headers_at g after).lists n ≡ (headers_at g bs).lists n =
      (says_so g after n h2 (runs_in (header_block g bs n)) (subst (λ (z : Block). IsHeaderOf z h2 (runs_in (header_block g bs n))) (sym here) b_is)).1
      ∙ sym (says_so g bs n h (runs_in (header_block g bs n)) (first_now g own x n h f bs is m y cs ds now)).1 in
      let lists : (i : ℕ) → (headers_at g after).lists i ≡ (headers_at g bs).lists i =
      λ i. elim (same_or_not i n) [ inl e ↦ ap (headers_at g after).lists e ∙ first ∙ ap (headers_at g bs).lists (sym e) | inr ne ↦ (slot_stays g bs n i b ne).lists ] in
      record {
        slots = slots;
        runs = runs_are g after n h2 reads ∙ ap (λ ns. cut h2.blocks (flat_map (headers_at g after).lists ns)) slots ∙ ap (λ z. cut z (flat_map (headers_at g after).lists (told_of g bs n).slots)) same.blocks
            ∙ ap (cut h.blocks) (same_lists (headers_at g bs).lists (headers_at g after).lists (told_of g bs n).slots lists) ∙ sym (runs_are g bs n h now.there.reads);
        others = λ i ne. slot_kept g bs n i b ne;
      }

  -- the file is told as another one then, with the same clusters
  pub first_for : (node : ℕ) (is : List ℕ) (m : ℕ) (y : Hdr) (cs ds : List ℕ) → IsNow g own x n h f bs is m y cs ds → h.dir ≡ false → (f2 : File) → file_of g.cluster n h2 (blocks_at bs (spread g.cluster (cs ++ ds))) ≡ f2
      → IsHeaderFor g bs node n n own own x b (slot.Used f2)
  first_for node is m y cs ds now flat f2 told =
      let number = now.there.number in
      let above = now.there.above in
      let read = now.there.reads in
      let num : h2.num ≡ n = same.num ∙ chain_number g bs own x n h now.spelt number above read in
      let here : header_block g after n ≡ b = index-set_here bs (header_place g n) b (slot_on g bs own x n now.spelt number) in
      let zero : h2.seg ≡ 0 = same.seg ∙ first_segment (header_block g bs n) h read in
      let for : IsChainFor g bs own own node n n b h2 (n ∷ is) (cs ++ ds) f2 = record {
        whole = b_is.whole;
        head = subst (IsHead n) (sym b_is.reads) num;
        reads = ap head_told here ∙ reads_first b h2 b_is.reads zero;
        num = num;
        has = first_has is m y cs ds now;
        alike = λ ne. absurd (ne refl);
        moves = (moves_compose (IsFileMove node n)).still own;
        once = subst (λ qs. Once qs) now.clusters (chain_once g bs own x n h now.spelt number above read);
        clusters = λ q. subst (λ qs. Has qs q ↔ (slice_get own.clusters q ≡ Some (InFile n))) now.clusters (chain_owned g bs own x n h now.spelt number above read q);
        numbers = now_owned g own x n h f bs is m y cs ds now;
        few = subst (λ qs. length qs ≤ file_most) now.clusters (chain_few g bs own x n h now.spelt number above read);
        flat = same.dir ∙ flat;
        file = told;
      } in
      chain_for g bs own own x node n n b h2 (n ∷ is) (cs ++ ds) f2 now.spelt number above (inl refl) ((now_owned g own x n h f bs is m y cs ds now n).0 (inl refl)).1 for
