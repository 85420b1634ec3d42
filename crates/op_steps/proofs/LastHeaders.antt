-- Another block in the slot of a file's last header, where it is not the first one: what it lists first is what it listed.
use Rattle.std.proofs.Common.{◌≡◌, ◌≢◌, ◌∙◌, ◌≤◌, ◌-◌, ◌++◌, ℕ, false, List, ◌∷◌, Some, length, slice_get, slice_set, refl, sym, ap, subst, inr, arith}
use Rattle.std.specs.Prelude.{◌↔◌, Ok}
use Rattle.base_words.specs.Fields.{Block}
use Rattle.base_words.specs.Lists.{Has, Once}
use Rattle.fx_header.specs.declared.run.Run.{Run}
use Rattle.fx_header.specs.declared.slot.Hdr.{Hdr}
use Rattle.fx_header.specs.declared.slot.Slot.TheVariants as head
use Rattle.fx_header.specs.Headers.{header_read}
use Rattle.plain_cat.specs.declared.cat.Cat.{Cat}
use Rattle.plain_cat.specs.declared.cat.File.{File}
use Rattle.plain_cat.specs.declared.cat.Slot.TheVariants as slot
use Rattle.plain_rules.specs.Lookups.{file_most}
use Rattle.vol_parts.specs.declared.geometry.Geometry.{Geometry}
use Rattle.vol_parts.specs.Chains.{Headers, as_first}
use Rattle.vol_parts.specs.Catalogues.{file_of}
use Rattle.vol_spell.specs.declared.owner.Owner.TheVariants.{InFile}
use Rattle.vol_spell.specs.Kinds.{IsHeaderFor}
use Rattle.vol_spell.specs.Owners.{Owners, IsFileMove}
use Rattle.vol_spell.specs.Reading.{IsFileNumber, header_place, header_block, headers_at, head_told, told_of}
use Rattle.vol_spell.specs.Spelling.{IsHead}
use Rattle.vol_spell.specs.Spread.{blocks_at, spread}
use Rattle.vol_spell.proofs.Heads.{first_segment, none_told}
use Rattle.vol_spell.proofs.Moving.{moves_compose}
use Rattle.vol_spell.proofs.Placing.{index-set_here}
use Rattle.op_steps.proofs.ChainFiles.{slot_on, slot_kept, slot_stays, chain_once, chain_owned, chain_few, chain_file, chain_number}
use Rattle.op_steps.proofs.GrownFacts.{used_is, later_free, number_in}
use Rattle.op_steps.proofs.FileNow.{IsNow, now_owned}
use Rattle.op_steps.proofs.HeaderBlocks.{IsHeaderOf, says_so}
use Rattle.op_steps.proofs.HeadersFor.{IsChainFor, chain_for}
use Rattle.op_steps.proofs.LeadMoves.{IsSameLink, IsEnd, lead_end, lead_behind, lead_apart, IsLastSet, lead_last}
use Rattle.op_steps.proofs.Leading.{Lead, IsLast, HasHeaders}

module _ (g : Geometry) (own : Owners) (x : Cat) (n : ℕ) (h : Hdr) (f : File) (bs : List Block) (i : ℕ) (is : List ℕ) (m : ℕ) (y : Hdr) (cs ds : List ℕ) (now : IsNow g own x n h f bs (i ∷ is) m y cs ds) (flat : h.dir ≡ false)
    (b : Block) (y2 : Hdr) (rs : List Run) (b_is : IsHeaderOf b y2 rs) (link : IsSameLink y y2) (lists_ds : (hs : Headers) → hs.lists m ≡ rs → IsLast g hs m ds) where
  abbrev hs : Headers
  hs = headers_at g bs

  -- the last header is another than the first
  pub behind : Has (i ∷ is) m
  behind = lead_behind g hs n h i is m y cs now.are.lead

  pub other : m ≢ n
  other = lead_apart g hs n h i is m y cs m now.are.says now.are.lead behind

  owned : IsFileNumber g m × (slice_get own.numbers (m - 1) ≡ Some (InFile n))
  owned = (now_owned g own x n h f bs (i ∷ is) m y cs ds now m).0 (inr behind)

  at_end : IsEnd (headers_at g bs) n h (i ∷ is) m y
  at_end = lead_end g hs n h (i ∷ is) m y cs now.are.says now.are.lead

  reads_m : header_read (header_block g bs m) ≡ Ok (head.Used y)
  reads_m = used_is (header_read (header_block g bs m)) y at_end.says

  pub segment : y.seg ≡ length (i ∷ is)
  segment =
      let at = at_end.segment in
      let zero : h.seg ≡ 0 = first_segment (header_block g bs n) h now.there.reads in
      omega arith

  -- the blocks then
  abbrev pub after : List Block
  after = slice_set bs (header_place g m) b

  here : header_block g after m ≡ b
  here = index-set_here bs (header_place g m) b (slot_on g bs own x m now.spelt owned.0)

  pub last_says : ((headers_at g after).says m ≡ Some y2) × ((headers_at g after).lists m ≡ rs)
  last_says = says_so g after m y2 rs (subst (λ (z : Block). IsHeaderOf z y2 rs) (sym here) b_is)

  pub set : IsLastSet (headers_at g bs) (headers_at g after) m y y2
  set = record { files = refl; others = λ j ne. slot_stays g bs m j b ne; says = last_says.0; link = link }

  pub first_kept : header_block g after n ≡ header_block g bs n
  first_kept = slot_kept g bs m n b (λ e. other (sym e))

  pub says : (headers_at g after).says n ≡ Some h
  says = (set.others n (λ e. other (sym e))).says ∙ now.are.says

  pub lead : Lead g (headers_at g after) n h (i ∷ is) m y2 cs
  lead = lead_last g hs (headers_at g after) n h h (i ∷ is) m y y2 cs set now.are.says says now.are.lead

  pub has : HasHeaders g (headers_at g after) n h (n ∷ i ∷ is) (cs ++ ds)
  has = record {
    is = i ∷ is;
    m = m;
    x = y2;
    cs = cs;
    ds = ds;
    slots = refl;
    clusters = refl;
    are = record { says = says; lead = lead; last = lists_ds (headers_at g after) last_says.1; few = now.are.few; some = now.are.some; short = now.are.short; blocks = now.are.blocks };
  }

  pub reads : head_told (header_block g after n) ≡ Ok (head.Used h)
  reads = ap head_told first_kept ∙ now.there.reads

  -- of the last header's number no file is told
  alike : told_of g after m ≡ told_of g bs m
  alike =
      let up = segment in
      let same = link.seg in
      let before : head_told (header_block g bs m) ≡ Ok (head.Free y.seq) = ap as_first reads_m ∙ later_free y (omega arith) in
      let behind_it : head_told (header_block g after m) ≡ Ok (head.Free y.seq) = ap head_told here ∙ ap as_first b_is.reads ∙ later_free y2 (omega arith) ∙ ap (λ q. Ok (head.Free q)) link.seq in
      none_told g after m y.seq behind_it ∙ sym (none_told g bs m y.seq before)

  -- and the file is the same
  for : (node : ℕ) → IsChainFor g bs own own node n m b h (n ∷ i ∷ is) (cs ++ ds) f
  for node =
      let number = now.there.number in
      let above = now.there.above in
      let read = now.there.reads in
      record {
        whole = b_is.whole;
        head = subst (IsHead m) (sym b_is.reads) (link.num ∙ number_in g bs own x m y now.spelt owned.0 reads_m);
        reads = reads;
        num = chain_number g bs own x n h now.spelt number above read;
        has = has;
        alike = λ ne. alike;
        moves = (moves_compose (IsFileMove node n)).still own;
        once = subst (λ qs. Once qs) now.clusters (chain_once g bs own x n h now.spelt number above read);
        clusters = λ q. subst (λ qs. Has qs q ↔ (slice_get own.clusters q ≡ Some (InFile n))) now.clusters (chain_owned g bs own x n h now.spelt number above read q);
        numbers = now_owned g own x n h f bs (i ∷ is) m y cs ds now;
        few = subst (λ qs. length qs ≤ file_most) now.clusters (chain_few g bs own x n h now.spelt number above read);
        flat = flat;
        file = ap (λ qs. file_of g.cluster n h (blocks_at bs (spread g.cluster qs))) (sym now.clusters) ∙ sym (chain_file g bs own x n h now.spelt number above read f now.there.file);
      }

  pub last_for : (node : ℕ) → IsHeaderFor g bs node n m own own x b (slot.Used f)
  last_for node =
      chain_for g bs own own x node n m b h (n ∷ i ∷ is) (cs ++ ds) f now.spelt now.there.number now.there.above (inr (subst (λ ns. Has ns m) (sym now.slots) (inr behind))) owned.1 (for node)
