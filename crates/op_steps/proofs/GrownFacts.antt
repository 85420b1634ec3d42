-- The blocks of the headers of a file that gets clusters, and how it begins: with a new header, if one is needed.
use Rattle.std.proofs.Common.{◌≡◌, ◌∙◌, ◌<◌, ◌≤◌, ◌+◌, ◌-◌, ◌*◌, ◌/◌, ◌^◌, ◌++◌, ℕ, true, List, [], ◌∷◌, Option, Some, None, take, drop, length, slice_get, slice_set, refl, sym, ap, subst, inl, inr, arith, length-append, length-take, length-drop}
use Rattle.std.specs.Prelude.{Result, Ok, Err, IfSome, is_some}
use Rattle.std.proofs.lemmas.Bool.{ne_eqb}
use Rattle.std.proofs.lemmas.List.{take-append-drop}
use Rattle.base_words.specs.Fields.{Block, IsWholeBlock, field}
use Rattle.base_words.specs.Lists.{Has}
use Rattle.base_words.proofs.Listing.{has_parted, has_first, has_second}
use Rattle.base_words.proofs.Puts.{field-lt}
use Rattle.fx_header.specs.declared.run.Run.{Run}
use Rattle.fx_header.specs.declared.slot.Hdr.{Hdr}
use Rattle.fx_header.specs.declared.slot.HeaderFault.{HeaderFault}
use Rattle.fx_header.specs.declared.slot.Slot.{Slot as Head}
use Rattle.fx_header.specs.declared.slot.Slot.TheVariants as head
use Rattle.fx_header.specs.Headers.{header_read, runs_in}
use Rattle.fx_header.specs.Pointers.{merged}
use Rattle.fx_header.proofs.SoundLemmas.{reads-sound}
use Rattle.fx_header.proofs.SetterLemmas.{tells-of}
use Rattle.plain_cat.specs.declared.cat.Cat.{Cat}
use Rattle.plain_cat.specs.declared.cat.File.{File}
use Rattle.plain_cat.specs.declared.history.Stage.TheVariants as stage
use Rattle.plain_rules.specs.Lookups.{extra, header_most}
use Rattle.vol_parts.specs.declared.geometry.Geometry.{Geometry}
use Rattle.vol_parts.specs.Chains.{as_first}
use Rattle.vol_parts.specs.Parts.{IsGeometry}
use Rattle.vol_parts.specs.Volumes.{fields_in}
use Rattle.vol_spell.specs.declared.owner.Owner.TheVariants.{InFile}
use Rattle.vol_spell.specs.Kinds.{IsSlotFor}
use Rattle.vol_spell.specs.Owners.{Owners}
use Rattle.vol_spell.specs.Reading.{IsFileNumber, total_of, header_place, header_block, headers_at, head_told, told_of}
use Rattle.vol_spell.specs.Spelling.{IsHead, Spells}
use Rattle.vol_spell.specs.Views.{IsSameFile}
use Rattle.vol_spell.proofs.Heads.{first_reads}
use Rattle.vol_under.specs.Chains.{End}
use Rattle.op_law.specs.declared.need.PlanWrite.{PlanWrite}
use Rattle.op_law.specs.Entering.{slot_seq}
use Rattle.op_law.specs.Headers.{tail_of, listing, next_fields, next_header, front_part, behind_part, link_to, grown_last, new_header_writes}
use Rattle.op_law.specs.Refusing.{SeenFile}
use Rattle.op_law.specs.SeenFiles.{file_clusters}
use Rattle.op_law.specs.Writing.{holding, header_write, runs_for}
use Rattle.op_steps.specs.Chained.{Chain, StepsOf, StageOf, StandsOn, after_writes}
use Rattle.op_steps.specs.Files.{file_in}
use Rattle.op_steps.specs.GrownWrites.{number_of, IsNewSlot, with_new}
use Rattle.op_steps.proofs.ChainFiles.{slot_whole, slot_kept}
use Rattle.op_steps.proofs.GrownChain.{IsShared, extra_is, room_is, tail_is}
use Rattle.op_steps.proofs.FileNow.{IsNow, now_kept, now_owned, seen_with, seen_now, clusters_now, counted_now, front_count}
use Rattle.op_steps.proofs.GrownOwners.{given_within, own_within, new_outside, new_apart}
use Rattle.op_steps.proofs.HeaderBlocks.{IsHeaderOf, listing_is, next_is}
use Rattle.op_steps.proofs.LeadMoves.{IsEnd, lead_end}
use Rattle.op_steps.proofs.Sequences.{sequence_low}
use Rattle.op_steps.proofs.SlotSteps.{spare_for, slot_steps, same_here}

-- a slot with these fields is used by them
pub used_is : (r : Result Head HeaderFault) (x : Hdr) → fields_in r ≡ Some x → r ≡ Ok (head.Used x)
used_is (Ok (head.Used y)) x e = let one : y ≡ x = cc e in ap (λ (z : Hdr). Ok (head.Used z)) one
used_is (Ok (head.Free seq)) x e = absurd (cc e)
used_is (Err fault) x e = absurd (cc e)

-- a header that is not a file's first one is told as a free slot
pub later_free : (x : Hdr) → 1 ≤ x.seg → as_first (Ok (head.Used x)) ≡ Ok (head.Free x.seq)
later_free x some = rw (ne_eqb x.seg 0 (λ e. omega arith)) refl

-- a header that is read in a slot is that of its number
pub number_in : (g : Geometry) (bs : List Block) (own : Owners) (c : Cat) (m : ℕ) (y : Hdr) → Spells g bs own c → IsFileNumber g m → header_read (header_block g bs m) ≡ Ok (head.Used y) → y.num ≡ m
number_in g bs own c m y s is e = subst (IsHead m) e (s.slots.heads m is)

module _ (k : Chain) (n : ℕ) (h : Hdr) (f : File) (qs : List ℕ) (new : Option (ℕ × ℕ)) (x : Cat) (bs : List Block) (own : Owners) (on : StandsOn k (holding qs (number_of new)) x bs own) (is : List ℕ) (m : ℕ) (y : Hdr) (cs ds : List ℕ)
    (now : IsNow k.geometry own x n h f bs is m y cs ds) (slot : IfSome new (IsNewSlot k.geometry bs)) where
  abbrev g : Geometry
  g = k.geometry

  geometry : IsGeometry k.geometry
  geometry = on.spelt.counts.geometry

  pub shared : IsShared (length is) (length ds)
  shared = record { few = now.are.few; some = now.are.some }

  pub counted : h.blocks / k.geometry.cluster ≡ length (cs ++ ds)
  counted = counted_now g own x n h f bs is m y cs ds now

  cs_count : length cs ≡ 77 * length is
  cs_count = front_count g own x n h f bs is m y cs ds now

  pub parts_count : h.blocks / k.geometry.cluster ≡ 77 * length is + length ds
  parts_count = let a = counted in let b = cs_count in let c = length-append cs ds in omega arith

  -- the file as it is seen
  abbrev pub seen : SeenFile
  seen = seen_with k.geometry bs n h is

  pub seen_is : file_in k.geometry bs n h ≡ seen
  seen_is = seen_now g own x n h f bs is m y cs ds now

  seen_clusters : file_clusters k.geometry seen ≡ cs ++ ds
  seen_clusters = clusters_now g own x n h f bs is m y cs ds now

  -- ---- what goes where

  back_is : behind_part seen qs ≡ drop (77 - length ds) qs
  back_is = ap (λ z. drop z qs) (room_is (length is) (length ds) (h.blocks / g.cluster) shared parts_count)

  listed_is : tail_of (h.blocks / k.geometry.cluster) (file_clusters k.geometry seen) ++ front_part seen qs ≡ ds ++ take (77 - length ds) qs
  listed_is =
      ap (λ xs. tail_of (h.blocks / g.cluster) xs ++ front_part seen qs) seen_clusters
      ∙ ap (λ xs. xs ++ front_part seen qs) (tail_is (length is) (h.blocks / g.cluster) cs ds shared cs_count counted)
      ∙ ap (λ z. ds ++ take z qs) (room_is (length is) (length ds) (h.blocks / g.cluster) shared parts_count)

  pub within_parts : (q : ℕ) → Has (ds ++ qs) q → q < total_of k.geometry
  within_parts q t = elim (has_parted ds qs q t) [
    | inl u ↦ own_within k n h f qs new x bs own on is m y cs ds now slot q (has_second cs ds q u)
    | inr u ↦ given_within k n h f qs new x bs own on is m y cs ds now slot q u
  ]

  pub within_last : (q : ℕ) → Has (ds ++ take (77 - length ds) qs) q → q < total_of k.geometry
  within_last q t = elim (has_parted ds (take (77 - length ds) qs) q t) [
    | inl u ↦ within_parts q (has_first ds qs q u)
    | inr u ↦ within_parts q (has_second ds qs q (subst (λ xs. Has xs q) (take-append-drop (77 - length ds) qs) (has_first (take (77 - length ds) qs) (drop (77 - length ds) qs) q u)))
  ]

  few_last : length (ds ++ take (77 - length ds) qs) ≤ header_most
  few_last =
      let a = length-append ds (take (77 - length ds) qs) in
      let b = length-take (77 - length ds) qs in
      let few = now.are.few in
      omega arith

  -- ---- the last header

  pub end : IsEnd (headers_at k.geometry bs) n h is m y
  end = lead_end g (headers_at g bs) n h is m y cs now.are.says now.are.lead

  pub end_number : IsFileNumber k.geometry m × (slice_get own.numbers (m - 1) ≡ Some (InFile n))
  end_number = (now_owned g own x n h f bs is m y cs ds now m).0 end.has

  pub end_reads : header_read (header_block k.geometry bs m) ≡ Ok (head.Used y)
  end_reads = used_is (header_read (header_block g bs m)) y end.says

  link_low : ((link_to new).0 < 2 ^ 24) × ((link_to new).1 < 2 ^ 16)
  link_low = by_new new slot where
    by_new : (o : Option (ℕ × ℕ)) → IfSome o (IsNewSlot k.geometry bs) → ((link_to o).0 < 2 ^ 24) × ((link_to o).1 < 2 ^ 16)
    by_new None none = (omega arith, omega arith)
    by_new (Some p) is_new =
        let low = sequence_low (header_block g bs p.0) (slot_whole g bs own x p.0 on.spelt is_new.number).bytes in
        let seq = is_new.seq in
        let to = is_new.number.to in
        let files = on.spelt.counts.geometry.files_to in
        (omega arith, omega arith)

  -- what it says and lists then
  abbrev pub linked : Hdr
  linked = record y { ext = (link_to new).0; ext_seq = (link_to new).1 }

  pub last_is : IsHeaderOf (grown_last k.geometry seen (header_block k.geometry bs m) qs new) linked (merged (runs_for k.geometry (ds ++ take (77 - length ds) qs)))
  last_is =
      let all = ds ++ take (77 - length ds) qs in
      let rs : List Run = runs_in (header_block g bs m) in
      let was : IsHeaderOf (header_block g bs m) y rs = record { whole = slot_whole g bs own x m on.spelt end_number.0; reads = end_reads; runs = refl } in
      subst (λ xs. IsHeaderOf (listing g (header_block g bs m) xs (link_to new)) linked (merged (runs_for g all))) (sym listed_is)
      (listing_is g all geometry within_last few_last (header_block g bs m) y rs (link_to new) was link_low.0 link_low.1)

  -- ---- the new header

  extra_now : extra (h.blocks / k.geometry.cluster) ≡ length is
  extra_now = extra_is (length is) (length ds) (h.blocks / g.cluster) shared parts_count

  owner_low : h.owner < 2 ^ 32
  owner_low =
      let b : Block = header_block g bs n in
      let t = tells-of b h (reads-sound b h (first_reads b h now.there.reads)).fields in
      let lt : field b 60 4 < 256 ^ 4 = field-lt b 60 4 (slot_whole g bs own x n on.spelt now.there.number).bytes in
      omega (arith, t.owner, lt)

  -- its fields
  abbrev pub fields_for_new : ℕ × ℕ → Hdr
  fields_for_new p = next_fields seen.file (extra (h.blocks / k.geometry.cluster) + 1) p

  pub new_segment : (p : ℕ × ℕ) → (fields_for_new p).seg ≡ length is + 1
  new_segment p = ap (λ z. z + 1) extra_now

  -- The new header stands in its slot, where there is one; the file is as it was, and so is each other.
  pub record IsReady (bs1 : List Block) : Type 0 where
    pub now1 : IsNow k.geometry own x n h f bs1 is m y cs ds
    pub same : (i : ℕ) → Has (n ∷ is) i → header_block k.geometry bs1 i ≡ header_block k.geometry bs i
    pub others : (i : ℕ) → IsFileNumber k.geometry i → (Has (with_new [] new) i → ⊥) → IsSameFile k.geometry bs bs1 i
    pub next : IfSome new (λ p. IsHeaderOf (header_block k.geometry bs1 p.0) (fields_for_new p) (merged (runs_for k.geometry (drop (77 - length ds) qs))))

  module _ (few : length qs ≤ header_most) (short : is_some new ≡ true → length is + 1 ≤ 15) where
    -- the block of the new header
    new_is : (p : ℕ × ℕ) → new ≡ Some p → IsNewSlot k.geometry bs p → IsHeaderOf (next_header k.geometry seen p (behind_part seen qs)) (fields_for_new p) (merged (runs_for k.geometry (drop (77 - length ds) qs)))
    new_is p e is_new =
        let low = sequence_low (header_block g bs p.0) (slot_whole g bs own x p.0 on.spelt is_new.number).bytes in
        let seq = is_new.seq in
        let from = is_new.number.from in
        let to = is_new.number.to in
        let files = geometry.files_to in
        let room = short (ap is_some e) in
        let same : (h.blocks / g.cluster - 1) / 77 ≡ length is = extra_now in
        let back = drop (77 - length ds) qs in
        let left = length-drop (77 - length ds) qs in
        let within : (q : ℕ) → Has back q → q < total_of g =
        λ q t. within_parts q (has_second ds qs q (subst (λ xs. Has xs q) (take-append-drop (77 - length ds) qs) (has_second (take (77 - length ds) qs) back q t))) in
        subst (λ xs. IsHeaderOf (next_header g seen p xs) (fields_for_new p) (merged (runs_for g back))) (sym back_is)
        (next_is g seen p back geometry within (omega arith) from (omega arith) (omega arith) owner_low (omega arith))

-- The new header is a step, if there is one, that leaves the catalogue and the files. So are the writes behind it that are steps on
-- what it leaves.
pub new_steps : (end : End) (k : Chain) (n : ℕ) (h : Hdr) (f : File) (qs : List ℕ) (new : Option (ℕ × ℕ)) (x : Cat) (bs : List Block) (own : Owners) (on : StandsOn k (holding qs (number_of new)) x bs own)
    (is : List ℕ) (m : ℕ) (y : Hdr) (cs ds : List ℕ) (now : IsNow k.geometry own x n h f bs is m y cs ds) (slot : IfSome new (IsNewSlot k.geometry bs)) (rest : List PlanWrite) → length qs ≤ header_most → (is_some new ≡ true → length is + 1 ≤ 15)
    → StageOf k stage.Charged x
    → (IsReady k n h f qs new x bs own on is m y cs ds now slot (after_writes (new_header_writes k.geometry (seen k n h f qs new x bs own on is m y cs ds now slot) qs new) bs)
    → StepsOf end k rest (after_writes (new_header_writes k.geometry (seen k n h f qs new x bs own on is m y cs ds now slot) qs new) bs) own)
    → StepsOf end k (new_header_writes k.geometry (seen k n h f qs new x bs own on is m y cs ds now slot) qs new ++ rest) bs own
new_steps end k n h f qs None x bs own on is m y cs ds now slot rest few short charged go = go (record {
  now1 = now;
  same = λ i t. refl;
  others = λ i number none. same_here k.geometry bs i;
  next = tt;
})
new_steps end k n h f qs (Some p) x bs own on is m y cs ds now slot rest few short charged go =
    let g : Geometry = k.geometry in
    let s : SeenFile = seen k n h f qs (Some p) x bs own on is m y cs ds now slot in
    let b : Block = next_header g s p (behind_part s qs) in
    let fields : Hdr = fields_for_new k n h f qs (Some p) x bs own on is m y cs ds now slot p in
    let made = new_is k n h f qs (Some p) x bs own on is m y cs ds now slot few short p refl slot in
    let outside = new_outside k n h f qs (Some p) x bs own on is m y cs ds now slot p refl in
    let apart = new_apart k n h f qs (Some p) x bs own on is m y cs ds now slot p refl in
    let seg = new_segment k n h f qs (Some p) x bs own on is m y cs ds now slot p in
    let told_free : head_told b ≡ Ok (head.Free (slot_seq (header_read (header_block g bs p.0)))) =
    ap as_first made.reads ∙ later_free fields (omega arith) ∙ ap (λ z. Ok (head.Free z)) (sym slot.seq) in
    let for : IsSlotFor g bs p.0 own x b = spare_for g bs own x p.0 k.node b on.spelt slot.number outside made.whole told_free (subst (IsHead p.0) (sym made.reads) refl) in
    slot_steps end k p.0 (header_write g p.0 b stage.Charged (holding qs (Some p.0))) rest x bs own on.spelt refl for on.outs charged
    (λ written.
    let next : List Block = slice_set bs (header_place g p.0) b in
    let same : (i : ℕ) → Has (n ∷ is) i → header_block g next i ≡ header_block g bs i = λ i t. slot_kept g bs p.0 i b (apart i t) in
    let told : told_of g next n ≡ told_of g bs n = (written.set.others n now.there.number (apart n (inl refl))).told in
    go (record {
      now1 = now_kept g own x n h f bs next is m y cs ds written.spelt told same now;
      same = same;
      others = λ i number none. written.set.others i number (λ e. none (inl (sym e)));
      next = record { whole = subst (λ (z : Block). IsWholeBlock z) (sym written.set.header) made.whole; reads = ap header_read written.set.header ∙ made.reads; runs = ap runs_in written.set.header ∙ made.runs };
    }))
