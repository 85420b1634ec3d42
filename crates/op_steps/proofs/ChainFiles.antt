-- A file that is there and no system file, by all of its headers: its slots, its clusters, its blocks.
use Rattle.std.proofs.Common.{◌≡◌, ◌≢◌, ◌∙◌, ◌<◌, ◌≤◌, ◌+◌, ◌-◌, ◌*◌, ◌/◌, ℕ, true, false, cond, List, [], Some, None, length, slice_get, slice_set, get_or, get_or-set_other, sym, ap, subst, arith}
use Rattle.std.specs.Prelude.{◌↔◌, ◌==◌, Ok}
use Rattle.std.proofs.Math.Nat.{mul-div_cancel_left}
use Rattle.std.proofs.lemmas.Bool.Decides.{nat_tests}
use Rattle.std.proofs.lemmas.Option.{slice_get-get_or, slice_get_within}
use Rattle.base_words.specs.Fields.{Block, IsWholeBlock}
use Rattle.base_words.specs.Lists.{Has, Once}
use Rattle.fx_header.specs.declared.slot.Hdr.{Hdr}
use Rattle.fx_header.specs.declared.slot.Slot.TheVariants.{Used}
use Rattle.fx_header.specs.Headers.{header_read}
use Rattle.fx_header.specs.Pointers.{blocks_in, lbns_in}
use Rattle.fx_header.proofs.SoundLemmas.{reads-sound}
use Rattle.fx_header.proofs.SetterLemmas.{ends-told}
use Rattle.plain_cat.specs.declared.cat.Cat.{Cat}
use Rattle.plain_cat.specs.declared.cat.File.{File}
use Rattle.plain_cat.specs.declared.cat.Slot.{Slot}
use Rattle.plain_cat.specs.declared.cat.Slot.TheVariants as slot
use Rattle.plain_rules.specs.Lookups.{file_in, file_at, file_most}
use Rattle.vol_spell.specs.declared.owner.Owner.TheVariants.{InFile}
use Rattle.vol_spell.specs.Owners.{Owners}
use Rattle.vol_spell.specs.Spread.{blocks_at, spread}
use Rattle.vol_parts.specs.declared.geometry.Geometry.{Geometry}
use Rattle.vol_parts.specs.declared.geometry.Part.TheVariants.{Header}
use Rattle.vol_parts.specs.Chains.{chain_of, is_well_split}
use Rattle.vol_parts.specs.ChainLaws.{IsSameSlot}
use Rattle.vol_parts.specs.Catalogues.{file_of, slot_with}
use Rattle.vol_parts.specs.Volumes.{fields_in, runs_with, Told, told_with, told_by}
use Rattle.vol_spell.specs.Reading.{IsFileNumber, total_of, header_place, header_block, headers_at, head_told, told_of, chain_told, clusters_told, body_blocks}
use Rattle.vol_spell.specs.Spelling.{IsHead, AreWhole, size_in, Tells, Spells}
use Rattle.vol_spell.proofs.Heads.{first_reads, first_segment}
use Rattle.vol_spell.proofs.Parts.{told, slot_there, part_owned, low}
use Rattle.vol_spell.proofs.Placing.{spread_places, length-blocks_at}
use Rattle.vol_spell.proofs.Frames.{on_volume}
use Rattle.vol_spell.proofs.Runs.{lbns_spread}
use Rattle.vol_spell.proofs.HeadFiles.{not_structure}
use Rattle.op_steps.proofs.CutClusters.{whole_size}
use Rattle.op_steps.proofs.Leading.{HasHeaders}
use Rattle.op_steps.proofs.LeadBack.{has_headers}

-- ---- header slots of which one is written

-- where a header slot is on the volume
pub slot_on : (g : Geometry) (bs : List Block) (own : Owners) (c : Cat) (m : ℕ) → Spells g bs own c → IsFileNumber g m → header_place g m < length bs
slot_on g bs own c m s is = on_volume g bs own c s (header_place g m) (InFile 1) (part_owned g bs own c s (Header m) is)

pub slot_whole : (g : Geometry) (bs : List Block) (own : Owners) (c : Cat) (m : ℕ) → Spells g bs own c → IsFileNumber g m → IsWholeBlock (header_block g bs m)
slot_whole g bs own c m s is = s.whole (header_place g m) (header_block g bs m) (slice_get-get_or bs (header_place g m) [] (slot_on g bs own c m s is))

-- another slot keeps its block
pub slot_kept : (g : Geometry) (bs : List Block) (m i : ℕ) (b : Block) → i ≢ m → header_block g (slice_set bs (header_place g m) b) i ≡ header_block g bs i
slot_kept g bs m i b other = get_or-set_other bs (header_place g m) (header_place g i) b [] (λ e. other (omega (arith, e)))

pub slot_says : (g : Geometry) (bs new : List Block) (i : ℕ) → header_block g new i ≡ header_block g bs i → IsSameSlot (headers_at g bs) (headers_at g new) i
slot_says g bs new i e = record { says = ap (λ (b : Block). fields_in (header_read b)) e; lists = ap (λ (b : Block). runs_with (fields_in (header_read b)) b) e }

pub slot_stays : (g : Geometry) (bs : List Block) (m i : ℕ) (b : Block) → i ≢ m → IsSameSlot (headers_at g bs) (headers_at g (slice_set bs (header_place g m) b)) i
slot_stays g bs m i b other = slot_says g bs (slice_set bs (header_place g m) b) i (slot_kept g bs m i b other)

-- ---- a file

module _ (g : Geometry) (bs : List Block) (own : Owners) (x : Cat) (n : ℕ) (h : Hdr) (spelt : Spells g bs own x) (is : IsFileNumber g n) (above : 11 < n) (reads : head_told (header_block g bs n) ≡ Ok (Used h)) where
  abbrev t : Told
  t = told_of g bs n

  tells : Tells g own n (told_of g bs n) (body_blocks bs n (told_of g bs n)) (get_or x.files (n - 1) (slot.Free 0))
  tells = told g bs own x spelt n is

  told_chain : told_of g bs n ≡ told_with (Ok (Used h)) (chain_of (headers_at g bs) n h)
  told_chain = ap (told_by (headers_at g bs) n) reads

  says : (headers_at g bs).says n ≡ Some h
  says = ap fields_in (first_reads (header_block g bs n) h reads)

  pub size : blocks_in (told_of g bs n).runs ≡ h.blocks
  size = tells.size ∙ ap (λ r. size_in (fields_in r)) reads

  -- its headers
  pub heads : HasHeaders g (headers_at g bs) n h (told_of g bs n).slots (clusters_told g (told_of g bs n))
  heads =
      subst (λ (u : Told). HasHeaders g (headers_at g bs) n h u.slots (clusters_told g u)) (sym told_chain)
      (has_headers g (headers_at g bs) n h (low g bs own x spelt) says
      (subst (λ (u : Told). AreWhole g u.runs) told_chain tells.whole)
      (subst (λ (u : Told). blocks_in u.runs ≡ h.blocks) told_chain size)
      (subst (λ (u : Told). is_well_split g.cluster (chain_told u) ≡ true) told_chain (tells.split above)))

  -- its clusters
  pub chain_once : Once (clusters_told g (told_of g bs n))
  chain_once = tells.once

  pub chain_owned : (q : ℕ) → Has (clusters_told g (told_of g bs n)) q ↔ (slice_get own.clusters q ≡ Some (InFile n))
  chain_owned q = tells.runs q

  pub chain_within : (q : ℕ) → Has (clusters_told g (told_of g bs n)) q → q < total_of g
  chain_within q u =
      let a = slice_get_within own.clusters q (InFile n) ((chain_owned q).0 u) in
      let c = spelt.counts.clusters in
      omega arith

  pub chain_few : length (clusters_told g (told_of g bs n)) ≤ file_most
  chain_few = tells.few above

  -- its numbers
  pub chain_slots : (m : ℕ) → Has (told_of g bs n).slots m ↔ (IsFileNumber g m × (slice_get own.numbers (m - 1) ≡ Some (InFile n)))
  chain_slots m = tells.slots m

  -- its blocks
  pub chain_sized : h.blocks ≡ g.cluster * length (clusters_told g (told_of g bs n))
  chain_sized = sym size ∙ whole_size g (told_of g bs n).runs (low g bs own x spelt) tells.whole

  pub chain_counted : h.blocks / g.cluster ≡ length (clusters_told g (told_of g bs n))
  chain_counted = ap (λ z. z / g.cluster) chain_sized ∙ mul-div_cancel_left (length (clusters_told g (told_of g bs n))) (low g bs own x spelt)

  pub chain_places : lbns_in (told_of g bs n).runs ≡ spread g.cluster (clusters_told g (told_of g bs n))
  chain_places = lbns_spread g (told_of g bs n).runs (low g bs own x spelt) tells.whole

  pub chain_body : body_blocks bs n (told_of g bs n) ≡ blocks_at bs (spread g.cluster (clusters_told g (told_of g bs n)))
  chain_body = ap (λ t. blocks_at bs (cond t [] (lbns_in (told_of g bs n).runs))) (not_structure n above) ∙ ap (blocks_at bs) chain_places

  pub chain_shown : length (blocks_at bs (spread g.cluster (clusters_told g (told_of g bs n)))) ≡ g.cluster * length (clusters_told g (told_of g bs n))
  chain_shown =
      let f : length (clusters_told g (told_of g bs n)) * g.cluster ≡ g.cluster * length (clusters_told g (told_of g bs n)) = omega arith in
      length-blocks_at bs (spread g.cluster (clusters_told g (told_of g bs n))) ∙ spread_places.count g.cluster (clusters_told g (told_of g bs n)) ∙ f

  -- the catalogue's file
  pub chain_file : (f : File) → file_at x n ≡ Some f → f ≡ file_of g.cluster n h (blocks_at bs (spread g.cluster (clusters_told g (told_of g bs n))))
  chain_file f at =
      let body = body_blocks bs n (told_of g bs n) in
      let told_slot : slot.Used (file_of g.cluster n h body) ≡ get_or x.files (n - 1) (slot.Free 0) = ap (λ r. slot_with g.cluster n r body) (sym reads) ∙ tells.slot in
      let zero : (n == 0) ≡ false = grind (arith, nat_tests) in
      let there : file_at x n ≡ Some (file_of g.cluster n h body) = ap (λ z. file_in (cond z None (slice_get x.files (n - 1)))) zero ∙ ap file_in (slot_there g bs own x spelt n is ∙ ap (λ (s : Slot). Some s) (sym told_slot)) in
      one_file f (file_of g.cluster n h body) (sym at ∙ there) ∙ ap (file_of g.cluster n h) chain_body
    where
      one_file : (a b : File) → Some a ≡ Some b → a ≡ b
      one_file a b e = cc e

  pub chain_number : h.num ≡ n
  chain_number = subst (IsHead n) (first_reads (header_block g bs n) h reads) (spelt.slots.heads n is)

  -- its end and its mark are at most one block behind its blocks
  pub chain_ends : (h.end ≤ h.blocks + 1) × (h.mark ≤ h.blocks + 1)
  chain_ends = (ends-told (header_block g bs n) h (reads-sound (header_block g bs n) h (first_reads (header_block g bs n) h reads))).0 (first_segment (header_block g bs n) h reads)

  pub chain_byte : h.byte ≤ 511
  chain_byte = (ends-told (header_block g bs n) h (reads-sound (header_block g bs n) h (first_reads (header_block g bs n) h reads))).1 (first_segment (header_block g bs n) h reads)
