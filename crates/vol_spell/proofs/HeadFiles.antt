-- A file that is there, by its header: its clusters, its blocks, and what the catalogue has of it.
use Rattle.std.proofs.Common.{false, ◌≡◌, ◌∙◌, ◌≤◌, ◌<◌, ◌+◌, ◌*◌, ◌/◌, ℕ, List, [], Some, length, slice_get, sym, ap, subst, arith, None, cond}
use Rattle.vol_parts.specs.Volumes.{fields_in}
use Rattle.std.proofs.lemmas.Bool.Decides.{nat_tests}
use Rattle.std.specs.Prelude.{◌↔◌, Ok}
use Rattle.std.proofs.Math.Nat.{mul-div_cancel}
use Rattle.std.proofs.lemmas.Option.{slice_get-get_or, slice_get_within}
use Rattle.base_words.specs.Fields.{Block, IsWholeBlock}
use Rattle.fx_header.specs.declared.slot.Hdr.{Hdr}
use Rattle.fx_header.specs.declared.slot.Slot.TheVariants.{Used}
use Rattle.fx_header.specs.Pointers.{blocks_in, lbns_in}
use Rattle.fx_header.proofs.SoundLemmas.{reads-sound}
use Rattle.fx_header.proofs.SetterLemmas.{ends-told}
use Rattle.plain_cat.specs.declared.cat.Cat.{Cat}
use Rattle.plain_cat.specs.declared.cat.File.{File}
use Rattle.plain_rules.specs.Lookups.{file_at, file_most}
use Rattle.vol_spell.specs.declared.owner.Owner.TheVariants.{InFile}
use Rattle.base_words.specs.Lists.{Has, Once}
use Rattle.vol_spell.specs.Owners.{Owners}
use Rattle.vol_spell.specs.Spread.{blocks_at, spread}
use Rattle.vol_spell.proofs.Placing.{spread_places, length-blocks_at}
use Rattle.vol_parts.specs.declared.geometry.Geometry.{Geometry}
use Rattle.vol_parts.specs.declared.geometry.Part.TheVariants.{Header}
use Rattle.vol_parts.specs.Catalogues.{file_of, is_structure}
use Rattle.vol_spell.specs.Reading.{IsFileNumber, total_of, header_place, header_block, head_told, clusters_told, body_blocks, told_of}
use Rattle.vol_spell.specs.Spelling.{IsHead, size_in, Spells, dir_found}
use Rattle.vol_spell.proofs.Heads.{first_reads, first_segment}
use Rattle.vol_spell.proofs.Parts.{told, part_owned, low}
use Rattle.vol_spell.proofs.Frames.{on_volume}
use Rattle.vol_spell.proofs.Runs.{lbns_spread, size_of_runs}
use Rattle.vol_spell.specs.Files.{blocks_told}
use Rattle.vol_spell.proofs.HeadSlots.{reads_fields, file_told_at}

module _ (g : Geometry) (bs : List Block) (own : Owners) (x : Cat) (n : ℕ) (h : Hdr) (spelt : Spells g bs own x) (is : IsFileNumber g n) (reads : head_told (header_block g bs n) ≡ Ok (Used h)) where
  abbrev b : Block
  b = header_block g bs n

  -- its clusters, in order
  abbrev pub cs : List ℕ
  cs = clusters_told g (told_of g bs n)

  -- its blocks, in order
  abbrev pub shown : List Block
  shown = blocks_at bs (spread g.cluster (clusters_told g (told_of g bs n)))

  pub head_whole : IsWholeBlock (header_block g bs n)
  head_whole =
      let len = on_volume g bs own x spelt (header_place g n) (InFile 1) (part_owned g bs own x spelt (Header n) is) in
      spelt.whole (header_place g n) b (slice_get-get_or bs (header_place g n) [] len)

  pub once : Once (clusters_told g (told_of g bs n))
  once = (told g bs own x spelt n is).once

  pub owned : (q : ℕ) → Has (clusters_told g (told_of g bs n)) q ↔ (slice_get own.clusters q ≡ Some (InFile n))
  owned q = (told g bs own x spelt n is).runs q

  pub within : (q : ℕ) → Has (clusters_told g (told_of g bs n)) q → q < total_of g
  within q t =
      let a = slice_get_within own.clusters q (InFile n) ((owned q).0 t) in
      let c = spelt.counts.clusters in
      omega arith

  pub number_is : h.num ≡ n
  number_is = subst (IsHead n) (first_reads b h reads) (spelt.slots.heads n is)

  pub places_are : lbns_in (told_of g bs n).runs ≡ spread g.cluster (clusters_told g (told_of g bs n))
  places_are = lbns_spread g (told_of g bs n).runs (low g bs own x spelt) (told g bs own x spelt n is).whole

  -- it has the blocks of its clusters
  pub sized : h.blocks ≡ g.cluster * length (clusters_told g (told_of g bs n))
  sized =
      let t = told g bs own x spelt n is in
      let all : length cs * g.cluster ≡ blocks_in (told_of g bs n).runs = size_of_runs g (told_of g bs n).runs (low g bs own x spelt) t.whole in
      let said : blocks_in (told_of g bs n).runs ≡ h.blocks = t.size ∙ ap size_in (reads_fields b h reads) in
      let f : length cs * g.cluster ≡ g.cluster * length cs = omega arith in
      sym said ∙ sym all ∙ f

  pub counted : h.blocks / g.cluster ≡ length (clusters_told g (told_of g bs n))
  counted =
      let f : g.cluster * length cs ≡ length cs * g.cluster = omega arith in
      ap (λ z. z / g.cluster) (sized ∙ f) ∙ mul-div_cancel (length cs) (low g bs own x spelt)

  pub length-shown : length (blocks_at bs (spread g.cluster (clusters_told g (told_of g bs n)))) ≡ g.cluster * length (clusters_told g (told_of g bs n))
  length-shown =
      let f : length cs * g.cluster ≡ g.cluster * length cs = omega arith in
      length-blocks_at bs (spread g.cluster cs) ∙ spread_places.count g.cluster cs ∙ f

  -- the catalogue's file
  pub file_is : (f : File) → file_at x n ≡ Some f → f ≡ file_of g.cluster n h (blocks_at bs (spread g.cluster (clusters_told g (told_of g bs n))))
  file_is f at =
      let a : file_at x n ≡ Some (file_of g.cluster n h (blocks_told g bs n)) = file_told_at g bs own x spelt n h is reads in
      (let both : Some f ≡ Some (file_of g.cluster n h (blocks_told g bs n)) = sym at ∙ a in let same : f ≡ file_of g.cluster n h (blocks_told g bs n) = cc in same)
      ∙ ap (λ (ls : List ℕ). file_of g.cluster n h (blocks_at bs ls)) places_are

  -- its end and its mark are at most one block behind its blocks
  pub end_within : h.end ≤ h.blocks + 1
  end_within = ((ends-told b h (reads-sound b h (first_reads b h reads))).0 (first_segment b h reads)).0

  pub byte_within : h.byte ≤ 511
  byte_within = (ends-told b h (reads-sound b h (first_reads b h reads))).1 (first_segment b h reads)

  pub mark_within : h.mark ≤ h.blocks + 1
  mark_within = ((ends-told b h (reads-sound b h (first_reads b h reads))).0 (first_segment b h reads)).1

  -- above the system files it has no more clusters than a file may have
  pub few : 11 < n → length (clusters_told g (told_of g bs n)) ≤ file_most
  few above = (told g bs own x spelt n is).few above

  -- its blocks as they are told
  pub body_shown : is_structure n ≡ false → body_blocks bs n (told_of g bs n) ≡ blocks_at bs (spread g.cluster (clusters_told g (told_of g bs n)))
  body_shown plain = ap (λ t. blocks_at bs (cond t [] (lbns_in (told_of g bs n).runs))) plain ∙ ap (blocks_at bs) places_are

  -- a directory can be read
  pub dir_read : is_structure n ≡ false → dir_found g n (Some h) (told_of g bs n) (blocks_at bs (spread g.cluster (clusters_told g (told_of g bs n)))) ≡ None
  dir_read plain =
      ap (dir_found g n (Some h) (told_of g bs n)) (sym (body_shown plain))
      ∙ ap (λ r. dir_found g n (fields_in r) (told_of g bs n) (body_blocks bs n (told_of g bs n))) (sym reads)
      ∙ (told g bs own x spelt n is).dir

-- a number above those of the system files
pub not_structure : (n : ℕ) → 11 < n → is_structure n ≡ false
not_structure n above = grind (arith, nat_tests)
