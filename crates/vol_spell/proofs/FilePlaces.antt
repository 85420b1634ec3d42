-- A file that is there and no system file: its blocks, where they stand, and what shows of them.
use Rattle.std.proofs.Common.{◌≡◌, ◌≤◌, ◌-◌, ◌*◌, ◌∙◌, ℕ, false, cond, List, [], length, slice_set, sym, ap}
use Rattle.base_words.specs.Fields.{Block}
use Rattle.fx_header.specs.declared.slot.Hdr.{Hdr}
use Rattle.fx_header.specs.Pointers.{lbns_in}
use Rattle.plain_cat.specs.declared.cat.Cat.{Cat}
use Rattle.plain_cat.specs.declared.cat.File.{File}
use Rattle.vol_parts.specs.declared.geometry.Geometry.{Geometry}
use Rattle.vol_parts.specs.Catalogues.{is_structure, file_of}
use Rattle.vol_spell.specs.Files.{blocks_told, IsFileThere, showing}
use Rattle.vol_spell.specs.Owners.{Owners}
use Rattle.vol_spell.specs.Reading.{header_block, told_of, clusters_told, body_places, body_blocks}
use Rattle.vol_parts.proofs.Runs.{length-lbns_in}
use Rattle.vol_spell.specs.Spelling.{size_in, Spells}
use Rattle.vol_spell.specs.Spread.{blocks_at}
use Rattle.vol_spell.proofs.Parts.{told}
use Rattle.vol_spell.proofs.HeadFiles.{file_is, sized, counted, places_are, not_structure}
use Rattle.vol_spell.proofs.HeadSlots.{reads_fields}
use Rattle.vol_spell.proofs.Shown.{flat_told, flat_shows}

module _ (g : Geometry) (bs : List Block) (own : Owners) (x : Cat) (n : ℕ) (h : Hdr) (f : File) (s : Spells g bs own x) (there : IsFileThere g x bs n h f) where
  pub plain : is_structure n ≡ false
  plain = not_structure n there.above

  -- the places of its blocks are those of its runs
  pub places : body_places n (told_of g bs n) ≡ lbns_in (told_of g bs n).runs
  places = ap (λ t. cond t [] (lbns_in (told_of g bs n).runs)) plain

  pub body : body_blocks bs n (told_of g bs n) ≡ blocks_told g bs n
  body = ap (blocks_at bs) places

  -- the catalogue has it as its header and its blocks tell it
  pub file : f ≡ file_of g.cluster n h (blocks_told g bs n)
  file =
      file_is g bs own x n h s there.number there.reads f there.file
      ∙ ap (λ (ls : List ℕ). file_of g.cluster n h (blocks_at bs ls)) (sym (places_are g bs own x n h s there.number there.reads))

  -- it has as many blocks as its clusters have
  pub size : h.blocks ≡ g.cluster * f.clusters
  size =
      let clusters : f.clusters ≡ length (clusters_told g (told_of g bs n)) = ap (λ (y : File). y.clusters) file ∙ counted g bs own x n h s there.number there.reads in
      sized g bs own x n h s there.number there.reads ∙ ap (λ z. g.cluster * z) (sym clusters)

  pub count : length (lbns_in (told_of g bs n).runs) ≡ g.cluster * f.clusters
  count = length-lbns_in (told_of g bs n).runs ∙ (told g bs own x s n there.number).size ∙ ap size_in (reads_fields (header_block g bs n) h there.reads) ∙ size

  -- a header of a file that is no directory says so
  pub no_dir : f.dir ≡ false → h.dir ≡ false
  no_dir flat = ap (λ (y : File). y.dir) (sym file) ∙ flat

  -- the file that shows where a block is set
  pub shows : (vbn : ℕ) → 1 ≤ vbn → vbn ≤ g.cluster * f.clusters → f.dir ≡ false → (b : Block) → file_of g.cluster n h (slice_set (blocks_told g bs n) (vbn - 1) b) ≡ showing f vbn b
  shows vbn from to flat b =
      let body = blocks_told g bs n in
      let told = flat_told g.cluster n h body plain (no_dir flat) in
      flat_told g.cluster n h (slice_set body (vbn - 1) b) plain (no_dir flat)
      ∙ flat_shows g.cluster h body vbn b from
      ∙ ap (λ (y : File). showing y vbn b) (sym (file ∙ told))
