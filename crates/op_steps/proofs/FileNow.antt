-- A file that stands on blocks that spell a catalogue, with all of its headers.
use Rattle.std.proofs.Common.{◌≡◌, ◌∙◌, ◌-◌, ◌*◌, ◌/◌, ◌++◌, ℕ, List, ◌∷◌, Some, drop, length, slice_get, refl, sym, ap, subst, inl}
use Rattle.std.specs.Prelude.{◌↔◌}
use Rattle.base_words.specs.Fields.{Block}
use Rattle.base_words.specs.Lists.{Has}
use Rattle.fx_header.specs.declared.slot.Hdr.{Hdr}
use Rattle.plain_cat.specs.declared.cat.Cat.{Cat}
use Rattle.plain_cat.specs.declared.cat.File.{File}
use Rattle.plain_rules.specs.Lookups.{header_most}
use Rattle.vol_parts.specs.declared.geometry.Geometry.{Geometry}
use Rattle.vol_spell.specs.declared.owner.Owner.TheVariants.{InFile}
use Rattle.vol_spell.specs.Files.{IsFileThere}
use Rattle.vol_spell.specs.Owners.{Owners}
use Rattle.vol_spell.specs.Reading.{IsFileNumber, header_block, headers_at, head_told, told_of, clusters_told}
use Rattle.vol_spell.specs.Spelling.{Spells}
use Rattle.op_law.specs.Refusing.{SeenFile, seen_file}
use Rattle.op_law.specs.SeenFiles.{file_clusters}
use Rattle.op_steps.specs.Files.{file_in}
use Rattle.op_steps.proofs.ChainFiles.{heads, chain_counted, chain_slots, slot_says}
use Rattle.op_steps.proofs.LeadMoves.{lead_same, last_same, lead_end}
use Rattle.op_steps.proofs.Leading.{AreHeaders, lead_count}
use Rattle.op_steps.proofs.WholeFiles.{placed, whole_clusters}

-- ---- the file as it stands

-- On blocks that spell a catalogue, file n is there, with its first header h, others in the slots `is`, of which the last is m and says
-- y, and with the clusters cs ++ ds, of which that one lists ds.
pub record IsNow (g : Geometry) (own : Owners) (x : Cat) (n : ℕ) (h : Hdr) (f : File) (bs : List Block) (is : List ℕ) (m : ℕ) (y : Hdr) (cs ds : List ℕ) : Type 0 where
  pub spelt : Spells g bs own x
  pub there : IsFileThere g x bs n h f
  pub slots : (told_of g bs n).slots ≡ n ∷ is
  pub clusters : clusters_told g (told_of g bs n) ≡ cs ++ ds
  pub are : AreHeaders g (headers_at g bs) n h is m y cs ds

-- it has such headers
pub now_has : (g : Geometry) (own : Owners) (x : Cat) (n : ℕ) (h : Hdr) (f : File) (bs : List Block) (s : Spells g bs own x) (there : IsFileThere g x bs n h f)
    → let hs = heads g bs own x n h s there.number there.above there.reads in IsNow g own x n h f bs hs.is hs.m hs.x hs.cs hs.ds
now_has g own x n h f bs s there =
    let hs = heads g bs own x n h s there.number there.above there.reads in
    record { spelt = s; there = there; slots = hs.slots; clusters = hs.clusters; are = hs.are }

-- and keeps them on blocks that tell the same of it, and have its headers
pub now_kept : (g : Geometry) (own : Owners) (x : Cat) (n : ℕ) (h : Hdr) (f : File) (bs new : List Block) (is : List ℕ) (m : ℕ) (y : Hdr) (cs ds : List ℕ) → Spells g new own x → told_of g new n ≡ told_of g bs n
    → ((i : ℕ) → Has (n ∷ is) i → header_block g new i ≡ header_block g bs i) → IsNow g own x n h f bs is m y cs ds → IsNow g own x n h f new is m y cs ds
now_kept g own x n h f bs new is m y cs ds s told same now =
    let first : header_block g new n ≡ header_block g bs n = same n (inl refl) in
    let hs = headers_at g bs in
    let ks = headers_at g new in
    let end = lead_end g hs n h is m y cs now.are.says now.are.lead in
    let last = slot_says g bs new m (same m end.has) in
    record {
      spelt = s;
      there = record { number = now.there.number; above = now.there.above; reads = ap head_told first ∙ now.there.reads; file = now.there.file };
      slots = ap (λ t. t.slots) told ∙ now.slots;
      clusters = ap (clusters_told g) told ∙ now.clusters;
      are = record {
        says = (slot_says g bs new n first).says ∙ now.are.says;
        lead = lead_same g hs ks n h is m y cs refl (λ i t. slot_says g bs new i (same i t)) now.are.lead;
        last = last_same g hs ks m ds last.lists now.are.last;
        few = now.are.few;
        some = now.are.some;
        short = now.are.short;
        blocks = now.are.blocks;
      };
    }

-- its numbers are the file's
pub now_owned : (g : Geometry) (own : Owners) (x : Cat) (n : ℕ) (h : Hdr) (f : File) (bs : List Block) (is : List ℕ) (m : ℕ) (y : Hdr) (cs ds : List ℕ) → IsNow g own x n h f bs is m y cs ds
    → (i : ℕ) → Has (n ∷ is) i ↔ (IsFileNumber g i × (slice_get own.numbers (i - 1) ≡ Some (InFile n)))
now_owned g own x n h f bs is m y cs ds now i =
    subst (λ (ns : List ℕ). Has ns i ↔ (IsFileNumber g i × (slice_get own.numbers (i - 1) ≡ Some (InFile n)))) now.slots (chain_slots g bs own x n h now.spelt now.there.number now.there.above now.there.reads i)

-- ---- as it is seen

-- the file with these other headers
abbrev pub seen_with : Geometry → List Block → ℕ → Hdr → List ℕ → SeenFile
seen_with g bs n h is = record (seen_file g n (header_block g bs n) h) { rest = placed g bs is }

module _ (g : Geometry) (own : Owners) (x : Cat) (n : ℕ) (h : Hdr) (f : File) (bs : List Block) (is : List ℕ) (m : ℕ) (y : Hdr) (cs ds : List ℕ) (now : IsNow g own x n h f bs is m y cs ds) where
  pub seen_now : file_in g bs n h ≡ seen_with g bs n h is
  seen_now = ap (λ ns. seen_with g bs n h (drop 1 ns)) now.slots

  pub clusters_now : file_clusters g (seen_with g bs n h is) ≡ cs ++ ds
  clusters_now = ap (λ (s : SeenFile). file_clusters g s) (sym seen_now) ∙ whole_clusters g bs n h now.there.reads ∙ now.clusters

  -- it has so many clusters
  pub counted_now : h.blocks / g.cluster ≡ length (cs ++ ds)
  counted_now = chain_counted g bs own x n h now.spelt now.there.number now.there.above now.there.reads ∙ ap length now.clusters

  pub front_count : length cs ≡ header_most * length is
  front_count = lead_count g (headers_at g bs) n h is m y cs now.are.lead
