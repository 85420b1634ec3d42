-- Slots beside the one that is written, and a directory whose file stays.
use Rattle.std.proofs.Common.{◌≡◌, ◌≤◌, ◌-◌, ◌∙◌, ℕ, Bool, true, false, cond, List, [], Option, Some, None, slice_get, slice_set, refl, sym, ap, arith}
use Rattle.std.specs.Prelude.{◌==◌, Ok}
use Rattle.base_words.specs.Fields.{Block}
use Rattle.fx_header.specs.declared.slot.Hdr.{Hdr}
use Rattle.fx_header.specs.declared.slot.Slot.TheVariants as head
use Rattle.fx_header.specs.Pointers.{lbns_in}
use Rattle.plain_cat.specs.declared.ids.Fid.{Fid}
use Rattle.plain_cat.specs.declared.cat.Cat.{Cat}
use Rattle.plain_cat.specs.declared.cat.File.{File}
use Rattle.plain_cat.specs.declared.cat.Slot.{Slot}
use Rattle.plain_rules.specs.Lookups.{file_in, file_at, of_seq, unmarked, live}
use Rattle.plain_rules.specs.Changes.{with_slot}
use Rattle.vol_spell.specs.Owners.{Owners}
use Rattle.vol_spell.specs.Spread.{blocks_at}
use Rattle.base_words.proofs.ListWrites.{get-set_else}
use Rattle.vol_parts.specs.declared.geometry.Geometry.{Geometry}
use Rattle.vol_parts.specs.Volumes.{Told}
use Rattle.vol_spell.specs.Reading.{head_told, header_block, told_of, body_places}
use Rattle.vol_spell.specs.Spelling.{Spells}
use Rattle.vol_spell.specs.Views.{IsSameFile}
use Rattle.vol_spell.proofs.HeadSlots.{dir_runs}
use Rattle.vol_spell.specs.Entries.{places_in}
use Rattle.op_law.specs.Moving.{SeenDir}
use Rattle.op_law.proofs.Telling.{live_reads}
use Rattle.op_law.proofs.Looks.{plain_directory}
use Rattle.op_law.proofs.Through.{IsListed}
use Rattle.op_steps.specs.EntryWrites.{dir_in}

-- the slot of a live file
pub live_at : (c : Cat) (fid : Fid) (d : File) → live c fid ≡ Some d → file_at c fid.num ≡ Some d
live_at c fid d e = by_file (file_at c fid.num) e where
  by_mark : (f : File) (t : Bool) → cond t None (Some f) ≡ Some d → ◌≡◌ {A = Option File} (Some f) (Some d)
  by_mark f true k = absurd (let h : None ≡ Some d = k in cc)
  by_mark f false k = k

  by_seq : (f : File) (t : Bool) → unmarked (cond t (Some f) None) ≡ Some d → ◌≡◌ {A = Option File} (Some f) (Some d)
  by_seq f true k = by_mark f f.marked k
  by_seq f false k = absurd (let h : None ≡ Some d = k in cc)

  by_file : (o : Option File) → unmarked (of_seq fid.seq o) ≡ Some d → o ≡ Some d
  by_file None k = absurd (let h : None ≡ Some d = k in cc)
  by_file (Some f) k = by_seq f (f.seq == fid.seq) k

-- another slot leaves it
pub other_slot : (c : Cat) (n i : ℕ) (s : Slot) → 1 ≤ n → 1 ≤ i → (n ≡ i → ⊥) → file_at (with_slot c n s) i ≡ file_at c i
other_slot c n i s from low ne = by_zero (i == 0) where
  apart : n - 1 ≡ i - 1 → ⊥
  apart e = ne (omega arith)

  by_zero : (t : Bool) → file_in (cond t None (slice_get (slice_set c.files (n - 1) s) (i - 1))) ≡ file_in (cond t None (slice_get c.files (i - 1)))
  by_zero true = refl
  by_zero false = ap file_in (get-set_else c.files (n - 1) (i - 1) s apart)

-- blocks that leave a directory's file show the same directory
pub same_dir : (g : Geometry) (bs : List Block) (own : Owners) (c : Cat) (s : Spells g bs own c) (fid : Fid) (f : Hdr) (dir : IsListed g bs c fid f) (bs' : List Block) → IsSameFile g bs bs' fid.num → dir_in g bs' fid ≡ dir_in g bs fid
same_dir g bs own c s fid f dir bs' same =
    let h : Block = header_block g bs fid.num in
    let reads : head_told h ≡ Ok (head.Used f) = live_reads fid.seq (head_told h) f dir.header in
    let t : Told = told_of g bs fid.num in
    let places : body_places fid.num t ≡ places_in h =
    ap (λ k. cond k [] (lbns_in t.runs)) (plain_directory g bs own c s fid.num f reads dir.dir) ∙ ap lbns_in (dir_runs g bs own c s fid.num f dir.number reads dir.dir) in
    let body : blocks_at bs' (places_in h) ≡ blocks_at bs (places_in h) =
    ap (blocks_at bs') (sym places) ∙ ap (λ x. blocks_at bs' (body_places fid.num x)) (sym same.told) ∙ same.body ∙ ap (blocks_at bs) places in
    ap (λ b. dir_of b (blocks_at bs' (places_in b))) same.header ∙ ap (dir_of h) body where
      dir_of : Block → List Block → SeenDir
      dir_of b blocks = record { fid = fid; head = b; blocks = blocks }
