-- The first header of a file with another owner, whichever file it is.
use Rattle.std.proofs.Common.{◌≡◌, ◌∙◌, ◌<◌, ◌^◌, ◌-◌, ℕ, List, Some, Ok, Err, is_some, slice_get, slice_set, inl, refl, sym, ap, subst}
use Rattle.std.specs.Prelude.{Result}
use Rattle.base_words.specs.Fields.{Block}
use Rattle.fx_header.specs.declared.slot.Hdr.{Hdr}
use Rattle.fx_header.specs.declared.slot.HeaderFault.{HeaderFault}
use Rattle.fx_header.specs.declared.slot.Slot.{Slot as Head}
use Rattle.fx_header.specs.declared.slot.Slot.TheVariants as head
use Rattle.fx_header.specs.Headers.{with_owner}
use Rattle.fx_header.proofs.SoundLemmas.{reads-sound}
use Rattle.fx_header.proofs.PartLemmas.{owner-runs, owner-reads}
use Rattle.plain_cat.specs.declared.cat.Cat.{Cat}
use Rattle.plain_cat.specs.declared.cat.File.{File}
use Rattle.plain_cat.specs.declared.cat.Slot.TheVariants as slot
use Rattle.plain_rules.specs.Lookups.{clusters_in}
use Rattle.plain_rules.proofs.Standing.{stands_at}
use Rattle.vol_parts.specs.declared.geometry.Geometry.{Geometry}
use Rattle.vol_parts.specs.declared.geometry.Part.TheVariants.{Header}
use Rattle.vol_parts.specs.Catalogues.{slot_with, file_of}
use Rattle.vol_parts.specs.Fatal.{is_system_header}
use Rattle.vol_parts.specs.Volumes.{Told, fields_in}
use Rattle.vol_parts.proofs.WholeHeaders.{whole_owner}
use Rattle.vol_spell.specs.declared.owner.Owner.TheVariants.{InFile}
use Rattle.vol_spell.specs.Kinds.{IsHeaderFor, owned_by, OwnerSpelt}
use Rattle.vol_spell.specs.Owners.{Owners, IsFileMove}
use Rattle.vol_spell.specs.Reading.{IsFileNumber, header_place, header_block, head_told, told_of, body_blocks}
use Rattle.vol_spell.specs.Spelling.{IsHead, size_in, has_one_at_most, dir_found, Tells, Spells}
use Rattle.vol_spell.proofs.HeadFiles.{head_whole, number_is}
use Rattle.vol_spell.proofs.HeadSame.{IsHeadSame, with_head, head_same}
use Rattle.vol_spell.proofs.HeadSlots.{reads_fields}
use Rattle.vol_spell.proofs.Heads.{first_reads, first_segment, reads_first}
use Rattle.vol_spell.proofs.Parts.{part_owned, in_use}
use Rattle.vol_spell.proofs.Frames.{on_volume}
use Rattle.vol_spell.proofs.Keeping.{header_write}
use Rattle.vol_spell.proofs.Moving.{moves_compose}

-- a slot that is told as a file's was told by a header in use
record IsToldBy (k n : ℕ) (r : Result Head HeaderFault) (blocks : List Block) (f : File) : Type 0 where
  fields : Hdr
  reads : r ≡ Ok (head.Used fields)
  file : file_of k n fields blocks ≡ f

told_by : (k n : ℕ) (r : Result Head HeaderFault) (blocks : List Block) (f : File) → slot_with k n r blocks ≡ slot.Used f → IsToldBy k n r blocks f
told_by k n (Ok (head.Used h)) blocks f e = record { fields = h; reads = refl; file = cc }
told_by k n (Ok (head.Free seq)) blocks f e = absurd (cc)
told_by k n (Err fault) blocks f e = absurd (cc)

module _ (g : Geometry) (node n owner : ℕ) (x : Cat) (bs : List Block) (own : Owners) (f : File) (spelt : Spells g bs own x) (is : IsFileNumber g n) (there : slice_get x.files (n - 1) ≡ Some (slot.Used f)) (fits : owner < 2 ^ 32) where
  abbrev b : Block
  b = header_block g bs n

  abbrev body : List Block
  body = body_blocks bs n (told_of g bs n)

  tells : Tells g own n (told_of g bs n) (body_blocks bs n (told_of g bs n)) (slot.Used f)
  tells = spelt.files n (slot.Used f) is there

  by_head : IsToldBy g.cluster n (head_told (header_block g bs n)) (body_blocks bs n (told_of g bs n)) f
  by_head = told_by g.cluster n (head_told b) body f tells.slot

  module _ (h : Hdr) (reads : head_told (header_block g bs n) ≡ Ok (head.Used h)) (file : file_of g.cluster n h (body_blocks bs n (told_of g bs n)) ≡ f) where
    abbrev fields : Hdr
    fields = record h { owner = owner }

    same : IsHeadSame (header_block g bs n) h (with_owner (header_block g bs n) owner) (record h { owner = owner })
    same =
        let read = first_reads b h reads in
        let whole = head_whole g bs own x n h spelt is reads in
        let sound = reads-sound b h read in
        record {
          whole = whole_owner b owner whole;
          reads = reads_first (with_owner b owner) fields (owner-reads b owner whole.long h fits read) (first_segment b h reads);
          num = refl;
          blocks = refl;
          ext = refl;
          ext_seq = refl;
          runs = (owner-runs b owner whole.long sound.offsets sound.map).0;
        }

    -- the same is told of the file, but for its owner
    pub owner_told : told_of g (slice_set bs (header_place g n) (with_owner (header_block g bs n) owner)) n ≡ with_head (told_of g bs n) (record h { owner = owner })
    owner_told =
        let on = on_volume g bs own x spelt (header_place g n) (InFile 1) (part_owned g bs own x spelt (Header n) is) in
        head_same g bs n h (with_owner b owner) fields on reads same

    number : h.num ≡ n
    number = number_is g bs own x n h spelt is reads

    tells_now : Tells g own n (with_head (told_of g bs n) (record h { owner = owner })) (body_blocks bs n (with_head (told_of g bs n) (record h { owner = owner }))) (slot.Used (owned_by f owner))
    tells_now = record {
      reads = number;
      whole = tells.whole;
      once = tells.once;
      runs = tells.runs;
      few = tells.few;
      split = tells.split;
      system = λ low. ap (λ r. has_one_at_most (fields_in r) (told_of g bs n)) (sym reads) ∙ tells.system low;
      slots = tells.slots;
      size = tells.size ∙ ap (λ r. size_in (fields_in r)) reads;
      dir = ap (λ r. dir_found g n (fields_in r) (told_of g bs n) body) (sym reads) ∙ tells.dir;
      slot = ap (λ (y : File). slot.Used (owned_by y owner)) file;
    }

    pub owner_head : IsHeaderFor g bs node n n own own x (with_owner (header_block g bs n) owner) (slot.Used (owned_by f owner))
    owner_head = record {
      whole = same.whole;
      number = is;
      slot = inl refl;
      owned = subst (IsFileMove node n) (sym ((in_use g bs own x spelt n is).0 (ap is_some (reads_fields b h reads)))) refl;
      head = subst (IsHead n) (sym (first_reads (with_owner b owner) fields same.reads)) number;
      alike = λ ne. absurd (ne refl);
      parts = λ e. record {
        header = ap (λ (t : Told). is_system_header n (fields_in t.head)) owner_told ∙ ap (λ r. is_system_header n (fields_in r)) (sym reads);
        runs = ap (λ (t : Told). t.runs) owner_told;
      };
      moves = (moves_compose (IsFileMove node n)).still own;
      tells = subst (λ (z : Told). Tells g own n z (body_blocks bs n z) (slot.Used (owned_by f owner))) (sym owner_told) tells_now;
      reserved = λ old low at. (let both : Some (slot.Used f) ≡ Some old = sym there ∙ at in let one : slot.Used f ≡ old = cc in ap clusters_in one);
    }

  -- a header write of any node
  pub owner_for : IsHeaderFor g bs node n n own own x (with_owner (header_block g bs n) owner) (slot.Used (owned_by f owner))
  owner_for = owner_head by_head.fields by_head.reads by_head.file

pub owner_spelt : OwnerSpelt
owner_spelt g bs own c n owner f s is at fits =
    header_write g bs own own c 1 n n (with_owner (header_block g bs n) owner) (slot.Used (owned_by f owner)) s (owner_for g 1 n owner c bs own f s is (stands_at c n f at) fits)
