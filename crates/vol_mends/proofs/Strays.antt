-- A header slot that is no file's becomes free.
use Rattle.std.proofs.Common.{◌≡◌, ◌≢◌, ◌∙◌, ◌<◌, ◌-◌, ℕ, Bool, true, false, List, [], Some, Ok, Result, length, slice_get, slice_set, get_or-set_other, refl, sym, ap, subst, arith, ◌⊎◌, inl, inr}
use Rattle.std.specs.Prelude.{◌==◌, is_some}
use Rattle.base_words.specs.Fields.{Block}
use Rattle.base_words.proofs.Listing.{same_or_not}
use Rattle.fx_header.specs.declared.slot.Hdr.{Hdr}
use Rattle.fx_header.specs.declared.slot.Slot.{Slot as Head}
use Rattle.fx_header.specs.declared.slot.Slot.TheVariants as head
use Rattle.fx_header.specs.declared.slot.HeaderFault.{HeaderFault}
use Rattle.fx_header.specs.Headers.{header_read}
use Rattle.plain_cat.specs.declared.cat.Cat.{Cat}
use Rattle.plain_cat.specs.declared.cat.Slot.{Slot}
use Rattle.plain_cat.specs.declared.cat.Slot.TheVariants as slot
use Rattle.vol_spell.specs.declared.owner.Owner.TheVariants.{InFile}
use Rattle.vol_parts.specs.declared.geometry.Geometry.{Geometry}
use Rattle.vol_parts.specs.declared.geometry.Part.TheVariants.{Header}
use Rattle.vol_parts.specs.Chains.{as_first}
use Rattle.vol_parts.specs.Volumes.{Told, fields_in}
use Rattle.vol_parts.specs.Catalogues.{slot_with}
use Rattle.vol_parts.specs.Warnings.{is_double_dir}
use Rattle.vol_spell.specs.Reading.{IsFileNumber, header_place, header_block, head_told, told_of, body_blocks}
use Rattle.vol_spell.specs.Spelling.{IsHead, Spells}
use Rattle.vol_spell.specs.Views.{IsSlotSet}
use Rattle.vol_spell.specs.Kinds.{IsSlotFor}
use Rattle.vol_spell.proofs.Heads.{first_there}
use Rattle.vol_spell.proofs.Parts.{slot_there, told, part_owned}
use Rattle.vol_spell.proofs.Frames.{on_volume}
use Rattle.vol_spell.proofs.Viewing.{none_set, slot_set}
use Rattle.vol_spell.proofs.Keeping.{slot_write}
use Rattle.vol_mends.specs.Told.{IsTold, LeadsTo, IsSingle, KeepsSingles}
use Rattle.vol_mends.specs.Tails.{IsForStray, IsStrayFreed, StrayIsFreed}
use Rattle.vol_mends.proofs.WriteTold.{Owned, owned, unchanged, home_left}
use Rattle.vol_mends.proofs.OneWrite.{doubles_told, single_same}

header_on : (g : Geometry) (bs : List Block) (c : Cat) (m : ℕ) → IsTold g bs c → IsFileNumber g m → header_place g m < length bs
header_on g bs c m t is = let o = owned g bs c t in on_volume g bs o.own c o.spells (header_place g m) (InFile 1) (part_owned g bs o.own c o.spells (Header m) is)

module _ (g : Geometry) (bs : List Block) (c : Cat) (m : ℕ) (f : Hdr) (b : Block) (for : IsForStray g bs c m f b) where
  abbrev o : Owned g bs c
  o = owned g bs c for.told

  abbrev new : List Block
  new = slice_set bs (header_place g m) b

  number : IsFileNumber g m
  number = for.stray.number

  on : header_place g m < length bs
  on = header_on g bs c m for.told number

  -- the slot has no first header, which would be that of a file
  told_free : head_told (header_block g bs m) ≡ Ok (head.Free f.seq)
  told_free = ap as_first for.stray.used ∙ by_place (f.seg == 0) refl where
    by_place : (t : Bool) → (f.seg == 0) ≡ t → as_first (Ok (head.Used f)) ≡ Ok (head.Free f.seq)
    by_place true e =
        let first : as_first (Ok (head.Used f)) ≡ Ok (head.Used f) = rw e refl in
        let used : is_some (fields_in (head_told (header_block g bs m))) ≡ true = ap (λ (r : Result Head HeaderFault). is_some (fields_in r)) (ap as_first for.stray.used ∙ first) in
        absurd (for.stray.none m number (first_there g bs m used))
    by_place false e = rw e refl

  -- the catalogue has it as free
  slot_free : slice_get c.files (m - 1) ≡ Some (slot.Free f.seq)
  slot_free =
      slot_there g bs o.own c o.spells m number
      ∙ ap (λ (s : Slot). Some s) (sym (told g bs o.own c o.spells m number).slot ∙ ap (λ r. slot_with g.cluster m r (body_blocks bs m (told_of g bs m))) told_free)

  slot_for : IsSlotFor g bs m o.own c b
  slot_for = record {
    whole = for.whole;
    number = number;
    no_file = λ n e.
        let is = o.spells.owners.known_numbers (m - 1) n e in
        for.stray.none n is (((told g bs o.own c o.spells n is).slots m).1 (number, e));
    seq = f.seq;
    reads = ap as_first for.free;
    slot = slot_free;
    head = subst (IsHead m) (sym for.free) tt;
    blank = λ e. ap fields_in for.free;
  }

  spelt : Spells g new o.own c
  spelt = slot_write g bs o.own c m b o.spells slot_for

  set : IsSlotSet g bs new m b
  set = slot_set g bs o.own c m b o.spells slot_for

  home_apart : 1 ≢ header_place g m
  home_apart e = let low = o.spells.counts.geometry.cluster_from in omega (arith, e, low)

  stray_leads : LeadsTo g bs c c new
  stray_leads = unchanged g bs new o.own c for.told spelt o.outs (home_left bs (header_place g m) b home_apart)

  stray_singles : KeepsSingles g bs new
  stray_singles i is single = by (same_or_not i m) where
    none_here : IsSingle g new m
    none_here =
        doubles_told [] g new o.own c spelt m number
        ∙ ap (λ (d : Told). is_double_dir (fields_in d.head) (body_blocks new m (told_of g new m))) (none_set g bs m b f.seq on (ap as_first for.free))

    by : (i ≡ m) ⊎ (i ≢ m) → IsSingle g new i
    by (inl same) = subst (λ k. IsSingle g new k) (sym same) none_here
    by (inr other) = single_same g bs new o.own o.own c c o.spells spelt i is (set.others i is other) single

  stray_files : (n : ℕ) → IsFileNumber g n → told_of g new n ≡ told_of g bs n
  stray_files n is = by (same_or_not n m) where
    by : (n ≡ m) ⊎ (n ≢ m) → told_of g new n ≡ told_of g bs n
    by (inl same) = subst (λ k. told_of g new k ≡ told_of g bs k) (sym same) set.told
    by (inr other) = (set.others n is other).told

  stray_freed : IsStrayFreed g bs c m new
  stray_freed = record {
    leads = stray_leads;
    singles = stray_singles;
    blank = ap (λ (x : Block). fields_in (header_read x)) set.header ∙ ap fields_in for.free;
    others = λ i other. get_or-set_other bs (header_place g m) (header_place g i) b [] (λ e. other (omega (arith, e)));
    files = stray_files;
  }

pub stray_is_freed : StrayIsFreed
stray_is_freed = record { leads = stray_freed; within = header_on }
