-- The slot of a file that becomes free.
use Rattle.std.proofs.Common.{◌≡◌, ◌<◌, ◌+◌, ◌∙◌, true, false, ℕ, List, [], ◌∷◌, Some, Ok, length, drop, get_or, slice_set, sym, ap, subst}
use Rattle.base_words.specs.Fields.{Block, IsWholeBlock}
use Rattle.fx_header.specs.declared.slot.Slot.TheVariants.{Free}
use Rattle.fx_header.specs.Headers.{header_read}
use Rattle.plain_cat.specs.declared.cat.Cat.{Cat}
use Rattle.plain_cat.specs.declared.cat.File.{File}
use Rattle.plain_rules.specs.Lookups.{file_at}
use Rattle.plain_rules.specs.Mending.{is_gone, lost}
use Rattle.plain_rules.specs.Changes.{freed}
use Rattle.plain_mends.specs.Waiting.{Settled, AreFull}
use Rattle.vol_parts.specs.declared.geometry.Geometry.{Geometry}
use Rattle.vol_parts.specs.Catalogues.{flagged}
use Rattle.vol_spell.specs.Reading.{header_place, told_of}
use Rattle.vol_mends.specs.Mends.{Mends}
use Rattle.vol_mends.specs.Told.{IsTold, KeepsSingles}
use Rattle.vol_mends.proofs.Leaving.{slot_is_freed}
use Rattle.vol_mends.specs.Slots.{CanBeFreed}
use Rattle.vol_rebuild.specs.Leaving.{gone_numbers}
use Rattle.vol_rebuild.specs.Steps.{leaking, TellsFiles, IsGone, used_count}
use Rattle.vol_rebuild.proofs.Going.{gone_aside, first_gone, gone_next, used_fewer, settled_on, none_on, full_on}
use Rattle.vol_rebuild.proofs.Looping.{rest_at}

pub same_file : (c : Cat) (n : ℕ) (h : IsGone c n) (f : File) → file_at c n ≡ Some f → h.file ≡ f
same_file c n h f at = let both : Some h.file ≡ Some f = sym h.at ∙ at in cc both

can_free : (g : Geometry) (bs : List Block) (c : Cat) (n : ℕ) (f : File) (b : Block) → IsTold g bs c → IsGone c n → file_at c n ≡ Some f → IsWholeBlock b → header_read b ≡ Ok (Free f.seq) → CanBeFreed g bs c n f b
can_free g bs c n f b t h at whole free = record {
  told = t;
  settled = h.settled;
  entered = h.none;
  full = h.full;
  file = at;
  gone = ap (λ (x : File). is_gone c n x) (sym (same_file c n h f at)) ∙ h.gone;
  whole = whole;
  free = free;
}

-- the blocks once its first slot is free
pub record IsFreedIn (g : Geometry) (bs : List Block) (c : Cat) (n : ℕ) (f : File) (new : List Block) : Type 0 where
  pub mends : (z : Cat) → Mends bs z → Mends new z
  pub told : TellsFiles g new (freed c n f)
  pub singles : KeepsSingles g bs new

module _ (g : Geometry) (bs : List Block) (c : Cat) (n : ℕ) (f : File) (b : Block) (t : TellsFiles g bs c) (h : IsGone c n) (at : file_at c n ≡ Some f) (whole : IsWholeBlock b) (free : header_read b ≡ Ok (Free f.seq)) where
  can : CanBeFreed g bs (leaking c t.leaked t.flags) n f b
  can = can_free g bs (leaking c t.leaked t.flags) n f b t.told (gone_aside c t.leaked t.flags n h) at whole free

  pub slot_on : header_place g n < length bs
  slot_on = slot_is_freed.within g bs (leaking c t.leaked t.flags) n f b can

  pub slot_goes : IsFreedIn g bs c n f (slice_set bs (header_place g n) b)
  slot_goes =
      let leads = slot_is_freed.leads g bs (leaking c t.leaked t.flags) n f b can in
      record {
        mends = leads.mends;
        told = record { leaked = t.leaked + f.clusters; flags = flagged (told_of g bs n).slots t.flags; told = leads.told };
        singles = slot_is_freed.singles g bs (leaking c t.leaked t.flags) n f b can;
      }

-- the first of those that are left
pub first_of_rest : (c : Cat) (ns : List ℕ) (i : ℕ) → i < length ns → Settled c → lost c false ≡ [] → AreFull c (lost c true) → drop i ns ≡ gone_numbers c → IsGone c (get_or ns i 0)
first_of_rest c ns i lt settled none full left = first_gone c (get_or ns i 0) (drop (i + 1) ns) settled none full (sym left ∙ rest_at ns i lt)

-- what is so once its slot is free
pub record GoneOn (c d : Cat) (ns : List ℕ) : Type 0 where
  pub settled : Settled d
  pub none : lost d false ≡ []
  pub full : AreFull d (lost d true)
  pub left : gone_numbers d ≡ ns
  pub files : used_count d + 1 ≡ used_count c

pub gone_on : (c d : Cat) (n : ℕ) (ns : List ℕ) → IsGone c n → gone_numbers c ≡ n ∷ ns → ((f : File) → file_at c n ≡ Some f → d ≡ freed c n f) → GoneOn c d ns
gone_on c d n ns h first left = subst (λ (x : Cat). GoneOn c x ns) (sym (left h.file h.at)) (record {
  settled = settled_on c n h;
  none = none_on c n h;
  full = full_on c n h;
  left = gone_next c n h ns first;
  files = used_fewer c n h;
})
