-- The mending of the drive of a world that is over, and the clusters that are free then.
use Rattle.std.proofs.Common.{◌≡◌, ◌∙◌, ◌++◌, ◌⊎◌, ◌<◌, ◌+◌, ◌/◌, ℕ, List, [], ◌∷◌, Option, Some, None, Result, Ok, Err, length, map, slice_set, refl, sym, ap, subst, inl, inr}
use Rattle.base_words.specs.Fields.{Block, AreWholeBlocks}
use Rattle.fx_home.specs.declared.home.Home.{Home}
use Rattle.fx_home.specs.declared.home.HomeFault.{HomeFault}
use Rattle.fx_home.specs.Homes.{home_read}
use Rattle.plain_cat.specs.declared.cat.Cat.{Cat}
use Rattle.plain_cat.specs.declared.history.Entry.{Entry}
use Rattle.plain_cat.specs.declared.history.Entry.TheVariants as entry
use Rattle.plain_cat.specs.declared.history.Mended.{Mended}
use Rattle.plain_rules.specs.Lookups.{free_clusters}
use Rattle.vol_parts.specs.declared.finding.Finding.{Finding}
use Rattle.vol_parts.specs.declared.geometry.Geometry.{Geometry}
use Rattle.vol_parts.specs.declared.finding.Finding.TheVariants as finding
use Rattle.vol_parts.specs.Volumes.{volume}
use Rattle.vol_parts.specs.Catalogues.{catalogue}
use Rattle.vol_parts.specs.Findings.{home_at, IsFatal, IsFatalBy, IsFirstFatal, IsCatalogueBy, CatOf, Weak}
use Rattle.vol_faults.specs.Conditions.{IsSize}
use Rattle.vol_faults.specs.Free.{IsGeometryBy}
use Rattle.vol_spell.specs.Reading.{total_of}
use Rattle.vol_under.proofs.Short.{free_by_bits}
use Rattle.vol_mends.proofs.WriteTold.{owned}
use Rattle.vol_rebuild.specs.declared.fault.RebuildFault.{RebuildFault}
use Rattle.vol_rebuild.specs.declared.fault.RebuildFault.TheVariants as fault
use Rattle.vol_rebuild.specs.Rebuilt.{IsRebuilt, IsRefusal}
use Rattle.plain_rules.specs.Mending.{mended}
use Rattle.vol_rebuild.specs.Ways.{IsWay, IsAhead}
use Rattle.blk_drive.specs.Telling.{IsTold as Shows}
use Rattle.blk_drive.specs.Telling.{told_as as told_way}
use Rattle.vol_rebuild.proofs.Stepping.{way_mends}
use Rattle.core_state.specs.Worlds.{Plain, shown}
use Rattle.blk_drive.specs.Telling.{IsTold}
use Rattle.blk_drive.specs.Telling.{told_as}
use Rattle.core_state.specs.Goods.{IsAccepted}
use Rattle.run_engine.specs.Mending.{MendsAs}
use Rattle.run_engine.proofs.Worlds.{over_worlds_mend}
use Rattle.run_engine.specs.Ended.{free_bits, HasEnded}
use Rattle.run_engine.specs.Mendings.{StillMends, IsMendEnd, IsMendImage}
use Rattle.run_engine.proofs.Ending.{bit_there}

-- the drive mends as the catalogue of the history does
pub mends_now : (w : Plain) (c : Cat) → IsAccepted w.opening → HasEnded w c → MendsAs w.blocks c
mends_now w c accepted h = over_worlds_mend w h.drive.own c accepted h.replayed h.drive.spelt h.drive.outs

-- what an image tells is said in two crates
same_told : (told : Option (List Block)) (bs : List Block) → told_way told bs ≡ told_as told bs
same_told None bs = refl
same_told (Some x) bs = refl

one_shown : (es : List Entry) (done : Mended) → map shown (es ++ entry.Mended done ∷ []) ≡ map shown es ++ entry.Mended done ∷ []
one_shown [] done = refl
one_shown (e ∷ es) done = ap (λ xs. shown e ∷ xs) (one_shown es done)

-- the history with the mending behind it
pub one_more : (old new h : List Entry) (done : Mended) → map shown old ≡ h → new ≡ old ++ entry.Mended done ∷ [] → map shown new ≡ h ++ entry.Mended done ∷ []
one_more old new h done is grown = ap (map shown) grown ∙ (one_shown old done ∙ ap (λ es. es ++ entry.Mended done ∷ []) is)

module _ (w : Plain) (c : Cat) (old : List Block) (at : old ≡ w.blocks) (is : MendsAs w.blocks c) where
  m : MendsAs old c
  m = subst (λ (bs : List Block). MendsAs bs c) (sym at) is

  pub none_mends : StillMends c w.blocks old
  none_mends = record { mends = λ d e. m.mends d e; refused = λ none. at }

  -- if the catalogue cannot be mended, the mending is refused
  is_refused : (r : Result Mended RebuildFault) (new : List Block) → ((f : Finding) → IsFatal old f → IsRefusal r × (new ≡ old)) → mended c ≡ None → IsRefusal r × (new ≡ old)
  is_refused r new fatal none = let l = m.lacking none in fatal (finding.NoRoom l.0) l.1

  pub way_still : (r : Result Mended RebuildFault) (new : List Block) → IsWay old new → ((f : Finding) → IsFatal old f → IsRefusal r × (new ≡ old)) → StillMends c w.blocks new
  way_still r new way fatal = record { mends = λ d e. way_mends old new way d (m.mends d e); refused = λ none. (is_refused r new fatal none).1 ∙ at }

  -- a mending that came to its end
  pub end_well : (h : List Entry) (new : List Block) (done : Mended) → IsRebuilt old new done → h ≡ w.history ++ entry.Mended done ∷ [] → IsMendEnd w c h new None
  end_well h new done rebuilt more = (done, m.rebuilt new done rebuilt, more)

  -- and one that came to none
  pub end_by : (h : List Entry) (new : List Block) (r : Result Mended RebuildFault) (f : RebuildFault) → r ≡ Err f
      → ((g : Finding) → r ≡ Err (fault.NotMendable g) → IsFirstFatal old g × (new ≡ old)) → h ≡ w.history → IsMendEnd w c h new (Some f)
  end_by h new r (fault.NotMendable g) err refused same =
      let k = refused g err in
      let l = m.roomless g k.0.fatal in
      (record { none = l.0; number = l.1.0; is = l.1.1; first = subst (λ (bs : List Block). IsFirstFatal bs g) at k.0 }, k.1 ∙ at, same)
  end_by h new r fault.ImageFault err refused same = same
  end_by h new r fault.NoMemory err refused same = same

  -- what the image has then
  ahead_still : (told now : Option (List Block)) (r : Result Mended RebuildFault) (new : List Block) → r ≡ Err fault.ImageFault → ((f : Finding) → IsFatal old f → IsRefusal r × (new ≡ old)) → IsAhead told now old new
      → IsMendImage c w.blocks told now new (Some fault.ImageFault)
  ahead_still told now r new err fatal a =
      let bs = slice_set new a.place a.block in
      (bs, a.there ∙ same_told told bs, record { mends = λ d e. a.mends d (m.mends d e); refused = λ none. absurd (let k : IsRefusal (Err fault.ImageFault) = subst IsRefusal err (is_refused r new fatal none).0 in k) })

  pub image_by : (told now : Option (List Block)) (new : List Block) (r : Result Mended RebuildFault) (f : RebuildFault) → r ≡ Err f → IsWay old new → ((g : Finding) → IsFatal old g → IsRefusal r × (new ≡ old))
      → (now ≡ told_way told new) ⊎ ((r ≡ Err fault.ImageFault) × IsAhead told now old new) → IsMendImage c w.blocks told now new (Some f)
  image_by told now new r fault.ImageFault err way fatal (inl e) = (new, e ∙ same_told told new, way_still r new way fatal)
  image_by told now new r fault.ImageFault err way fatal (inr p) = ahead_still told now r new err fatal p.1
  image_by told now new r fault.NoMemory err way fatal (inl e) = e ∙ same_told told new
  image_by told now new r fault.NoMemory err way fatal (inr p) = absurd (let k : Err fault.NoMemory ≡ Err fault.ImageFault = sym err ∙ p.0 in cc k)
  image_by told now new r (fault.NotMendable g) err way fatal (inl e) = e ∙ same_told told new
  image_by told now new r (fault.NotMendable g) err way fatal (inr p) = absurd (let k : Err (fault.NotMendable g) ≡ Err fault.ImageFault = sym err ∙ p.0 in cc k)

pub image_well : (told now : Option (List Block)) (old new : List Block) (r : Result Mended RebuildFault) (done : Mended) → r ≡ Ok done
    → (now ≡ told_way told new) ⊎ ((r ≡ Err fault.ImageFault) × IsAhead told now old new) → now ≡ told_as told new
image_well told now old new r done ok (inl e) = e ∙ same_told told new
image_well told now old new r done ok (inr p) = absurd (let k : Ok done ≡ Err fault.ImageFault = sym ok ∙ p.0 in cc k)

-- the image of a world is handed on with its drive
pub shows_old : (was told : Option (List Block)) (old bs : List Block) → was ≡ told → old ≡ bs → IsTold told bs → Shows was old
shows_old was told old bs same at h = subst (λ (t : Option (List Block)). Shows t old) (sym same) (subst (λ (b : List Block). Shows told b) (sym at) h)

-- where nothing was written, it has what it had
pub image_kept : (was told : Option (List Block)) (old bs : List Block) → was ≡ told → old ≡ bs → IsTold told bs → was ≡ told_as told old
image_kept was None old bs same at h = same
image_kept was (Some x) old bs same at h = same ∙ ap (λ (b : List Block). Some b) (sym (at ∙ h))

-- ---- the clusters that are free on a drive

-- blocks with no fatal finding tell a catalogue
pub weak_cat : (bs : List Block) → Weak bs → (c : Cat) × CatOf bs c
weak_cat bs weak = by (home_read (home_at bs)) refl where
  by : (r : Result Home HomeFault) → home_read (home_at bs) ≡ r → (c : Cat) × CatOf bs c
  by (Ok home) e = (catalogue (volume home bs), record { weak = weak; told = subst (λ (r : Result Home HomeFault). IsCatalogueBy bs r (catalogue (volume home bs))) (sym e) refl })
  by (Err f) e = absurd (weak (finding.Home f) (subst (λ (r : Result Home HomeFault). IsFatalBy bs r (finding.Home f)) (sym e) refl))

module _ (bs : List Block) (g : Geometry) (size : IsSize (length bs)) (whole : AreWholeBlocks bs) (is : IsGeometryBy bs (home_read (home_at bs)) g) where
  pub free_told : (c : Cat) → CatOf bs c → free_clusters c ≡ free_bits g bs
  free_told c told =
      let o = owned g bs c (record { size = size; whole = whole; cat = told; geometry = is }) in
      (free_by_bits g bs o.own c o.spells o.outs).clusters

  pub bits_there : Weak bs → (q : ℕ) → q < total_of g → g.bitmap_lbn + 1 + q / 4096 < length bs
  bits_there weak q lt =
      let c = weak_cat bs weak in
      let o = owned g bs c.0 (record { size = size; whole = whole; cat = c.1; geometry = is }) in
      bit_there g bs o.own c.0 o.spells q lt
