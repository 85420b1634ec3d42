-- A mending of the volume of an image: what is said of the blocks in memory is said of those that the image has.
use Rattle.std.proofs.Common.{◌≡◌, ◌≤◌, ◌⊎◌, ◌∙◌, ℕ, List, Option, Result, Ok, Err, slice_set, refl, sym, subst, inl, inr}
use Rattle.base_words.specs.Fields.{Block}
use Rattle.base_words.specs.Faults.{Rose}
use Rattle.blk_drive.specs.Images.{IsInside, IsOutside}
use Rattle.blk_drive.specs.Loads.{HasLoadCause}
use Rattle.blk_drive.specs.declared.mirror.LoadFault.{LoadFault}
use Rattle.blk_drive.specs.declared.mirror.LoadFault.TheVariants as load
use Rattle.plain_cat.specs.declared.history.Mended.{Mended}
use Rattle.vol_parts.specs.declared.finding.Finding.{Finding}
use Rattle.vol_parts.specs.Findings.{IsFatal, IsFirstFatal, Weak}
use Rattle.vol_rebuild.specs.declared.fault.RebuildFault.{RebuildFault}
use Rattle.vol_rebuild.specs.declared.fault.RebuildFault.TheVariants as rebuild
use Rattle.vol_rebuild.specs.Rebuilt.{IsRebuilt, IsRefusal}
use Rattle.vol_rebuild.specs.Ways.{IsWay, IsAhead}
use Rattle.blk_drive.specs.Telling.{told_as}
use Rattle.run_engine.specs.Inputs.{Leaves}
use Rattle.run_engine.specs.declared.status.Status.{Status}
use Rattle.run_engine.specs.declared.status.Status.TheVariants as status
use Rattle.run_engine.specs.Stops.{load_status}
use Rattle.run_engine.proofs.Given.{rose_later}
use Rattle.clus_top.specs.Ends.{rebuild_status, IsRebuiltWith, IsRebuildEnd}
use Rattle.clus_top.specs.Mendings.{mending_text, IsStillToMend}
use Rattle.vol_rebuild.proofs.Stepping.{way_mends}

-- where nothing failed, the image has the blocks in memory
whole_image : (r : Result Mended RebuildFault) (P Q : Type 0) → (r ≡ Err rebuild.ImageFault → ⊥) → P ⊎ ((r ≡ Err rebuild.ImageFault) × Q) → P
whole_image r P Q none (inl p) = p
whole_image r P Q none (inr q) = absurd (none q.0)

ok_is_no_fault : (r : Result Mended RebuildFault) (done : Mended) → r ≡ Ok done → r ≡ Err rebuild.ImageFault → ⊥
ok_is_no_fault r done e f = let g : Ok done ≡ Err rebuild.ImageFault = sym e ∙ f in cc g

memory_is_no_fault : (r : Result Mended RebuildFault) → r ≡ Err rebuild.NoMemory → r ≡ Err rebuild.ImageFault → ⊥
memory_is_no_fault r e f = let g : Err rebuild.NoMemory ≡ Err rebuild.ImageFault = sym e ∙ f in cc g

refusal_is_no_fault : (r : Result Mended RebuildFault) (k : Finding) → r ≡ Err (rebuild.NotMendable k) → r ≡ Err rebuild.ImageFault → ⊥
refusal_is_no_fault r k e f = let g : Err (rebuild.NotMendable k) ≡ Err rebuild.ImageFault = sym e ∙ f in cc g

-- what a mending of blocks in memory has answered, and what came of them
pub record IsMend (told now : Option (List Block)) (old blocks : List Block) (had has : ℕ) (r : Result Mended RebuildFault) : Type 0 where
  pub way : IsWay old blocks
  pub refused : (f : Finding) → r ≡ Err (rebuild.NotMendable f) → IsFirstFatal old f × (blocks ≡ old)
  pub fatal : (f : Finding) → IsFatal old f → IsRefusal r × (blocks ≡ old)
  pub cause : r ≡ Err rebuild.ImageFault → Rose had has
  pub image : (now ≡ told_as told blocks) ⊎ ((r ≡ Err rebuild.ImageFault) × IsAhead told now old blocks)

module _ (told now : Option (List Block)) (old blocks : List Block) (had has : ℕ) (r : Result Mended RebuildFault) (a : IsMend told now old blocks had has r) where
  weak_by : (IsRefusal r → ⊥) → Weak old
  weak_by never f h = never (a.fatal f h).0

  still : IsStillToMend old blocks
  still = record { mends = way_mends old blocks a.way; kept = λ f h. (a.fatal f h).1 }

  -- of a mending that came to its end
  pub ok_text : (size : ℕ) (done : Mended) → IsInside size → r ≡ Ok done → IsRebuilt old blocks done → Leaves told now (λ new. IsRebuiltWith size old new (mending_text done))
  ok_text size done inside e rebuilt = record {
    new = blocks;
    left = whole_image r _ _ (ok_is_no_fault r done e) a.image;
    holds = record {
      mendable = record { inside = inside; weak = weak_by (λ h. subst IsRefusal e h) };
      told = record { mended = record { done = done; rebuilt = rebuilt }; written = refl };
    };
  }

  -- whose text found no memory
  pub ok_left : (size : ℕ) (done : Mended) → r ≡ Ok done → Leaves told now (λ new. IsRebuildEnd size old new had has status.NoMemory)
  ok_left size done e = record { new = blocks; left = whole_image r _ _ (ok_is_no_fault r done e) a.image; holds = still }

  -- and of one that came to none
  fault_left : (size : ℕ) → r ≡ Err rebuild.ImageFault → (now ≡ told_as told blocks) ⊎ ((r ≡ Err rebuild.ImageFault) × IsAhead told now old blocks)
      → Leaves told now (λ new. IsRebuildEnd size old new had has status.ImageFault)
  fault_left size e (inl image) = record { new = blocks; left = image; holds = (a.cause e, still) }
  fault_left size e (inr ahead) =
      let k = ahead.1 in
      record {
        new = slice_set blocks k.place k.block;
        left = k.there;
        holds = (a.cause e, record { mends = k.mends; kept = λ f h. absurd (weak_by (λ q. subst IsRefusal e q) f h) });
      }

  pub err_left : (size : ℕ) (fault : RebuildFault) → IsInside size → r ≡ Err fault → Leaves told now (λ new. IsRebuildEnd size old new had has (rebuild_status fault))
  err_left size (rebuild.NotMendable f) inside e = record {
    new = blocks;
    left = whole_image r _ _ (refusal_is_no_fault r f e) a.image;
    holds = ((inside, (a.refused f e).0), (a.refused f e).1);
  }
  err_left size rebuild.ImageFault inside e = fault_left size e a.image
  err_left size rebuild.NoMemory inside e = record { new = blocks; left = whole_image r _ _ (memory_is_no_fault r e) a.image; holds = still }

-- ---- on an image

-- why an image was not loaded
pub load_end : (size : ℕ) (bs : List Block) (had has : ℕ) (f : LoadFault) → HasLoadCause size had has f → IsRebuildEnd size bs bs had has (load_status f)
load_end size bs had has load.ImageFault cause = (cause, record { mends = λ z h. h; kept = λ f h. refl })
load_end size bs had has (load.BadSize n) cause = ((cause.0, subst IsOutside cause.0 cause.1), refl)
load_end size bs had has load.NoMemory cause = record { mends = λ z h. h; kept = λ f h. refl }

-- why the blocks in memory were not mended is why the image was not
pub end_from : (count size : ℕ) (old new : List Block) (first had has : ℕ) (s : Status) → count ≡ size → first ≤ had → IsRebuildEnd count old new had has s → IsRebuildEnd size old new first has s
end_from count size old new first had has status.ImageFault e le h = (rose_later first had has le h.0, h.1)
end_from count size old new first had has (status.BadSize n) e le h = subst (λ (m : ℕ). ((n ≡ m) × IsOutside m) × (new ≡ old)) e h
end_from count size old new first had has (status.NotMendable f) e le h = subst (λ (m : ℕ). (IsInside m × IsFirstFatal old f) × (new ≡ old)) e h
end_from count size old new first had has status.NoMemory e le h = h
end_from count size old new first had has s e le h = absurd h
