-- A repair of the volume of an image: what is said of the blocks in memory is said of those that the image has.
use Rattle.std.proofs.Common.{◌≡◌, ◌≤◌, ◌⊎◌, ◌∙◌, ℕ, List, Option, Some, None, Result, Ok, Err, length, slice_set, refl, sym, ap, subst, inl, inr, arith}
use Rattle.std.proofs.lemmas.List.{take_all}
use Rattle.base_words.specs.Fields.{Block}
use Rattle.base_words.specs.Faults.{Rose}
use Rattle.base_words.specs.Lists.{written}
use Rattle.blk_drive.specs.Images.{IsInside, IsOutside}
use Rattle.blk_drive.specs.Loads.{HasLoadCause}
use Rattle.blk_drive.specs.Telling.{told_as}
use Rattle.blk_drive.specs.declared.mirror.LoadFault.{LoadFault}
use Rattle.blk_drive.specs.declared.mirror.LoadFault.TheVariants as load
use Rattle.fx_home.specs.declared.home.Home.{Home}
use Rattle.fx_home.specs.declared.home.HomeFault.{HomeFault}
use Rattle.fx_home.specs.Homes.{home_read}
use Rattle.plain_cat.specs.declared.cat.Cat.{Cat}
use Rattle.plain_cat.specs.declared.history.Mended.{Mended}
use Rattle.plain_rules.specs.Mending.{mended}
use Rattle.vol_parts.specs.declared.finding.Finding.{Finding}
use Rattle.vol_parts.specs.Volumes.{volume}
use Rattle.vol_parts.specs.Findings.{home_at}
use Rattle.vol_sound.specs.Begun.{patched}
use Rattle.vol_sound.specs.Beyond.{IsBeyond, IsFirstBeyond}
use Rattle.vol_repair.specs.declared.fault.Repaired.{Repaired}
use Rattle.vol_repair.specs.declared.fault.RepairFault.{RepairFault}
use Rattle.vol_repair.specs.declared.fault.RepairFault.TheVariants as repair
use Rattle.vol_repair.specs.Alike.{bare}
use Rattle.vol_repair.specs.Keeping.{NoneIsBeyond, KeepsBy, Keeps}
use Rattle.vol_repair.specs.Repaired.{IsRepaired, IsRoomless, IsRefusal}
use Rattle.vol_repair.specs.Steps.{IsWay, IsAhead}
use Rattle.run_engine.specs.Inputs.{Leaves}
use Rattle.run_engine.specs.declared.status.Status.{Status}
use Rattle.run_engine.specs.declared.status.Status.TheVariants as status
use Rattle.run_engine.specs.Stops.{load_status}
use Rattle.run_engine.proofs.Given.{rose_later}
use Rattle.clus_top.specs.Repairs.{LacksRoom, repair_text, repair_status, IsStillToRepair, IsRepairedWith, IsRepairEnd}

-- ---- blocks keep what is sound in them

keeps_by : (bs : List Block) (r : Result Home HomeFault) → home_read (home_at bs) ≡ r → NoneIsBeyond bs → KeepsBy r bs bs
keeps_by bs (Err fault) e none = tt
keeps_by bs (Ok home) e none = record {
  home = home;
  read = e;
  cluster = refl;
  numbers = refl;
  none = none;
  files = λ n f is sound at unmarked. inl (record { sound = sound; same = ap bare at });
}

pub keeps_all : (bs : List Block) → Keeps bs bs
keeps_all bs none = keeps_by bs (home_read (home_at bs)) refl none

pub still_same : (bs : List Block) → IsStillToRepair bs bs
still_same bs = record { keeps = keeps_all bs; kept = λ f h. refl }

-- ---- on the blocks in memory

-- where nothing failed, the image has these
whole_image : (r : Result Repaired RepairFault) (P Q : Type 0) → (r ≡ Err repair.ImageFault → ⊥) → P ⊎ ((r ≡ Err repair.ImageFault) × Q) → P
whole_image r P Q none (inl p) = p
whole_image r P Q none (inr q) = absurd (none q.0)

ok_is_no_fault : (r : Result Repaired RepairFault) (done : Repaired) → r ≡ Ok done → r ≡ Err repair.ImageFault → ⊥
ok_is_no_fault r done e f = let g : Ok done ≡ Err repair.ImageFault = sym e ∙ f in cc g

memory_is_no_fault : (r : Result Repaired RepairFault) → r ≡ Err repair.NoMemory → r ≡ Err repair.ImageFault → ⊥
memory_is_no_fault r e f = let g : Err repair.NoMemory ≡ Err repair.ImageFault = sym e ∙ f in cc g

refusal_is_no_fault : (r : Result Repaired RepairFault) (k : Finding) → r ≡ Err (repair.NotRepairable k) → r ≡ Err repair.ImageFault → ⊥
refusal_is_no_fault r k e f = let g : Err (repair.NotRepairable k) ≡ Err repair.ImageFault = sym e ∙ f in cc g

lack_is_no_fault : (r : Result Repaired RepairFault) (k : Finding) → r ≡ Err (repair.NoRoom k) → r ≡ Err repair.ImageFault → ⊥
lack_is_no_fault r k e f = let g : Err (repair.NoRoom k) ≡ Err repair.ImageFault = sym e ∙ f in cc g

-- what the catalogue is mended to is one
mends_some : (o : Option (Cat × Mended)) (x : Cat × Mended) → o ≡ Some x → o ≡ None → ⊥
mends_some o x e f = let g : Some x ≡ None = sym e ∙ f in cc g

-- what a repair of blocks in memory has answered, and what came of them
pub record IsRepair (told now : Option (List Block)) (old blocks : List Block) (had has : ℕ) (r : Result Repaired RepairFault) : Type 0 where
  pub way : IsWay (Keeps old) old blocks
  pub refused : (f : Finding) → r ≡ Err (repair.NotRepairable f) → IsFirstBeyond old f × (blocks ≡ old)
  pub beyond : (f : Finding) → IsBeyond old f → IsRefusal r × (blocks ≡ old)
  pub roomless : (f : Finding) → r ≡ Err (repair.NoRoom f) → IsRoomless old blocks f
  pub cause : r ≡ Err repair.ImageFault → Rose had has
  pub image : (now ≡ told_as told blocks) ⊎ ((r ≡ Err repair.ImageFault) × IsAhead (Keeps old) told now blocks)

module _ (told now : Option (List Block)) (old blocks : List Block) (had has : ℕ) (r : Result Repaired RepairFault) (a : IsRepair told now old blocks had has r) where
  none_by : (IsRefusal r → ⊥) → NoneIsBeyond old
  none_by never f h = never (a.beyond f h).0

  keeps : Keeps old blocks
  keeps =
      let all = ap (λ (ws : List (ℕ × Block)). written ws old) (take_all (length a.way.writes) a.way.writes (omega arith)) in
      subst (λ (x : List Block). Keeps old x) (all ∙ sym a.way.made) (a.way.holds (length a.way.writes))

  still : IsStillToRepair old blocks
  still = record { keeps = keeps; kept = λ f h. (a.beyond f h).1 }

  -- of a repair that came to its end
  pub ok_text : (size : ℕ) (done : Repaired) → IsInside size → r ≡ Ok done → IsRepaired old blocks done → Leaves told now (λ new. IsRepairedWith size old new (repair_text done))
  ok_text size done inside e repaired = record {
    new = blocks;
    left = whole_image r _ _ (ok_is_no_fault r done e) a.image;
    holds = record {
      repairable = record {
        inside = inside;
        room = record { none = none_by (λ h. subst IsRefusal e h); home = repaired.home; read = repaired.read; mends = λ lack. mends_some (mended (patched (volume repaired.home old))) (repaired.after, done.mended) repaired.mends lack };
      };
      told = record { image = record { done = done; repaired = repaired; keeps = keeps }; written = refl };
    };
  }

  -- whose text found no memory
  pub ok_left : (size : ℕ) (done : Repaired) → r ≡ Ok done → Leaves told now (λ new. IsRepairEnd size old new had has status.NoMemory)
  ok_left size done e = record { new = blocks; left = whole_image r _ _ (ok_is_no_fault r done e) a.image; holds = still }

  -- and of one that came to none
  fault_left : (size : ℕ) → r ≡ Err repair.ImageFault → (now ≡ told_as told blocks) ⊎ ((r ≡ Err repair.ImageFault) × IsAhead (Keeps old) told now blocks)
      → Leaves told now (λ new. IsRepairEnd size old new had has status.ImageFault)
  fault_left size e (inl image) = record { new = blocks; left = image; holds = (a.cause e, still) }
  fault_left size e (inr ahead) =
      let k = ahead.1 in
      record {
        new = slice_set blocks k.place k.block;
        left = k.there;
        holds = (a.cause e, record { keeps = k.holds; kept = λ f h. absurd (none_by (λ q. subst IsRefusal e q) f h) });
      }

  lacks : (f : Finding) → r ≡ Err (repair.NoRoom f) → LacksRoom old f
  lacks f e =
      let m = a.roomless f e in
      record { none = none_by (λ q. subst IsRefusal e q); home = m.home; read = m.read; number = m.number; found = m.found; lacks = m.lacks }

  pub err_left : (size : ℕ) (fault : RepairFault) → IsInside size → r ≡ Err fault → Leaves told now (λ new. IsRepairEnd size old new had has (repair_status fault))
  err_left size (repair.NotRepairable f) inside e = record {
    new = blocks;
    left = whole_image r _ _ (refusal_is_no_fault r f e) a.image;
    holds = ((inside, (a.refused f e).0), (a.refused f e).1);
  }
  err_left size (repair.NoRoom f) inside e = record {
    new = blocks;
    left = whole_image r _ _ (lack_is_no_fault r f e) a.image;
    holds = ((inside, lacks f e), a.roomless f e, still);
  }
  err_left size repair.ImageFault inside e = fault_left size e a.image
  err_left size repair.NoMemory inside e = record { new = blocks; left = whole_image r _ _ (memory_is_no_fault r e) a.image; holds = still }

-- ---- on an image

-- why an image was not loaded
pub load_end : (size : ℕ) (bs : List Block) (had has : ℕ) (f : LoadFault) → HasLoadCause size had has f → IsRepairEnd size bs bs had has (load_status f)
load_end size bs had has load.ImageFault cause = (cause, still_same bs)
load_end size bs had has (load.BadSize n) cause = ((cause.0, subst IsOutside cause.0 cause.1), refl)
load_end size bs had has load.NoMemory cause = still_same bs

-- why the blocks in memory were not repaired is why the image was not
pub end_from : (count size : ℕ) (old new : List Block) (first had has : ℕ) (s : Status) → count ≡ size → first ≤ had → IsRepairEnd count old new had has s → IsRepairEnd size old new first has s
end_from count size old new first had has status.ImageFault e le h = (rose_later first had has le h.0, h.1)
end_from count size old new first had has (status.BadSize n) e le h = subst (λ (m : ℕ). ((n ≡ m) × IsOutside m) × (new ≡ old)) e h
end_from count size old new first had has (status.NotRepairable f) e le h = subst (λ (m : ℕ). (IsInside m × IsFirstBeyond old f) × (new ≡ old)) e h
end_from count size old new first had has (status.RepairNoRoom f) e le h = subst (λ (m : ℕ). (IsInside m × LacksRoom old f) × IsRoomless old new f × IsStillToRepair old new) e h
end_from count size old new first had has status.NoMemory e le h = h
end_from count size old new first had has s e le h = absurd h
