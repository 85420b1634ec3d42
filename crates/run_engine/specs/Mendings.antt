-- The end of a run whose drive is mended.
use Rattle.std.specs.Prelude.{◌≡◌, ◌++◌, ℕ, List, [], ◌∷◌, Option, Some, None}
use Rattle.base_words.specs.Fields.{Block}
use Rattle.plain_cat.specs.declared.cat.Cat.{Cat}
use Rattle.plain_cat.specs.declared.history.Entry.{Entry}
use Rattle.plain_cat.specs.declared.history.Entry.TheVariants as entry
use Rattle.plain_cat.specs.declared.history.Mended.{Mended}
use Rattle.plain_rules.specs.Mending.{mended}
use Rattle.plain_mends.specs.Resuming.{MendsTo}
use Rattle.vol_parts.specs.declared.finding.Finding.{Finding}
use Rattle.vol_parts.specs.declared.finding.Finding.TheVariants as finding
use Rattle.vol_parts.specs.Findings.{IsFirstFatal}
use Rattle.vol_mends.specs.Mends.{Mends}
use Rattle.vol_rebuild.specs.declared.fault.RebuildFault.{RebuildFault}
use Rattle.vol_rebuild.specs.declared.fault.RebuildFault.TheVariants as fault
use Rattle.core_state.specs.Worlds.{Plain}
use Rattle.blk_drive.specs.Telling.{told_as}
use Rattle.run_engine.specs.Mending.{IsMended}

-- What a mending of the old blocks leaves wherever it stops: the new blocks mend to what the catalogue mends to. If it cannot be mended, they
-- are the old ones.
pub record StillMends (c : Cat) (old new : List Block) : Type 0 where
  pub mends : (d : Cat) → MendsTo c d → Mends new d
  pub refused : mended c ≡ None → new ≡ old

-- The catalogue cannot be mended: [SYSLOST] lacks room for a lost file, and of the blocks that is the first fatal finding.
pub record IsRoomless (c : Cat) (bs : List Block) (f : Finding) : Type 0 where
  pub none : mended c ≡ None
  pub number : ℕ
  pub is : f ≡ finding.NoRoom number
  pub first : IsFirstFatal bs f

-- Of a mending of a world whose history has led to c: the history then, and the blocks of the drive. Where there is no fault, the history
-- has one entry more, by which c is mended, and the drive is accepted and tells the mended catalogue. Where c cannot be mended, the drive
-- is as it was.
abbrev pub IsMendEnd : Plain → Cat → List Entry → List Block → Option RebuildFault → Type 0
IsMendEnd w c h new None = (done : Mended) × IsMended c new done × (h ≡ w.history ++ entry.Mended done ∷ [])
IsMendEnd w c h new (Some (fault.NotMendable f)) = IsRoomless c w.blocks f × (new ≡ w.blocks) × (h ≡ w.history)
IsMendEnd w c h new (Some fault.ImageFault) = h ≡ w.history
IsMendEnd w c h new (Some fault.NoMemory) = h ≡ w.history

-- What the image tells then: the drive, and where a write failed blocks that mend to the same as the old ones.
abbrev pub IsMendImage : Cat → List Block → Option (List Block) → Option (List Block) → List Block → Option RebuildFault → Type 0
IsMendImage c old told now new None = now ≡ told_as told new
IsMendImage c old told now new (Some (fault.NotMendable f)) = now ≡ told_as told new
IsMendImage c old told now new (Some fault.ImageFault) = (bs : List Block) × (now ≡ told_as told bs) × StillMends c old bs
IsMendImage c old told now new (Some fault.NoMemory) = now ≡ told_as told new
