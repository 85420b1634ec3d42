-- A repair of a volume: when its statuses are due, what is printed of it, and what the image has then.
use Rattle.std.specs.Prelude.{◌≡◌, ◌++◌, ℕ, List, None, Ok, codes, decimal}
use Rattle.base_words.specs.Fields.{Block}
use Rattle.base_words.specs.Faults.{Rose}
use Rattle.blk_drive.specs.Images.{IsInside, IsOutside}
use Rattle.fx_home.specs.declared.home.Home.{Home}
use Rattle.fx_home.specs.Homes.{home_read}
use Rattle.plain_rules.specs.Mending.{mended}
use Rattle.vol_parts.specs.declared.finding.Finding.{Finding}
use Rattle.vol_parts.specs.declared.finding.Finding.TheVariants.{NoRoom as NoRoomFor}
use Rattle.vol_parts.specs.Volumes.{volume}
use Rattle.vol_parts.specs.Fatal.{HasNoRoom}
use Rattle.vol_parts.specs.Findings.{home_at}
use Rattle.vol_sound.specs.Begun.{patched}
use Rattle.vol_sound.specs.Beyond.{IsBeyond, IsFirstBeyond}
use Rattle.vol_repair.specs.declared.fault.Repaired.{Repaired}
use Rattle.vol_repair.specs.declared.fault.RepairFault.{RepairFault}
use Rattle.vol_repair.specs.declared.fault.RepairFault.TheVariants as fault
use Rattle.vol_repair.specs.Keeping.{NoneIsBeyond, Keeps}
use Rattle.vol_repair.specs.Repaired.{IsRepaired, IsRoomless}
use Rattle.run_engine.specs.declared.status.Status.{Status}
use Rattle.run_engine.specs.declared.status.Status.TheVariants as status
use Rattle.clus_top.specs.Mendings.{mending_text}

-- ---- when a status is due

-- Nothing of these blocks is beyond repair, and mending does not give up on the catalogue that it gets from the repair.
pub record HasRoom (bs : List Block) : Type 0 where
  pub none : NoneIsBeyond bs
  pub home : Home
  pub read : home_read (home_at bs) ≡ Ok home
  pub mends : mended (patched (volume home bs)) ≡ None → ⊥

-- Nothing of them is beyond repair, and in that catalogue a lost file that is not empty has no room: this is the finding.
pub record LacksRoom (bs : List Block) (f : Finding) : Type 0 where
  pub none : NoneIsBeyond bs
  pub home : Home
  pub read : home_read (home_at bs) ≡ Ok home
  pub number : ℕ
  pub found : f ≡ NoRoomFor number
  pub lacks : HasNoRoom (patched (volume home bs)) number

-- an image of a volume's size can be repaired
pub record IsRepairable (size : ℕ) (bs : List Block) : Type 0 where
  pub inside : IsInside size
  pub room : HasRoom bs

-- Of a repair. The order is image read, size, what is beyond repair, writes, room, output.
abbrev pub IsRepairDue : ℕ → List Block → Status → Type 0
IsRepairDue size bs status.Ok = IsRepairable size bs
IsRepairDue size bs status.ImageFault = Unit {0}
IsRepairDue size bs (status.BadSize n) = (n ≡ size) × IsOutside size
IsRepairDue size bs (status.NotRepairable f) = IsInside size × IsFirstBeyond bs f
IsRepairDue size bs (status.RepairNoRoom f) = IsInside size × LacksRoom bs f
IsRepairDue size bs status.OutFault = IsRepairable size bs
IsRepairDue size bs status.NoMemory = Unit {0}
IsRepairDue size bs s = ⊥

-- ---- what is printed, and what the image has

-- what is printed of what was done
unfoldable pub repair_text : Repaired → List ℕ
repair_text done = codes "repaired: " ++ (decimal done.slots ++ (codes " slots freed\n" ++ mending_text done.mended))

-- the new blocks are the repaired volume, and keep every sound file of the old ones, except a marked one and one that mending leaves out
pub record IsRepairedImage (old new : List Block) : Type 0 where
  pub done : Repaired
  pub repaired : IsRepaired old new done
  pub keeps : Keeps old new

-- a text tells what was done to these blocks
pub record IsRepairText (old new : List Block) (text : List ℕ) : Type 0 where
  pub image : IsRepairedImage old new
  pub written : text ≡ repair_text image.done

-- The new blocks keep every sound file of the old ones, except a marked one and one that mending leaves out. If something of these is beyond repair, they are the
-- old ones.
pub record IsStillToRepair (old new : List Block) : Type 0 where
  pub keeps : Keeps old new
  pub kept : (f : Finding) → IsBeyond old f → new ≡ old

-- After a repair: the repaired volume; where a lost file has no room, blocks that spell the patched catalogue and keep every sound file;
-- after a fault or want of memory blocks that keep every sound file; and else the old blocks.
abbrev pub IsRepairImage : List Block → List Block → Status → Type 0
IsRepairImage old new status.Ok = IsRepairedImage old new
IsRepairImage old new status.OutFault = IsRepairedImage old new
IsRepairImage old new (status.RepairNoRoom f) = IsRoomless old new f × Keeps old new
IsRepairImage old new status.ImageFault = IsStillToRepair old new
IsRepairImage old new status.NoMemory = IsStillToRepair old new
IsRepairImage old new s = new ≡ old

-- ---- how the steps end

-- the status of a repair that failed
abbrev pub repair_status : RepairFault → Status
repair_status (fault.NotRepairable f) = status.NotRepairable f
repair_status (fault.NoRoom f) = status.RepairNoRoom f
repair_status fault.ImageFault = status.ImageFault
repair_status fault.NoMemory = status.NoMemory

-- an image is repaired, and this text says what was done
pub record IsRepairedWith (size : ℕ) (old new : List Block) (text : List ℕ) : Type 0 where
  pub repairable : IsRepairable size old
  pub told : IsRepairText old new text

-- why an image was not repaired, and what it has then
abbrev pub IsRepairEnd : ℕ → List Block → List Block → ℕ → ℕ → Status → Type 0
IsRepairEnd size old new had has status.ImageFault = Rose had has × IsStillToRepair old new
IsRepairEnd size old new had has (status.BadSize n) = ((n ≡ size) × IsOutside size) × (new ≡ old)
IsRepairEnd size old new had has (status.NotRepairable f) = (IsInside size × IsFirstBeyond old f) × (new ≡ old)
IsRepairEnd size old new had has (status.RepairNoRoom f) = (IsInside size × LacksRoom old f) × IsRoomless old new f × IsStillToRepair old new
IsRepairEnd size old new had has status.NoMemory = IsStillToRepair old new
IsRepairEnd size old new had has s = ⊥
