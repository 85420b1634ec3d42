-- What a load answers.
use Rattle.std.specs.Prelude.{◌≡◌, ℕ, Result, Ok, Err}
use Rattle.base_words.specs.Faults.{Rose}
use Rattle.blk_drive.specs.Images.{Drive, IsInside, IsOutside}
use Rattle.blk_drive.specs.declared.mirror.LoadFault.{LoadFault}
use Rattle.blk_drive.specs.declared.mirror.LoadFault.TheVariants.{ImageFault, BadSize, NoMemory}
use Rattle.blk_drive.specs.declared.mirror.LoadRefused.{LoadRefused}

-- the image that a load gives back, in the drive or beside the fault
abbrev pub image_of : {I : Type 0} → Result (Drive I) (LoadRefused I) → I
image_of (Ok drive) = drive.image
image_of (Err refused) = refused.image

-- the cause of a fault at an image of so many blocks, whose count of faults was `before` and is `now`
abbrev pub HasLoadCause : (size before now : ℕ) → LoadFault → Type 0
HasLoadCause size before now ImageFault = Rose before now
HasLoadCause size before now (BadSize n) = (n ≡ size) × IsOutside n
HasLoadCause size before now NoMemory = IsInside size
