-- The records of a file of an image: why the image was not loaded is why it gave none.
use Rattle.std.proofs.Common.{ℕ, List, subst}
use Rattle.base_words.specs.Fields.{Block}
use Rattle.blk_drive.specs.Images.{IsOutside}
use Rattle.blk_drive.specs.Loads.{HasLoadCause}
use Rattle.blk_drive.specs.declared.mirror.LoadFault.{LoadFault}
use Rattle.blk_drive.specs.declared.mirror.LoadFault.TheVariants as load
use Rattle.run_engine.specs.Stops.{load_status}
use Rattle.clus_top.specs.Ends.{IsRecordsEnd}

pub load_end : (n seq size : ℕ) (bs : List Block) (had has : ℕ) (f : LoadFault) → HasLoadCause size had has f → IsRecordsEnd n seq size bs had has (load_status f)
load_end n seq size bs had has load.ImageFault cause = cause
load_end n seq size bs had has (load.BadSize k) cause = (cause.0, subst IsOutside cause.0 cause.1)
load_end n seq size bs had has load.NoMemory cause = tt
