-- Want of memory before a job: that status is due of all words, and the image stays.
use Rattle.std.proofs.Common.{◌≡◌, ℕ, false, List, Option, Some, None, refl, inl}
use Rattle.base_words.specs.Fields.{Block}
use Rattle.run_engine.specs.declared.status.Status.TheVariants as status
use Rattle.clus_top.specs.Words.{Wanted, Run, RunRebuild, Soak, Analyze, Rebuild, Repair, Records, Store, Init}
use Rattle.clus_top.specs.Images.{IsImageAfter}
use Rattle.clus_top.specs.Statuses.{IsDue}
use Rattle.clus_top.specs.Verdicts.{is_answer_of}
use Rattle.clus_top.proofs.Repairing.{still_same}

pub lacking_due : (wanted : Option Wanted) (bytes : List ℕ) (size : ℕ) (bs : List Block) → IsDue wanted bytes size bs status.NoMemory
lacking_due None bytes size bs = tt
lacking_due (Some Run) bytes size bs = tt
lacking_due (Some RunRebuild) bytes size bs = tt
lacking_due (Some (Soak n)) bytes size bs = tt
lacking_due (Some Analyze) bytes size bs = tt
lacking_due (Some Rebuild) bytes size bs = tt
lacking_due (Some Repair) bytes size bs = tt
lacking_due (Some (Records n seq)) bytes size bs = tt
lacking_due (Some (Store n seq)) bytes size bs = tt
lacking_due (Some (Init cluster files label)) bytes size bs = tt

pub lacking_image : (wanted : Option Wanted) (bytes : List ℕ) (had has : ℕ) (bs : List Block) → IsImageAfter wanted bytes had has bs bs status.NoMemory
lacking_image None bytes had has bs = refl
lacking_image (Some Run) bytes had has bs = inl refl
lacking_image (Some RunRebuild) bytes had has bs = inl refl
lacking_image (Some (Soak n)) bytes had has bs = inl refl
lacking_image (Some Analyze) bytes had has bs = refl
lacking_image (Some Rebuild) bytes had has bs = record { mends = λ z h. h; kept = λ f h. refl }
lacking_image (Some Repair) bytes had has bs = still_same bs
lacking_image (Some (Records n seq)) bytes had has bs = refl
lacking_image (Some (Store n seq)) bytes had has bs = refl
lacking_image (Some (Init cluster files label)) bytes had has bs = inl refl

-- it is no verdict
pub no_verdict : (wanted : Option Wanted) → is_answer_of wanted status.NoMemory ≡ false
no_verdict None = refl
no_verdict (Some Run) = refl
no_verdict (Some RunRebuild) = refl
no_verdict (Some (Soak n)) = refl
no_verdict (Some Analyze) = refl
no_verdict (Some Rebuild) = refl
no_verdict (Some Repair) = refl
no_verdict (Some (Records n seq)) = refl
no_verdict (Some (Store n seq)) = refl
no_verdict (Some (Init cluster files label)) = refl
