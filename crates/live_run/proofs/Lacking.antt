-- Want of memory before a call: that status is due of all words, and the image stays.
use Rattle.std.proofs.Common.{◌≡◌, ℕ, false, List, Option, Some, None, refl, inl}
use Rattle.base_words.specs.Fields.{Block}
use Rattle.run_engine.specs.declared.status.Status.TheVariants as status
use Rattle.live_run.specs.declared.words.Job.{Job}
use Rattle.live_run.specs.declared.words.Job.TheVariants as job
use Rattle.live_run.specs.Laws.{is_verdict_of}
use Rattle.live_run.specs.Statuses.{IsDue, IsImageAfter}

pub lacking_due : (what : Option Job) (bytes : List ℕ) (size : ℕ) (old new : List Block) → IsDue what bytes size old new status.NoMemory
lacking_due None bytes size old new = tt
lacking_due (Some job.Live) bytes size old new = tt
lacking_due (Some job.LiveRebuild) bytes size old new = tt

pub lacking_image : (what : Option Job) (bytes : List ℕ) (bs : List Block) → IsImageAfter what bytes bs bs status.NoMemory
lacking_image None bytes bs = refl
lacking_image (Some what) bytes bs = inl refl

-- it is no verdict
pub no_verdict : (what : Option Job) → is_verdict_of what status.NoMemory ≡ false
no_verdict None = refl
no_verdict (Some job.Live) = refl
no_verdict (Some job.LiveRebuild) = refl
