-- What the words of a live call ask for.
use Rattle.std.specs.Prelude.{ℕ, List, [], ◌∷◌, Option, Some, None, codes, if◌then◌else◌}
use Rattle.std.specs.Str.{bytes_eq}
use Rattle.live_run.specs.declared.words.Job.{Job}
use Rattle.live_run.specs.declared.words.Job.TheVariants as job

-- the job of one word, and of two
unfoldable pub named : List ℕ → Option Job
named word = if bytes_eq word (codes "live") then Some job.Live else None

unfoldable pub paired : List ℕ → List ℕ → Option Job
paired word more = if bytes_eq word (codes "live") then (if bytes_eq more (codes "--rebuild") then Some job.LiveRebuild else None) else None

-- the job that the words ask for, or none where they have no reading
unfoldable pub job_of : List (List ℕ) → Option Job
job_of (word ∷ []) = named word
job_of (word ∷ more ∷ []) = paired word more
job_of words = None
