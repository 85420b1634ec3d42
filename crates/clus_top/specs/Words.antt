-- What the words of a call ask for.
use Rattle.std.specs.Prelude.{◌≤◌, ◌+◌, ◌*◌, ◌-◌, ◌&&◌, nat_le, ℕ, Bool, List, [], ◌∷◌, Option, Some, None, codes, if◌then◌else◌}
use Rattle.std.specs.List.{list_all}
use Rattle.std.specs.Str.{bytes_eq}
use Rattle.clus_top.specs.declared.words.Job.{Job}
use Rattle.clus_top.specs.declared.words.Job.TheVariants as job

-- a job: run the script, run it and mend the volume then, run the soak of this number, print what is found in the volume, mend it, repair it,
-- print the records of the file of this number and sequence, store the lines of a text there, or format the image with these blocks in a cluster, these file numbers and this label
pub data Wanted : Type 0 where
  Run : Wanted
  RunRebuild : Wanted
  Soak : ℕ → Wanted
  Analyze : Wanted
  Rebuild : Wanted
  Repair : Wanted
  Records : ℕ → ℕ → Wanted
  Store : ℕ → ℕ → Wanted
  Init : ℕ → ℕ → List ℕ → Wanted

-- what a job of the program is
abbrev pub wanted : Job → Wanted
wanted job.Run = Run
wanted job.RunRebuild = RunRebuild
wanted (job.Soak n) = Soak n
wanted job.Analyze = Analyze
wanted job.Rebuild = Rebuild
wanted job.Repair = Repair
wanted (job.Records file seq) = Records file seq
wanted (job.Store file seq) = Store file seq
wanted (job.Init cluster files label) = Init cluster files label.now

-- the number of a soak is at most 256
abbrev pub IsWithinLimits : Job → Type 0
IsWithinLimits (job.Soak n) = n ≤ 256
IsWithinLimits j = Unit {0}

-- a decimal digit
abbrev pub is_digit : ℕ → Bool
is_digit b = nat_le 48 b && nat_le b 57

-- the number that one to five digits write
unfoldable pub value_of : List ℕ → Option ℕ
value_of (a ∷ []) = Some (a - 48)
value_of (a ∷ b ∷ []) = Some (10 * (a - 48) + (b - 48))
value_of (a ∷ b ∷ c ∷ []) = Some (100 * (a - 48) + 10 * (b - 48) + (c - 48))
value_of (a ∷ b ∷ c ∷ d ∷ []) = Some (1000 * (a - 48) + 100 * (b - 48) + 10 * (c - 48) + (d - 48))
value_of (a ∷ b ∷ c ∷ d ∷ e ∷ []) = Some (10000 * (a - 48) + 1000 * (b - 48) + 100 * (c - 48) + 10 * (d - 48) + (e - 48))
value_of word = None

-- the number that a word is, leading zeros allowed
unfoldable pub number : List ℕ → Option ℕ
number word = if list_all is_digit word then value_of word else None

-- a job of one word
unfoldable pub named : List ℕ → Option Wanted
named word =
    if bytes_eq word (codes "run") then Some Run
    else if bytes_eq word (codes "analyze") then Some Analyze
    else if bytes_eq word (codes "rebuild") then Some Rebuild
    else if bytes_eq word (codes "repair") then Some Repair
    else None

-- a soak has a number from 1 to 256
abbrev pub is_soak : ℕ → Bool
is_soak n = nat_le 1 n && nat_le n 256

abbrev pub soak_of : Option ℕ → Option Wanted
soak_of (Some n) = if is_soak n then Some (Soak n) else None
soak_of None = None

-- the words of a soak
unfoldable pub soaked : List ℕ → List ℕ → Option Wanted
soaked word count = if bytes_eq word (codes "soak") then soak_of (number count) else None

-- the words of a run that is mended, or of a soak
unfoldable pub paired : List ℕ → List ℕ → Option Wanted
paired word more =
    if bytes_eq word (codes "run") then (if bytes_eq more (codes "--rebuild") then Some RunRebuild else None) else soaked word more

-- a sequence has 16 bits
abbrev pub is_seq : ℕ → Bool
is_seq seq = nat_le seq 65535

-- the records of a file, where both numbers are numbers and the second is a sequence
abbrev pub records_with : Option ℕ → Option ℕ → Option Wanted
records_with (Some file) (Some seq) = if is_seq seq then Some (Records file seq) else None
records_with None seq = None
records_with (Some file) None = None

-- a store in a file, likewise
abbrev pub store_with : Option ℕ → Option ℕ → Option Wanted
store_with (Some file) (Some seq) = if is_seq seq then Some (Store file seq) else None
store_with None seq = None
store_with (Some file) None = None

-- the words of a store
unfoldable pub storing : List ℕ → List ℕ → List ℕ → Option Wanted
storing word file seq = if bytes_eq word (codes "store") then store_with (number file) (number seq) else None

-- the words of the records of a file, or of a store
unfoldable pub recorded : List ℕ → List ℕ → List ℕ → Option Wanted
recorded word file seq = if bytes_eq word (codes "records") then records_with (number file) (number seq) else storing word file seq

-- a format, where its two numbers are numbers
abbrev pub init_with : Option ℕ → Option ℕ → List ℕ → Option Wanted
init_with (Some cluster) (Some files) label = Some (Init cluster files label)
init_with None files label = None
init_with (Some cluster) None label = None

-- the words of a format
unfoldable pub formatted : List ℕ → List ℕ → List ℕ → List ℕ → Option Wanted
formatted word cluster files label =
    if bytes_eq word (codes "init") then init_with (number cluster) (number files) label else None

-- what the words ask for, or none where they have no reading
unfoldable pub wanted_by : List (List ℕ) → Option Wanted
wanted_by (word ∷ []) = named word
wanted_by (word ∷ more ∷ []) = paired word more
wanted_by (word ∷ file ∷ seq ∷ []) = recorded word file seq
wanted_by (word ∷ cluster ∷ files ∷ label ∷ []) = formatted word cluster files label
wanted_by words = None
