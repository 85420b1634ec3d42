-- What the readers of numbers, deaths and mendings answer, as values of what they are given. That they read what is written is
-- proved of these values.
use Rattle.std.specs.Prelude.{◌==◌, ◌+◌, ℕ, List, [], ◌∷◌, Option, Some, None, codes, drop, length, if◌then◌else◌}
use Rattle.std.specs.Str.{bytes_eq}
use Rattle.plain_cat.specs.declared.history.Stage.{Stage}
use Rattle.plain_cat.specs.declared.history.Stage.TheVariants as stage
use Rattle.plain_cat.specs.declared.history.Mended.{Mended}
use Rattle.run_script.specs.Steps.{part_of, number_of, with4, with5, quota_of}
use Rattle.log_check.specs.declared.drafts.Death.{Death}

-- a number that 32 bits hold
unfoldable pub short_of : List ℕ → Option ℕ
short_of word = quota_of word

-- what stands behind the first of these bytes
unfoldable pub behind_first : ℕ → List ℕ → List ℕ
behind_first byte text = drop (length (part_of byte 0 text) + 1) text

-- a node behind its letter
unfoldable pub node_of : List ℕ → Option ℕ
node_of [] = None
node_of (b ∷ bs) = if b == 78 then number_of 10 1 8 bs else None

-- the stage that a word names
unfoldable pub named_stage : List ℕ → Option Stage
named_stage w = if bytes_eq w (codes "idle") then Some stage.Idle else (if bytes_eq w (codes "nothing") then Some stage.Nothing else (
    if bytes_eq w (codes "charged") then Some stage.Charged else (if bytes_eq w (codes "lost") then Some stage.Lost else (
    if bytes_eq w (codes "shortened") then Some stage.Shortened else (if bytes_eq w (codes "marked") then Some stage.Marked else (
    if bytes_eq w (codes "unlinked") then Some stage.Unlinked else (if bytes_eq w (codes "freed") then Some stage.Freed else (
    if bytes_eq w (codes "both") then Some stage.Both else (if bytes_eq w (codes "data only") then Some stage.DataOnly else (
    if bytes_eq w (codes "done") then Some stage.Done else None))))))))))

abbrev pub death : ℕ → Stage → ℕ → ℕ → Death
death node st clusters numbers = record { node = node; stage = st; clusters = clusters; numbers = numbers }

-- the death that a line tells, whose parts stand between spaces and commas
unfoldable pub death_of : List ℕ → Option Death
death_of body = if bytes_eq (part_of 32 1 body) (codes "died")
    then with4 (node_of (part_of 32 0 body)) (named_stage (drop 11 (part_of 44 0 body))) (short_of (part_of 32 2 (part_of 44 0 (behind_first 44 body)))) (short_of (part_of 32 1 (behind_first 44 (behind_first 44 body)))) death
    else None

abbrev pub counts : ℕ → ℕ → ℕ → ℕ → ℕ → Mended
counts entered removed gone clusters numbers =
    record { entered = entered; removed = removed; gone = gone; clusters = clusters; numbers = numbers }

-- the mending that a line tells, whose counts stand between spaces
unfoldable pub mending_of : List ℕ → Option Mended
mending_of body = if bytes_eq (part_of 32 0 body) (codes "rebuilt:")
    then with5 (short_of (part_of 32 1 body)) (short_of (part_of 32 3 body)) (short_of (part_of 32 6 body)) (short_of (part_of 32 9 body)) (short_of (part_of 32 11 body)) counts
    else None
