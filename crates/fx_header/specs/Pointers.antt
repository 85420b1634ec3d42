-- Retrieval pointers: how the words of a header's map area spell runs of blocks. There are four formats, told by the
-- top two bits of a pointer's first word, and a pointer is as many words long as its format's number, plus one.
use Rattle.std.specs.Prelude.{◌≡◌, ◌<◌, ◌≤◌, ◌+◌, ◌-◌, ◌*◌, ◌/◌, ◌%◌, ◌^◌, ◌==◌, ◌&&◌, nat_lt, nat_le, ℕ, zero, suc, List, [], ◌∷◌, ◌++◌, take, drop, length, flat_map, sum_by, All, Option, Some, None, if◌then◌else◌, MatchOption}
use Rattle.std.specs.List.{range_with_len}
use Rattle.byteorder.specs.Endian.{little_bytes}
use Rattle.std.specs.Borrow.{Bor}
use Rattle.base_words.specs.Fields.{field}
use Rattle.fx_header.specs.declared.run.Run.{Run}

-- the format of the pointer at the front of these bytes
abbrev pub format_of : List ℕ → ℕ
format_of p = field p 0 2 / 2 ^ 14

-- and how many bytes it takes
abbrev pub pointer_size : List ℕ → ℕ
pointer_size p = 2 + 2 * format_of p

-- the run of a pointer whose count is one less than the blocks
abbrev pub run_from : ℕ → ℕ → Option Run
run_from lbn count = Some (record { lbn = lbn; count = count + 1 })

-- The run that the pointer spells. Format 0 is a placement pointer and has none.
unfoldable pub pointer_run : List ℕ → Option Run
pointer_run p =
    if format_of p == 0 then None
    else if format_of p == 1 then run_from (field p 0 2 / 2 ^ 8 % 2 ^ 6 * 2 ^ 16 + field p 2 2) (field p 0 2 % 2 ^ 8)
    else if format_of p == 2 then run_from (field p 2 4) (field p 0 2 % 2 ^ 14)
    else run_from (field p 4 4) (field p 0 2 % 2 ^ 14 * 2 ^ 16 + field p 2 2)

-- a run, if there is one, in front of others
abbrev pub before : Option Run → List Run → List Run
before None runs = runs
before (Some r) runs = r ∷ runs

-- the runs of the first n pointers, or of fewer where the bytes end before
unfoldable pub spelt : ℕ → List ℕ → List Run
spelt zero p = []
spelt (suc n) p = if nat_le (pointer_size p) (length p) then before (pointer_run p) (spelt n (drop (pointer_size p) p)) else []

-- the bytes behind those pointers
unfoldable pub unspelt : ℕ → List ℕ → List ℕ
unspelt zero p = p
unspelt (suc n) p = if nat_le (pointer_size p) (length p) then unspelt n (drop (pointer_size p) p) else p

-- The runs of all pointers, of which there are fewer than bytes, and the bytes that are left behind the last pointer
-- that is whole.
unfoldable pub runs_of : List ℕ → List Run
runs_of p = spelt (length p) p

unfoldable pub rest_of : List ℕ → List ℕ
rest_of p = unspelt (length p) p

-- taking the pointer at the front off the bytes: its run, and the bytes behind it
abbrev pub SplitsPointer : List ℕ → Option (Option Run × Bor (List ℕ)) → Type 0
SplitsPointer p None = (runs_of p ≡ []) × (rest_of p ≡ p)
SplitsPointer p (Some (run, behind)) =
    (runs_of p ≡ before run (runs_of behind.now)) × (rest_of p ≡ rest_of behind.now) × (length behind.now < length p)

-- a run in front of merged runs: it is one with the first of them where that begins at its end
abbrev pub joined : Run → List Run → List Run
joined r [] = r ∷ []
joined r (s ∷ runs) = if r.lbn + r.count == s.lbn then record { lbn = r.lbn; count = r.count + s.count } ∷ runs else r ∷ s ∷ runs

-- runs with adjacent ones merged
abbrev pub merged : List Run → List Run
merged [] = []
merged (r ∷ runs) = joined r (merged runs)

-- numbers of two and of four bytes
abbrev pub word : ℕ → List ℕ
word n = little_bytes 2 n

abbrev pub long : ℕ → List ℕ
long n = little_bytes 4 n

-- a pointer's first word, with its format in the top two bits
abbrev pub first_word : ℕ → ℕ → List ℕ
first_word format n = word (format * 2 ^ 14 + n)

-- the pointer of a run, from its LBN and its count less one: the first of the formats 1, 2 and 3 that has room for them
abbrev pub pointer_to : ℕ → ℕ → List ℕ
pointer_to lbn count =
    if nat_lt lbn (2 ^ 22) && nat_lt count (2 ^ 8) then first_word 1 (lbn / 2 ^ 16 * 2 ^ 8 + count) ++ word (lbn % 2 ^ 16)
    else if nat_lt count (2 ^ 14) then first_word 2 count ++ long lbn
    else first_word 3 (count / 2 ^ 16) ++ word (count % 2 ^ 16) ++ long lbn

unfoldable pub pointer_bytes : Run → List ℕ
pointer_bytes r = pointer_to r.lbn (r.count - 1)

-- the pointers of runs
abbrev pub map_words : List Run → List ℕ
map_words runs = flat_map pointer_bytes (merged runs)

-- the blocks of runs
abbrev pub blocks_in : List Run → ℕ
blocks_in runs = sum_by (λ r. r.count) runs

-- the LBNs of runs, in order
abbrev pub lbns_in : List Run → List ℕ
lbns_in runs = flat_map (λ r. range_with_len r.lbn r.count) runs

-- a run has a block at least, and ends at or before LBN 65,536
abbrev pub IsRun : Run → Type 0
IsRun r = (1 ≤ r.count) × (r.lbn + r.count ≤ 65536)

abbrev pub AreRuns : List Run → Type 0
AreRuns runs = All IsRun runs

-- taking the first run off a list, merged with those that are adjacent to it
abbrev pub SplitsRun : List Run → Option (Run × Bor (List Run)) → Type 0
SplitsRun runs None = runs ≡ []
SplitsRun runs (Some (r, behind)) =
    (merged runs ≡ r ∷ merged behind.now) × IsRun r × AreRuns behind.now × (length behind.now < length runs)

-- bytes behind the first `used` ones of a list of bytes, in the room of the first `room`
abbrev pub Appended : ℕ → List ℕ → ℕ → List ℕ → Option ℕ → List ℕ → Type 0
Appended room bytes used old result new =
    MatchOption result (room < used + length bytes)
    (λ n. (n ≡ used + length bytes) × (n ≤ room) × (take n new ≡ take used old ++ bytes))
