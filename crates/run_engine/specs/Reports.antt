-- The report of a history.
use Rattle.std.specs.Prelude.{◌++◌, ℕ, Bool, true, false, count_by, List, codes, decimal}
use Rattle.plain_cat.specs.declared.history.Entry.{Entry}
use Rattle.plain_cat.specs.declared.history.Entry.TheVariants.{Done, Died, Mended}
use Rattle.plain_texts.specs.Reports.{lines_text, newline}

-- an entry is an answer
unfoldable pub is_answer : Entry → Bool
is_answer (Done n c r) = true
is_answer (Died n st k ns) = false
is_answer (Mended m) = false

-- an entry is a death
unfoldable pub is_death : Entry → Bool
is_death (Done n c r) = false
is_death (Died n st k ns) = true
is_death (Mended m) = false

-- the first words of the last line: how many answers and deaths a history has
unfoldable pub counts_text : ℕ → ℕ → List ℕ
counts_text answered died = codes "end: " ++ (decimal answered ++ (codes " answered, " ++ (decimal died ++ codes " died, ")))

-- the last line of a report
abbrev pub closing_text : ℕ → ℕ → ℕ → List ℕ
closing_text answered died free = counts_text answered died ++ (decimal free ++ (codes " free" ++ newline))

-- the lines of the entries alone
abbrev pub lines_bytes : List Entry → List ℕ
lines_bytes h = lines_text h

-- the report of a history that leaves so many clusters free
abbrev pub report_bytes : List Entry → ℕ → List ℕ
report_bytes h free = lines_bytes h ++ closing_text (count_by is_answer h) (count_by is_death h) free
