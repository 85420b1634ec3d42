-- How the lines of a report are written.
use Rattle.std.specs.Prelude.{◌++◌, ◌+◌, ℕ, List, [], ◌∷◌, codes, decimal, length}
use Rattle.plain_cat.specs.declared.history.Entry.{Entry}
use Rattle.plain_cat.specs.declared.history.Entry.TheVariants.{Done, Died, Mended}
use Rattle.plain_cat.specs.declared.history.Mended.{Mended as Counts}
use Rattle.plain_cat.specs.declared.history.Stage.{Stage}
use Rattle.plain_cat.specs.declared.history.Stage.TheVariants as stage
use Rattle.plain_texts.specs.Commands.{command_text}
use Rattle.plain_texts.specs.Replies.{reply_text}

abbrev pub stage_text : Stage → List ℕ
stage_text stage.Idle = codes "idle"
stage_text stage.Nothing = codes "nothing"
stage_text stage.Charged = codes "charged"
stage_text stage.Lost = codes "lost"
stage_text stage.Shortened = codes "shortened"
stage_text stage.Marked = codes "marked"
stage_text stage.Unlinked = codes "unlinked"
stage_text stage.Freed = codes "freed"
stage_text stage.Both = codes "both"
stage_text stage.DataOnly = codes "data only"
stage_text stage.Done = codes "done"

-- the end of a line
abbrev pub newline : List ℕ
newline = 10 ∷ []

-- leaked clusters and file numbers
abbrev pub leaks_text : ℕ → ℕ → List ℕ
leaks_text clusters numbers = decimal clusters ++ (codes " clusters, " ++ (decimal numbers ++ codes " numbers"))

-- entries that a mending made and removed
abbrev pub entries_text : ℕ → ℕ → List ℕ
entries_text entered removed = decimal entered ++ (codes " entered, " ++ (decimal removed ++ codes " entries removed, "))

-- what a mending did
abbrev pub mended_text : Counts → List ℕ
mended_text m =
    codes "rebuilt: " ++ (entries_text m.entered m.removed ++ (decimal m.gone ++ (codes " files gone, " ++ leaks_text m.clusters m.numbers)))

-- a node, and what comes after it
abbrev pub node_text : ℕ → List ℕ
node_text node = codes "N" ++ (decimal node ++ codes " ")

-- an entry of the history
unfoldable pub entry_line : Entry → List ℕ
entry_line (Done node cmd reply) = node_text node ++ (command_text cmd ++ (codes " = " ++ reply_text reply))
entry_line (Died node stage clusters numbers) =
    node_text node ++ (codes "died at " ++ (stage_text stage ++ (codes ", leaked " ++ leaks_text clusters (length numbers.items))))
entry_line (Mended m) = mended_text m

-- the line of the entry number k
abbrev pub line_text : ℕ → Entry → List ℕ
line_text k e = decimal k ++ (codes " " ++ (entry_line e ++ newline))

-- the lines of entries, numbered from k
abbrev pub lines_from : ℕ → List Entry → List ℕ
lines_from k [] = []
lines_from k (e ∷ es) = line_text k e ++ lines_from (k + 1) es

-- the lines of a history
abbrev pub lines_text : List Entry → List ℕ
lines_text h = lines_from 1 h
