-- What is written reads back, and what the greedy packing has to do with other ways to fill blocks.
use Rattle.std.specs.Prelude.{◌≡◌, ◌≤◌, ◌||◌, Bool, true, false, ℕ, List, [], ◌∷◌, Some, None, Ok, length, map}
use Rattle.std.specs.List.{list_any}
use Rattle.base_words.specs.Fields.{Block}
use Rattle.base_words.specs.Packing.{Fits, size, pack}
use Rattle.fx_dir.specs.declared.RawEnt.{RawEnt}
use Rattle.fx_dir.specs.Lists.{Each, joined}
use Rattle.fx_dir.specs.Entries.{rises, has}
use Rattle.fx_dir.specs.Records.{block_entries}
use Rattle.fx_dir.specs.Directory.{directory, entries_at}
use Rattle.fx_dir.specs.Writing.{IsInForm, IsRanged, name_of, marked, block_of}

-- A block of entries in order that have room in it reads as these entries, each with the version limit and the flags of
-- the first entry of its record.
abbrev pub BlocksReadBack : Type 0
BlocksReadBack =
    (es : List RawEnt) → Each IsInForm es → Each IsRanged es → rises es ≡ true → size name_of None es ≤ 510
    → block_entries (block_of es) ≡ Some (marked None es)

-- However its entries stand in its blocks, the packing of a directory needs no more blocks.
abbrev pub PackingIsLeast : Type 0
PackingIsLeast =
    (bs : List Block) (es : List RawEnt) → Each (λ b. length b ≡ 512) bs → directory bs ≡ Ok es → Fits name_of (length bs) es

-- an entry of one of these blocks stands in a later one too
abbrev pub has_double : List (List RawEnt) → Bool
has_double [] = false
has_double (es ∷ ess) = list_any (has (joined ess)) es || has_double ess

-- No entry of packed blocks stands in two.
abbrev pub SinglePacked : Type 0
SinglePacked =
    (k : ℕ) (es : List RawEnt) → Each IsInForm es → Each IsRanged es → rises es ≡ true
    → has_double (map entries_at (map block_of (pack name_of k es))) ≡ false
