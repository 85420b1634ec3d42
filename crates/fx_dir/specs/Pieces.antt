-- Lists that are appended to, the bytes of single entries, and the writes that lead from blocks to blocks.
use Rattle.std.specs.Prelude.{◌≡◌, ◌==◌, ◌-◌, ◌&&◌, Bool, true, false, ℕ, suc, List, [], ◌∷◌, ◌++◌, Option, Some, None, option_map, slice_set, slice_index_or, if◌then◌else◌}
use Rattle.std.specs.List.{list_all}
use Rattle.base_words.specs.Fields.{Block}
use Rattle.base_words.specs.Packing.{pack, over}
use Rattle.fx_dir.specs.declared.RawEnt.{RawEnt}
use Rattle.fx_dir.specs.declared.Move.{Move}
use Rattle.fx_dir.specs.Writing.{name_of, head_bytes, version_bytes, goes_on}
use Rattle.fx_dir.specs.Moves.{rising, falling, less_last}

-- the list, where all that was to be appended was there
abbrev pub if_whole : Bool → List RawEnt → Option (List RawEnt)
if_whole true es = Some es
if_whole false es = None

-- what is there, behind these
abbrev pub behind : List RawEnt → Option (List RawEnt) → Option (List RawEnt)
behind es o = option_map (λ fs. es ++ fs) o

-- the bytes of an entry behind a record of the name `last`: what its record has in front of n versions, where it begins
-- one, and its version
abbrev pub entry_bytes : Option (List ℕ) → RawEnt → ℕ → List ℕ
entry_bytes last e n = (if goes_on last e then [] else head_bytes e n) ++ version_bytes e

-- each entry has the version limit and the flags of a new record
abbrev pub has_new_marks : List RawEnt → Bool
has_new_marks es = list_all (λ e. (e.limit == 32767) && (e.flags == 0)) es

-- The entries fill the first m of `count` blocks whatever comes behind them, and leave `rest` for the others.
abbrev pub IsAhead : ℕ → List RawEnt → ℕ → List RawEnt → Type 0
IsAhead count front m rest = (more : List RawEnt)
    → (pack name_of count (front ++ more) ≡ pack name_of m front ++ pack name_of (count - m) (rest ++ more))
    × (over name_of count (front ++ more) ≡ over name_of (count - m) (rest ++ more))

-- the writes of an insertion from the blocks `old` to `left` and on to `new`, where `lacking` is the block at the place
-- `at` without the new entry
abbrev pub insertion_by : List Block → List Block → List Block → ℕ → Block → List Move
insertion_by old left new at lacking =
    (rising 1 old left ++ less_last (suc at) (falling 1 left (slice_set new at lacking)))
    ++ record { vbn = suc at; block = slice_index_or new at [] } ∷ []

-- the writes of a removal from the blocks `old` to `left` and on to `rest`, where `lacking` is the block at the place
-- `at` without the entry
abbrev pub removal_by : List Block → List Block → ℕ → Block → List Block → List Move
removal_by old left at lacking rest =
    rising 1 old left ++ record { vbn = suc at; block = lacking } ∷ rising 1 (slice_set left at lacking) rest
