-- The moves of an insertion and of a removal: which block of a directory is written when.
use Rattle.std.specs.Prelude.{◌≡◌, ◌==◌, ◌-◌, ◌<◌, ◌≤◌, ℕ, suc, List, [], ◌∷◌, ◌++◌, Option, Some, None, Result, Ok, Err, length, take, map, slice_get, slice_set, slice_index_or, if◌then◌else◌}
use Rattle.std.specs.Str.{bytes_eq}
use Rattle.base_words.specs.Fields.{Block}
use Rattle.base_words.specs.Packing.{pack, over}
use Rattle.fx_dir.specs.declared.RawEnt.{RawEnt}
use Rattle.fx_dir.specs.declared.DirFault.{DirFault}
use Rattle.fx_dir.specs.declared.Move.{Move}
use Rattle.fx_dir.specs.Entries.{before, has, without, plain}
use Rattle.fx_dir.specs.Directory.{directory, dir_entries, all_entries}
use Rattle.fx_dir.specs.Writing.{name_of, block_of, if_fits, IsUniform}

-- the blocks after these writes, in order
abbrev pub written : List Move → List Block → List Block
written [] bs = bs
written (w ∷ ws) bs = written ws (slice_set bs (w.vbn - 1) w.block)

-- the writes of the blocks that change, first to last, where the first has this VBN
abbrev pub rising : ℕ → List Block → List Block → List Move
rising vbn [] bs = []
rising vbn (a ∷ xs) [] = []
rising vbn (a ∷ xs) (b ∷ bs) =
    if bytes_eq a b then rising (suc vbn) xs bs else record { vbn = vbn; block = b } ∷ rising (suc vbn) xs bs

-- the same, last to first
abbrev pub falling : ℕ → List Block → List Block → List Move
falling vbn [] bs = []
falling vbn (a ∷ xs) [] = []
falling vbn (a ∷ xs) (b ∷ bs) =
    if bytes_eq a b then falling (suc vbn) xs bs else falling (suc vbn) xs bs ++ record { vbn = vbn; block = b } ∷ []

-- without the last write, where it is to the block of this VBN
abbrev pub less_last : ℕ → List Move → List Move
less_last vbn [] = []
less_last vbn (w ∷ []) = if w.vbn == vbn then [] else w ∷ []
less_last vbn (w ∷ v ∷ ws) = w ∷ less_last vbn (v ∷ ws)

-- how many of the blocks stand in front of the one that has an entry of this name and version
abbrev pub place : RawEnt → List (List RawEnt) → ℕ
place e [] = 0
place e (g ∷ gs) = if has g e then 0 else suc (place e gs)

-- the entry in its place
abbrev pub inserted : RawEnt → List RawEnt → List RawEnt
inserted e [] = e ∷ []
inserted e (x ∷ xs) = if before e x then e ∷ x ∷ xs else x ∷ inserted e xs

-- the entry with the version limit and the flags of the first record of its name, and else with 32,767 and 0
abbrev pub as_new : List RawEnt → RawEnt → RawEnt
as_new [] e = record e { limit = 32767; flags = 0 }
as_new (x ∷ xs) e = if bytes_eq x.name e.name then record e { limit = x.limit; flags = x.flags } else as_new xs e

-- The writes of an insertion. The left pass leads to the packing `left` of the old entries, first block to last. The
-- right pass leads from there to the new packing `new` without the new entry, last block to first, so that an entry
-- reaches its new block before it leaves the old one. The block of the new entry with it comes last; where the right
-- pass ends with this block, the two writes are one.
abbrev pub insert_writes : List Block → List (List RawEnt) → RawEnt → List (List RawEnt) → List Move
insert_writes old left e new =
    (rising 1 old (map block_of left)
    ++ less_last (suc (place e new)) (falling 1 (map block_of left) (map block_of (map (without e) new))))
    ++ record { vbn = suc (place e new); block = block_of (slice_index_or new (place e new) []) } ∷ []

-- the insertion of e into a directory of the entries es, or none where the new entries do not pack
abbrev pub insertion_of : List Block → List RawEnt → RawEnt → Option (List Move)
insertion_of old es e =
    if_fits (over name_of (length old) (inserted e es))
    (insert_writes old (pack name_of (length old) es) e (pack name_of (length old) (inserted e es)))

abbrev pub insertion_on : List Block → RawEnt → Result (List RawEnt) DirFault → Option (List Move)
insertion_on old e (Ok es) = insertion_of old es (as_new es e)
insertion_on old e (Err fault) = None

-- the writes that enter e into a directory without a fault
abbrev pub insertion : List Block → RawEnt → Option (List Move)
insertion old e = insertion_on old e (directory old)

-- The writes of a removal: the left pass to the packing `left`, as above; the block of the entry without it; the packing
-- `rest` of the other entries, first block to last.
abbrev pub remove_writes : List Block → List (List RawEnt) → RawEnt → List (List RawEnt) → List Move
remove_writes old left e rest =
    rising 1 old (map block_of left)
    ++ record { vbn = suc (place e left); block = block_of (without e (slice_index_or left (place e left) [])) }
    ∷ rising 1 (map block_of (map (without e) left)) (map block_of rest)

-- an entry by name and version
abbrev pub key : List ℕ → ℕ → RawEnt
key name ver = record { name = name; ver = ver; num = 0; seq = 0; limit = 0; flags = 0 }

abbrev pub removal_of : List Block → List RawEnt → RawEnt → List Move
removal_of old es e = remove_writes old (pack name_of (length old) es) e (pack name_of (length old) (without e es))

abbrev pub removal_on : List Block → RawEnt → Result (List RawEnt) DirFault → List Move
removal_on old e (Ok es) = removal_of old es e
removal_on old e (Err fault) = []

-- the writes that take the entry of this name and version out of a directory without a fault
abbrev pub removal : List Block → List ℕ → ℕ → List Move
removal old name ver = removal_on old (key name ver) (directory old)

-- the blocks of a directory with its entries packed
abbrev pub packed_as : List Block → Result (List RawEnt) DirFault → List Block
packed_as old (Ok es) = map block_of (pack name_of (length old) es)
packed_as old (Err fault) = old

-- the writes that pack the entries of a directory into its blocks, first to last
abbrev pub repacking : List Block → List Move
repacking old = rising 1 old (packed_as old (directory old))

-- how many writes pack the entries, before one is removed
abbrev pub packing_writes : List Block → ℕ
packing_writes old = length (repacking old)

-- what is read, changed in the entries alone
abbrev pub on_entries : (List RawEnt → List RawEnt) → Result (List RawEnt) DirFault → Result (List RawEnt) DirFault
on_entries f (Ok es) = Ok (f es)
on_entries f (Err fault) = Err fault

-- each write is to a block of the directory, and changes it as it then stands
abbrev pub AreChanges : List Move → List Block → Type 0
AreChanges [] bs = Unit {0}
AreChanges (w ∷ ws) bs =
    ((1 ≤ w.vbn) × (w.vbn ≤ length bs) × (slice_get bs (w.vbn - 1) ≡ Some w.block → ⊥))
    × AreChanges ws (slice_set bs (w.vbn - 1) w.block)

-- The law of an insertion: the old entries are read after each number of the writes but all, and then the old ones and
-- the new one, which are packed. Where the records of each name agree in version limit and flags, these stay as they are.
pub record Inserts (old : List Block) (e : RawEnt) (ws : List Move) : Type 0 where
  pub before : (n : ℕ) → n < length ws → dir_entries (written (take n ws) old) ≡ dir_entries old
  pub after : dir_entries (written ws old) ≡ on_entries (inserted (plain e)) (dir_entries old)
  pub kept_before : IsUniform (all_entries old) → (n : ℕ) → n < length ws → directory (written (take n ws) old) ≡ directory old
  pub kept_after : IsUniform (all_entries old) → directory (written ws old) ≡ on_entries (λ es. inserted (as_new es e) es) (directory old)
  pub whole : written ws old ≡ packed_as old (on_entries (λ es. inserted (as_new es e) es) (directory old))
  pub changes : AreChanges ws old

-- The law of a removal, with the number of writes in front of the one that decides, which are those that pack the entries:
-- the old entries are read up to it, and from it on the rest, which all writes leave packed.
pub record Removes (old : List Block) (e : RawEnt) (ws : List Move) : Type 0 where
  pub first : ℕ
  pub packing : first ≡ packing_writes old
  pub decides : first < length ws
  pub before : (n : ℕ) → n ≤ first → dir_entries (written (take n ws) old) ≡ dir_entries old
  pub after : (n : ℕ) → first < n → dir_entries (written (take n ws) old) ≡ on_entries (without e) (dir_entries old)
  pub kept_before : IsUniform (all_entries old) → (n : ℕ) → n ≤ first → directory (written (take n ws) old) ≡ directory old
  pub kept_after : IsUniform (all_entries old) → (n : ℕ) → first < n → directory (written (take n ws) old) ≡ on_entries (without e) (directory old)
  pub whole : written ws old ≡ packed_as old (on_entries (without e) (directory old))
  pub changes : AreChanges ws old

-- The law of a packing: the same entries are read after each number of the writes, and all of them leave these packed.
-- Where the records of each name agree in version limit and flags, these stay as they are.
pub record Packs (old : List Block) (ws : List Move) : Type 0 where
  pub entries : (n : ℕ) → dir_entries (written (take n ws) old) ≡ dir_entries old
  pub kept : IsUniform (all_entries old) → (n : ℕ) → directory (written (take n ws) old) ≡ directory old
  pub whole : written ws old ≡ packed_as old (directory old)
  pub changes : AreChanges ws old
