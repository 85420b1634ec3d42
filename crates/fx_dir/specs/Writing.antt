-- The block of entries in order: what is written where records are read.
use Rattle.std.specs.Prelude.{◌≡◌, ◌+◌, ◌-◌, ◌*◌, ◌/◌, ◌%◌, ◌^◌, ◌<◌, ◌≤◌, Bool, true, false, ℕ, suc, List, [], ◌∷◌, ◌++◌, Option, Some, None, option_map, length, slice_get, map, replicate, if◌then◌else◌}
use Rattle.std.specs.List.{prefix_len}
use Rattle.std.specs.Str.{bytes_eq}
use Rattle.byteorder.specs.Endian.{little_bytes}
use Rattle.base_words.specs.Fields.{Block}
use Rattle.base_words.specs.Names.{is_name}
use Rattle.base_words.specs.Packing.{padded, pack, over}
use Rattle.fx_dir.specs.declared.RawEnt.{RawEnt}
use Rattle.fx_dir.specs.Lists.{In}

-- an entry within the limits of the format
pub record IsInForm (e : RawEnt) : Type 0 where
  pub named : is_name e.name ≡ true
  pub from_one : 1 ≤ e.ver
  pub to_last : e.ver ≤ 32767
  pub numbered : e.num ≤ 16777215

-- the other numbers of an entry are those of their types
pub record IsRanged (e : RawEnt) : Type 0 where
  pub seq : e.seq < 2 ^ 16
  pub limit : e.limit < 2 ^ 16
  pub flags : e.flags < 2 ^ 8

-- the records of one name agree in version limit and flags
abbrev pub IsUniform : List RawEnt → Type 0
IsUniform es = (a b : RawEnt) → In es a → In es b → a.name ≡ b.name → (a.limit ≡ b.limit) × (a.flags ≡ b.flags)

abbrev pub name_of : RawEnt → List ℕ
name_of e = e.name

-- what a record has in front of its n versions, where its first entry is e
unfoldable pub head_bytes : RawEnt → ℕ → List ℕ
head_bytes e n =
    little_bytes 2 (4 + padded e.name + 8 * n)
    ++ (little_bytes 2 e.limit ++ (e.flags ∷ length e.name ∷ (e.name ++ replicate (length e.name % 2) 0)))

-- a version and its file identifier
unfoldable pub version_bytes : RawEnt → List ℕ
version_bytes e =
    little_bytes 2 e.ver ++ (little_bytes 2 (e.num % 65536) ++ (little_bytes 2 e.seq ++ (0 ∷ e.num / 65536 ∷ [])))

-- the entry goes into the record in front of it, which has the name `last`
unfoldable pub goes_on : Option (List ℕ) → RawEnt → Bool
goes_on None e = false
goes_on (Some last) e = bytes_eq last e.name

-- the name of the last of these
abbrev pub last_name : List RawEnt → Option (List ℕ)
last_name es = option_map name_of (slice_get es (length es - 1))

-- how many entries go on with this name
abbrev pub following : List ℕ → List RawEnt → ℕ
following name es = prefix_len (λ e. bytes_eq name e.name) es

-- the records of entries in order, behind a record of the name `last`
abbrev pub record_bytes : Option (List ℕ) → List RawEnt → List ℕ
record_bytes last [] = []
record_bytes last (e ∷ es) =
    (if goes_on last e then [] else head_bytes e (suc (following e.name es)))
    ++ (version_bytes e ++ record_bytes (Some e.name) es)

-- the block of entries in order: their records, the word that ends them, zeros
unfoldable pub block_of : List RawEnt → Block
block_of es = record_bytes None es ++ (255 ∷ 255 ∷ replicate (510 - length (record_bytes None es)) 0)

-- the entry in a record whose first entry is f
abbrev pub under : RawEnt → RawEnt → RawEnt
under f e = record e { limit = f.limit; flags = f.flags }

-- What is read of the block of entries: a record takes the version limit and the flags of its first entry, which is f
-- in the record in front.
abbrev pub marked : Option RawEnt → List RawEnt → List RawEnt
marked None [] = []
marked None (e ∷ es) = e ∷ marked (Some e) es
marked (Some f) [] = []
marked (Some f) (e ∷ es) = if bytes_eq f.name e.name then under f e ∷ marked (Some f) es else e ∷ marked (Some e) es

-- it, where no entries are left over
abbrev pub if_fits : {X : Type 0} → List RawEnt → X → Option X
if_fits [] x = Some x
if_fits (e ∷ es) x = None

-- the entries packed into k blocks, or none where they need more
abbrev pub packed : ℕ → List RawEnt → Option (List Block)
packed k es = if_fits (over name_of k es) (map block_of (pack name_of k es))
