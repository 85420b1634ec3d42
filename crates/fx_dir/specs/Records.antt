-- Directory records, and the entries that the records of a block hold. A record has its size (2 bytes, the bytes after
-- itself), the version limit (2), the flags (1), the length of the name (1), the name, which a zero byte makes even,
-- and its versions, 8 bytes each: the version (2), and the file identifier's number (2), sequence (2), relative volume
-- number (1) and the number's high byte (1).
use Rattle.std.specs.Prelude.{◌==◌, ◌+◌, ◌*◌, ◌-◌, ◌/◌, ◌%◌, ◌&&◌, ◌||◌, leb, ltb, Bool, ℕ, zero, suc, List, [], ◌∷◌, ◌++◌, Option, Some, None, option_map, option_and_then, length, take, drop, slice_index, if◌then◌else◌}
use Rattle.base_words.specs.Fields.{Block, field}
use Rattle.base_words.specs.Names.{is_name}
use Rattle.fx_dir.specs.declared.RawEnt.{RawEnt}
use Rattle.fx_dir.specs.Entries.{rises}

-- the bytes of the record that begins here
abbrev pub record_length : List ℕ → ℕ
record_length bytes = field bytes 0 2 + 2

-- those in front of its versions
abbrev pub head_length : List ℕ → ℕ
head_length bytes = 6 + (slice_index bytes 5 + slice_index bytes 5 % 2)

abbrev pub name_in : List ℕ → List ℕ
name_in bytes = take (slice_index bytes 5) (drop 6 bytes)

-- the word 65,535 ends the records of a block
unfoldable pub is_end : List ℕ → Bool
is_end bytes = field bytes 0 2 == 65535

-- the record leaves room for the word that ends a block, and has at least one version and no part of one
unfoldable pub is_whole : List ℕ → Bool
is_whole bytes =
    leb (record_length bytes + 2) (length bytes)
    && (ltb (head_length bytes) (record_length bytes) && ((record_length bytes - head_length bytes) % 8 == 0))

-- the name is a NAME.TYP, and the byte that makes it even is zero
unfoldable pub is_named : List ℕ → Bool
is_named bytes =
    is_name (name_in bytes)
    && ((slice_index bytes 5 % 2 == 0) || (slice_index bytes (6 + slice_index bytes 5) == 0))

-- a version of 1 to 32,767 on this volume
unfoldable pub is_version : List ℕ → Bool
is_version bytes = (slice_index bytes 6 == 0) && (leb 1 (field bytes 0 2) && leb (field bytes 0 2) 32767)

-- the entry of a version, whose record begins with head
unfoldable pub entry_in : List ℕ → List ℕ → RawEnt
entry_in head bytes = record {
  name = name_in head;
  ver = field bytes 0 2;
  num = field bytes 2 2 + 65536 * slice_index bytes 7;
  seq = field bytes 4 2;
  limit = field head 2 2;
  flags = slice_index head 4;
}

-- the entries of the n versions in these bytes, or none where one is bad
abbrev pub versions_in : List ℕ → ℕ → List ℕ → Option (List RawEnt)
versions_in head zero bytes = Some []
versions_in head (suc n) bytes =
    if is_version bytes then option_map (λ es. entry_in head bytes ∷ es) (versions_in head n (drop 8 bytes)) else None

-- the entries of the record that begins here, or none where there is no record
unfoldable pub record_entries : List ℕ → Option (List RawEnt)
record_entries bytes =
    if is_whole bytes && is_named bytes
    then versions_in bytes ((record_length bytes - head_length bytes) / 8) (drop (head_length bytes) bytes)
    else None

-- the entries of the records in these bytes as far as the word that ends them, which comes after less than n records
unfoldable pub records_in : ℕ → List ℕ → Option (List RawEnt)
records_in zero bytes = None
records_in (suc n) bytes =
    if is_end bytes then Some []
    else option_and_then (λ es. option_map (λ fs. es ++ fs) (records_in n (drop (record_length bytes) bytes))) (record_entries bytes)

abbrev pub if_rising : List RawEnt → Option (List RawEnt)
if_rising es = if rises es then Some es else None

-- the entries of a block, or none where it is not a list of records in order
unfoldable pub block_entries : Block → Option (List RawEnt)
block_entries b = option_and_then if_rising (records_in (length b) b)
