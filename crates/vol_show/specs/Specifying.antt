-- How a file is specified, and which file of a catalogue that is.
use Rattle.std.specs.Prelude.{◌==◌, ◌&&◌, ◌-◌, not, ℕ, zero, suc, Bool, List, [], ◌∷◌, Option, Some, None, option_map, option_and_then, length, leb, map, codes, if◌then◌else◌}
use Rattle.std.specs.List.{list_all}
use Rattle.std.specs.Str.{bytes_eq}
use Rattle.base_words.specs.Names.{is_part, is_name}
use Rattle.plain_cat.specs.declared.ids.Fid.{Fid}
use Rattle.plain_cat.specs.declared.cat.Cat.{Cat}
use Rattle.plain_cat.specs.declared.cat.File.{File}
use Rattle.plain_cat.specs.declared.entries.DirEnt.{DirEnt}
use Rattle.plain_cat.specs.Names.{main_dir}
use Rattle.plain_rules.specs.Answers.{dir_name}
use Rattle.plain_rules.specs.Lookups.{in_use, versions, entry_of}
use Rattle.run_script.specs.Lines.{parts}
use Rattle.run_script.specs.Steps.{with1, with2, part_of, number_of}
use Rattle.vol_show.specs.declared.spec.Dir.{Dir}
use Rattle.vol_show.specs.declared.spec.Dir.TheVariants.{Number, Way}
use Rattle.vol_show.specs.declared.spec.Named.{Named}
use Rattle.vol_show.specs.declared.spec.Spec.{Spec}
use Rattle.vol_show.specs.declared.spec.Spec.TheVariants.{Id, Entry}
use Rattle.vol_show.specs.declared.spec.Target.{Target}
use Rattle.vol_show.specs.declared.spec.Target.TheVariants.{Found, NoSuchDirectory, NoSuchFile}

-- ---- the text

-- small letters count as capitals
abbrev pub capital : ℕ → ℕ
capital b = if leb 97 b && leb b 122 then b - 32 else b

-- number, sequence and a zero, with commas between them
unfoldable pub id_of : List ℕ → Option Fid
id_of text = if length (parts 44 text) == 3 && bytes_eq (part_of 44 2 text) (codes "0")
    then with2 (number_of 10 0 16777215 (part_of 44 0 text)) (number_of 10 0 65535 (part_of 44 1 text)) (λ num seq. record { num = num; seq = seq })
    else None

-- a word of a way
unfoldable pub is_word : List ℕ → Bool
is_word word = not (length word == 0) && is_part word

-- a way has at most eight words, with full stops between them
unfoldable pub is_way : List ℕ → Bool
is_way text = leb (length (parts 46 text)) 8 && list_all is_word (parts 46 text)

-- what stands between the brackets: a way, or an identifier
unfoldable pub dir_of : List ℕ → Option Dir
dir_of text = if is_way text then Some (Way text) else with1 (id_of text) Number

-- the version behind a semicolon, and 0 where none is
unfoldable pub version_of : List ℕ → Option ℕ
version_of text = if length (parts 59 text) == 1 then Some 0 else (if length (parts 59 text) == 2 then number_of 10 0 32767 (part_of 59 1 text) else None)

-- an entry of a directory, by its name and its version
unfoldable pub named : Dir → List ℕ → Option Named
named dir text = if is_name (part_of 59 0 text) then with1 (version_of text) (λ ver. record { dir = dir; name = part_of 59 0 text; ver = ver }) else None

abbrev pub in_dir : Option Dir → List ℕ → Option Named
in_dir None text = None
in_dir (Some dir) text = named dir text

-- what stands behind a bracket
unfoldable pub bracketed : List ℕ → Option Named
bracketed rest = if length (parts 93 rest) == 2 then in_dir (dir_of (part_of 93 0 rest)) (part_of 93 1 rest) else None

-- what stands behind a parenthesis
unfoldable pub enclosed : List ℕ → Option Fid
enclosed rest = if length (parts 41 rest) == 2 && length (part_of 41 1 rest) == 0 then id_of (part_of 41 0 rest) else None

-- The specification that a text of capitals is: an identifier, or an entry. Without brackets its directory is the main one.
abbrev pub spec_in : List ℕ → Option Spec
spec_in [] = None
spec_in (b ∷ rest) =
    if b == 40 then with1 (enclosed rest) Id else (if b == 91 then with1 (bracketed rest) Entry else with1 (named (Number main_dir) (b ∷ rest)) Entry)

-- the specification that a text is
unfoldable pub spec_of : List ℕ → Option Spec
spec_of text = spec_in (map capital text)

-- ---- the file

-- the entries of a directory
abbrev pub entries_of : Option File → Option (List DirEnt)
entries_of None = None
entries_of (Some f) = if f.dir then Some f.entries else None

-- the directory under a word in a directory, WORD.DIR;1
abbrev pub below : List ℕ → Option (List DirEnt) → Option Fid
below word None = None
below word (Some es) = option_map (λ e. e.fid) (entry_of (versions (dir_name word) es) 1)

-- what the first so many words of a way lead to
unfoldable pub down : Cat → List ℕ → ℕ → Option Fid
down c way zero = Some main_dir
down c way (suc k) = option_and_then (λ fid. below (part_of 46 k way) (entries_of (in_use c fid))) (down c way k)

abbrev pub dir_at : Cat → Dir → Option Fid
dir_at c (Number fid) = Some fid
dir_at c (Way way) = down c way (length (parts 46 way))

-- the entries of the directory of a specification, where it is in use
unfoldable pub listed : Cat → Dir → Option (List DirEnt)
listed c dir = option_and_then (λ fid. entries_of (in_use c fid)) (dir_at c dir)

abbrev pub or_no_file : Option DirEnt → Target
or_no_file None = NoSuchFile
or_no_file (Some e) = Found e.fid

abbrev pub target_in : List ℕ → ℕ → Option (List DirEnt) → Target
target_in name ver None = NoSuchDirectory
target_in name ver (Some es) = or_no_file (entry_of (versions name es) ver)

-- The identifier that a specification means, or why there is none. Of an entry it is what the entry names, in use or not.
abbrev pub target : Cat → Spec → Target
target c (Id fid) = Found fid
target c (Entry n) = target_in n.name n.ver (listed c n.dir)
