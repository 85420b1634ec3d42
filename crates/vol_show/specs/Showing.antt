-- Which catalogue is shown of a volume, sound or damaged, and the bytes of a file in it.
use Rattle.std.specs.Prelude.{◌⊎◌, ◌*◌, min, ℕ, Bool, false, not, List, Option, Some, None, Result, Ok, Err, if◌then◌else◌}
use Rattle.base_words.specs.Fields.{Block}
use Rattle.plain_cat.specs.declared.ids.Fid.{Fid}
use Rattle.plain_cat.specs.declared.cat.Cat.{Cat}
use Rattle.plain_cat.specs.declared.cat.File.{File}
use Rattle.plain_rules.specs.Lookups.{in_use}
use Rattle.vol_parts.specs.declared.finding.Finding.{Finding}
use Rattle.vol_parts.specs.Findings.{IsFatal, CatOf}
use Rattle.vol_sound.specs.Beyond.{IsFirstBeyond}
use Rattle.vol_records.specs.Streams.{end_at, stream_at}
use Rattle.vol_repair.specs.Patching.{IsPatchedCat}

-- a fatal finding holds of the blocks, none that is beyond repair, and the catalogue is the one that a repair mends
pub record IsSalvaged (bs : List Block) (c : Cat) : Type 0 where
  pub finding : Finding
  pub fatal : IsFatal bs finding
  pub patched : IsPatchedCat bs c

-- The catalogue that is shown of a volume: its own, if no fatal finding holds, and else the one that a repair mends.
abbrev pub Shows : List Block → Cat → Type 0
Shows bs c = CatOf bs c ⊎ IsSalvaged bs c

-- what is shown: a catalogue, or the first finding beyond repair
abbrev pub IsShown : List Block → Result Cat Finding → Type 0
IsShown bs (Ok c) = Shows bs c
IsShown bs (Err f) = IsFirstBeyond bs f

-- what is patched: a catalogue, or the first finding beyond repair
abbrev pub IsPatchedOrBeyond : List Block → Result Cat Finding → Type 0
IsPatchedOrBeyond bs (Ok c) = IsPatchedCat bs c
IsPatchedOrBeyond bs (Err f) = IsFirstBeyond bs f

-- a file that is no directory
abbrev pub is_plain : Option File → Bool
is_plain None = false
is_plain (Some f) = not f.dir

-- The bytes of the file under an identifier, where the catalogue has it and it is no directory: they come from the blocks as they are.
abbrev pub held : List Block → Cat → Fid → Option (List ℕ)
held bs c fid = if is_plain (in_use c fid) then stream_at bs fid.num fid.seq else None

-- the blocks of a file
abbrev pub blocks_of : Cat → File → ℕ
blocks_of c f = f.clusters * c.factor

-- how many bytes a file has: to its end, and no more than its blocks hold
unfoldable pub size_of : Cat → File → ℕ
size_of c f = min (end_at f.end f.byte) (512 * blocks_of c f)
