-- A file in use as a command has seen it.
use Rattle.std.specs.Prelude.{◌≡◌, ◌≤◌, ℕ, List, [], Some, All}
use Rattle.base_words.specs.Fields.{Block}
use Rattle.fx_header.specs.declared.run.Run.{Run}
use Rattle.vol_parts.specs.declared.geometry.Geometry.{Geometry}
use Rattle.vol_parts.specs.Catalogues.{file_of}
use Rattle.vol_spell.specs.Reading.{fields_told}
use Rattle.op_law.specs.Refusing.{SeenFile}
use Rattle.op_law.specs.SeenFiles.{runs_by}
use Rattle.op_law.specs.Readable.{EndsInside}
use Rattle.op_steps.specs.declared.seeing.FileSeen.{FileSeen}

-- the file as the row of events has it
abbrev pub file_seen : Geometry → FileSeen → SeenFile
file_seen g f = record { num = f.num; head = f.head.now; rest = f.rest.now; blocks = f.fields.blocks; file = file_of g.cluster f.num f.fields [] }

-- its runs
abbrev pub file_runs : FileSeen → List Run
file_runs f = runs_by f.fields.blocks f.head.now f.rest.now

-- Its fields are those that its first header tells. Its runs, as far as its headers were seen, end at or before LBN 65,536, and it has
-- at most so many blocks.
pub record IsReadable (f : FileSeen) : Type 0 where
  pub reads : fields_told f.head.now ≡ Some f.fields
  pub inside : All EndsInside (file_runs f)
  pub few : f.fields.blocks ≤ 65536

-- so it is, it has this number, and its first header, which is this block, alone was seen
pub record IsReadableAs (n : ℕ) (b : Block) (f : FileSeen) : Type 0 where
  pub number : f.num ≡ n
  pub head : f.head.now ≡ b
  pub alone : f.rest.now ≡ []
  pub readable : IsReadable f
