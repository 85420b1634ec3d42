-- A new file, and what makes sure that it can be written.
use Rattle.std.specs.Prelude.{◌≡◌, ◌≤◌, ◌+◌, ◌*◌, true, false, []}
use Rattle.base_words.specs.Names.{is_name}
use Rattle.plain_cat.specs.declared.cat.File.{File}
use Rattle.plain_rules.specs.Lookups.{versions, header_most}
use Rattle.plain_rules.specs.Directories.{is_taken}
use Rattle.vol_parts.specs.declared.geometry.Geometry.{Geometry}
use Rattle.op_law.specs.Entering.{NewEntry}
use Rattle.op_law.specs.Moving.{SeenDir, entries_of}
use Rattle.op_create.specs.declared.files.NewFile.{NewFile}

-- the file, with nothing in it
abbrev pub file_made : NewFile → File
file_made f = record {
  seq = f.seq;
  owner = f.owner;
  dir = f.dir;
  clusters = f.clusters;
  mark = f.mark;
  end = f.end;
  byte = 0;
  marked = false;
  written = [];
  entries = [];
}

-- with the name and version of its entry
abbrev pub entry_made : NewFile → NewEntry
entry_made f = record { name = f.name.now; ver = f.ver; file = file_made f }

-- its name and its sizes are within the limits of the format
pub record IsSound (g : Geometry) (f : NewFile) : Type 0 where
  pub name : is_name f.name.now ≡ true
  pub ver_from : 1 ≤ f.ver
  pub ver_to : f.ver ≤ 32767
  pub clusters : f.clusters ≤ header_most
  pub mark : f.mark ≤ g.cluster * f.clusters + 1
  pub end : f.end ≤ g.cluster * f.clusters + 1

-- the directory does not have its name and version yet, and its identifier is within the limits of the format
pub record IsNewIn (d : SeenDir) (f : NewFile) : Type 0 where
  pub parent : d.fid.num ≤ 16777215
  pub new : is_taken f.ver (versions f.name.now (entries_of d)) ≡ false
