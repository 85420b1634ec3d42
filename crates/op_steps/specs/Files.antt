-- A file that is there, as the blocks have it.
use Rattle.std.specs.Prelude.{ℕ, List}
use Rattle.base_words.specs.Fields.{Block}
use Rattle.fx_header.specs.declared.slot.Hdr.{Hdr}
use Rattle.vol_parts.specs.declared.geometry.Geometry.{Geometry}
use Rattle.op_law.specs.Headers.{whole_file}
use Rattle.op_law.specs.Refusing.{SeenFile}

-- the file of number n as a command that has seen all of its headers sees it on these blocks, where its first header has these fields
abbrev pub file_in : Geometry → List Block → ℕ → Hdr → SeenFile
file_in g bs n h = whole_file g bs n h
