-- Bytes that were noted.
use Rattle.std.specs.Prelude.{ℕ, List, Option, option_map}
use Rattle.std.specs.Option.{option_or}
use Rattle.blk_files.specs.declared.notes.Notes.{Notes}

-- the bytes, if there are notes
abbrev pub bytes_noted : Option Notes → Option (List ℕ)
bytes_noted notes = option_map (λ n. n.bytes) notes

-- the bytes that a file tells, or else those that were noted
abbrev pub bytes_known : Option (List ℕ) → Option Notes → Option (List ℕ)
bytes_known told notes = option_or told (bytes_noted notes)
