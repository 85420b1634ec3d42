-- What is known of a text that was written.
use Rattle.std.specs.Io.KnownBytes.{Appends}
use Rattle.fx_text.specs.Streams.{AppendsStart}
use Rattle.std.specs.Prelude.{List, Option, ◌⊎◌, ℕ}
use Rattle.base_words.specs.Faults.{Rose}

-- all of a text was written, or first bytes of it where the sink's count rose
abbrev pub IsWritten : Option (List ℕ) → Option (List ℕ) → ℕ → ℕ → List ℕ → Type 0
IsWritten old new before now text = Appends old new text ⊎ (Rose before now × AppendsStart old new text)
