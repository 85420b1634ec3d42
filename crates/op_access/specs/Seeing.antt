-- A marked file as a CLOSE has seen it.
use Rattle.std.specs.Prelude.{◌≡◌, ◌/◌, ℕ, true, List, [], ◌∷◌, Some}
use Rattle.base_words.specs.Fields.{Block}
use Rattle.fx_header.specs.declared.slot.Hdr.{Hdr}
use Rattle.plain_cat.specs.declared.mode.Mode.{Mode}
use Rattle.plain_rules.specs.Lookups.{extra}
use Rattle.vol_parts.specs.declared.geometry.Geometry.{Geometry}
use Rattle.vol_spell.specs.Reading.{fields_told}
use Rattle.op_law.specs.Channels.{close_plan}
use Rattle.op_law.specs.Events.{Events, Make}
use Rattle.op_law.specs.Freeing.{through_space, freeing_writes}
use Rattle.op_law.specs.Refusing.{SeenFile}
use Rattle.op_steps.specs.Chains.{AreHeaders}

-- If b is the header of a marked file of this sequence, then behind it the file's other headers were seen, or the first of them.
abbrev pub IsFollowed : Geometry → ℕ → Block → List (ℕ × Block) → Type 0
IsFollowed g seq b seen = (h : Hdr) → fields_told b ≡ Some h → h.seq ≡ seq → h.marked ≡ true → AreHeaders g (extra (h.blocks / g.cluster)) h b seen

-- so it is with the header that was seen first
abbrev pub HeadIsFollowed : Geometry → ℕ → List (ℕ × Block) → Type 0
HeadIsFollowed g seq [] = Unit {0}
HeadIsFollowed g seq (x ∷ seen) = IsFollowed g seq x.1 seen

-- what comes behind all headers of a file that goes
abbrev pub file_goes : Geometry → ℕ → Mode → SeenFile → Events
file_goes g chan m f = through_space g f (λ s. Make (close_plan f.num chan m (freeing_writes g f s)))
