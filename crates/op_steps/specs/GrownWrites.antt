-- The writes of the headers of a file that gets more clusters.
use Rattle.std.specs.Prelude.{◌≡◌, ◌≤◌, ◌<◌, ◌+◌, ◌++◌, ◌⊎◌, ℕ, false, List, [], ◌∷◌, Option, Some, None, option_map, is_some, map, length, IfSome}
use Rattle.base_words.specs.Fields.{Block}
use Rattle.base_words.specs.Lists.{Has}
use Rattle.fx_header.specs.declared.slot.Hdr.{Hdr}
use Rattle.fx_header.specs.Headers.{header_read}
use Rattle.lock_db.specs.declared.name.LockName.{LockName}
use Rattle.lock_db.specs.declared.name.LockName.TheVariants.{S}
use Rattle.plain_cat.specs.declared.history.Stage.{Stage}
use Rattle.plain_cat.specs.declared.history.Stage.TheVariants as stage
use Rattle.plain_cat.specs.declared.cat.Cat.{Cat}
use Rattle.plain_cat.specs.declared.cat.File.{File}
use Rattle.plain_rules.specs.Lookups.{header_most, file_most, needs_header}
use Rattle.plain_rules.specs.Changes.{with_file, grown}
use Rattle.vol_spell.specs.Files.{IsFileThere}
use Rattle.vol_spell.specs.Owners.{Owners, Things, nothing}
use Rattle.vol_spell.specs.Reading.{IsFileNumber, header_block}
use Rattle.vol_spell.specs.Spelling.{Spells}
use Rattle.vol_parts.specs.declared.geometry.Geometry.{Geometry}
use Rattle.vol_under.specs.Chains.{End}
use Rattle.vol_under.specs.UnderWay.{outs_after, stage_after}
use Rattle.op_law.specs.declared.need.PlanWrite.{PlanWrite}
use Rattle.op_law.specs.Entering.{slot_seq}
use Rattle.op_law.specs.Headers.{numbers_of, headers_grown}
use Rattle.op_law.specs.Laws.{planned, AreNamed, LeavesDirs, LeavesSlots}
use Rattle.op_law.specs.Fits.{things}
use Rattle.op_law.specs.Refusing.{SeenFile}
use Rattle.op_law.specs.Writing.{holding}
use Rattle.op_steps.specs.Chained.{Chain, StepsOf, StageOf, after_writes, StandsOn}
use Rattle.op_steps.specs.Files.{file_in}
use Rattle.op_steps.specs.SlotWrites.{AreHeadsWritten}

-- the number of a new header, if there is one
abbrev pub number_of : Option (ℕ × ℕ) → Option ℕ
number_of new = option_map (λ p. p.0) new

-- a number above those of the system files, and the sequence that its slot has
pub record IsNewSlot (g : Geometry) (bs : List Block) (new : ℕ × ℕ) : Type 0 where
  pub number : IsFileNumber g new.0
  pub above : 11 < new.0
  pub seq : slot_seq (header_read (header_block g bs new.0)) ≡ new.1

-- A file that is no directory can get these clusters: it has no more than a file may have then, they are no more than a header
-- lists, and there is a slot for a new header exactly where one is needed.
pub record CanGrow (g : Geometry) (bs : List Block) (f : File) (qs : List ℕ) (new : Option (ℕ × ℕ)) : Type 0 where
  pub flat : f.dir ≡ false
  pub file : f.clusters + length qs ≤ file_most
  pub most : length qs ≤ header_most
  pub needs : is_some new ≡ needs_header f.clusters (length qs)
  pub slot : IfSome new (IsNewSlot g bs)

-- the numbers of the file's headers, with that of the new one, if there is one
abbrev pub with_new : List ℕ → Option (ℕ × ℕ) → List ℕ
with_new ns None = ns
with_new ns (Some new) = ns ++ new.0 ∷ []

abbrev pub grown_numbers : Geometry → SeenFile → Option (ℕ × ℕ) → List ℕ
grown_numbers g f new = with_new (numbers_of g f) new

-- The writes are steps that take the clusters and the number into the file: all but the last leave the catalogue as it is. So are
-- the writes behind them that are steps on what they leave.
abbrev pub GrownSteps : End → Type 0
GrownSteps end = (k : Chain) (n : ℕ) (h : Hdr) (f : File) (qs : List ℕ) (new : Option (ℕ × ℕ)) (ws : List PlanWrite) (x : Cat) (bs : List Block) (own : Owners)
    → StandsOn k (holding qs (number_of new)) x bs own → IsFileThere k.geometry x bs n h f → CanGrow k.geometry bs f qs new → Has k.locks (S n)
    → StageOf k stage.Charged x → StageOf k stage.Done (with_file x n (grown x f (length qs)))
    → (let vs = headers_grown k.geometry (file_in k.geometry bs n h) qs new in
    (next : Owners) → AreHeadsWritten k (grown_numbers k.geometry (file_in k.geometry bs n h) new) nothing (with_file x n (grown x f (length qs))) bs (after_writes vs bs) next
    → StepsOf end k ws (after_writes vs bs) next)
    → StepsOf end k (headers_grown k.geometry (file_in k.geometry bs n h) qs new ++ ws) bs own

-- each is under the lock of its own number, which guards the slot
abbrev pub GrownGuards : Type 0
GrownGuards = (g : Geometry) (n : ℕ) (h : Hdr) (f : File) (qs : List ℕ) (new : Option (ℕ × ℕ)) (x : Cat) (bs : List Block) (own : Owners) (node : ℕ) (locks : List LockName)
    → Spells g bs own x → IsFileThere g x bs n h f → IfSome new (IsNewSlot g bs) → ((m : ℕ) → Has (grown_numbers g (file_in g bs n h) new) m → Has locks (S m))
    → AreNamed node locks g own (headers_grown g (file_in g bs n h) qs new)

-- they leave the runs of each directory, where the number of the new header is no file's
abbrev pub GrownLeaves : Type 0
GrownLeaves = (k : Chain) (n : ℕ) (h : Hdr) (f : File) (qs : List ℕ) (new : Option (ℕ × ℕ)) (x : Cat) (bs : List Block) (own : Owners)
    → StandsOn k (holding qs (number_of new)) x bs own → IsFileThere k.geometry x bs n h f → f.dir ≡ false → IfSome new (IsNewSlot k.geometry bs)
    → LeavesDirs k.geometry bs (headers_grown k.geometry (file_in k.geometry bs n h) qs new)

-- and each is to the slot of a number that is the file's, or was given
abbrev pub GrownFills : Type 0
GrownFills = (g : Geometry) (n : ℕ) (h : Hdr) (f : File) (qs : List ℕ) (new : Option (ℕ × ℕ)) (x : Cat) (bs : List Block) (own : Owners)
    → Spells g bs own x → IsFileThere g x bs n h f → IfSome new (IsNewSlot g bs)
    → LeavesSlots g own (things qs (number_of new)) (headers_grown g (file_in g bs n h) qs new)

-- what is outside behind each is what was given, or nothing
abbrev pub GrownKeepsOut : Type 0
GrownKeepsOut = (g : Geometry) (f : SeenFile) (qs : List ℕ) (new : Option (ℕ × ℕ)) (w : PlanWrite) → Has (headers_grown g f qs new) w → ((planned w).outs ≡ nothing) ⊎ ((planned w).outs ≡ things qs (number_of new))

-- and behind the last one nothing, at the last stage
abbrev pub GrownEnds : Type 0
GrownEnds = (g : Geometry) (f : SeenFile) (qs : List ℕ) (new : Option (ℕ × ℕ)) (s : Stage) (o : Things)
    → (outs_after o (map planned (headers_grown g f qs new)) ≡ nothing) × (stage_after s (map planned (headers_grown g f qs new)) ≡ stage.Done)
