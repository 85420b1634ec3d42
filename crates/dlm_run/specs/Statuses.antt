-- How a run ends, and what is written.
use Rattle.std.specs.Prelude.{◌≡◌, ◌<◌, ◌≤◌, ◌++◌, ℕ, Bool, List, [], ◌∷◌, Option, IfSome, Ok, Err, codes, decimal, length, take}
use Rattle.std.specs.Io.KnownBytes.{Appends}
use Rattle.base_words.specs.Faults.{Rose}
use Rattle.fx_text.specs.Streams.{AppendsStart}
use Rattle.plain_texts.specs.Reports.{newline}
use Rattle.dlm_core.specs.declared.rules.BlockRule.TheVariants.{OfAll}
use Rattle.dlm_core.specs.States.{start}
use Rattle.dlm_core.specs.Lanes.{BeliefsGoTogether}
use Rattle.plain_cat.specs.declared.mode.Mode.{Mode}
use Rattle.lock_db.specs.declared.name.LockName.{LockName}
use Rattle.lock_db.specs.declared.name.Owner.{Owner}
use Rattle.dlm_core.specs.declared.events.Event.{Event}
use Rattle.dlm_core.specs.declared.events.Told.TheVariants as told
use Rattle.dlm_core.specs.Events.{after, told_of}
use Rattle.dlm_core.specs.Answers.{IsAnswered}
use Rattle.dlm_core.specs.Runs.{after_all, GoesByCalls, TellsTruly}
use Rattle.dlm_run.specs.Plays.{Play}
use Rattle.dlm_run.specs.declared.script.Fault.TheVariants.{BadLine, TooMany}
use Rattle.dlm_run.specs.declared.status.DlmStatus.{DlmStatus}
use Rattle.dlm_run.specs.declared.status.DlmStatus.TheVariants as status
use Rattle.dlm_run.specs.Reading.{script_of}
use Rattle.dlm_run.specs.declared.reading.ReadFault.{ReadFault}
use Rattle.dlm_run.specs.declared.reading.ReadFault.TheVariants as read_fault
use Rattle.fx_text.specs.declared.whole.TextFault.{TextFault}
use Rattle.fx_text.specs.declared.whole.TextFault.TheVariants as text_fault
use Rattle.dlm_run.specs.Printing.{run_text}
use Rattle.fx_text.specs.Written.{IsWritten}

-- the text of a status other than 0 and 6
unfoldable pub status_text : DlmStatus → List ℕ
status_text status.Ok = []
status_text status.ScriptFault = codes "script fault" ++ newline
status_text status.ScriptTooLong = codes "script too long" ++ newline
status_text (status.BadScript n) = codes "bad line " ++ (decimal n ++ newline)
status_text status.TooMany = codes "too many" ++ newline
status_text status.OutFault = []
status_text status.NoMemory = codes "no memory" ++ newline

-- the number of a status
abbrev pub status_code : DlmStatus → ℕ
status_code status.Ok = 0
status_code status.ScriptFault = 2
status_code status.ScriptTooLong = 2
status_code (status.BadScript n) = 3
status_code status.TooMany = 3
status_code status.OutFault = 6
status_code status.NoMemory = 7

-- What holds of the events of a script, played one after the other. What two owners believe of one name goes together after each of
-- them. Each of their answers is true. At each of them the tables go by calls of the lock manager. Each grant that one of them tells of
-- was given by an earlier one.
pub record KeepsTheRules (s : Play) : Type 0 where
  pub safe : (i : ℕ) → BeliefsGoTogether (after_all (start OfAll s.nodes) (take i s.events))
  pub answers : (done later : List Event) (e : Event) → s.events ≡ done ++ (e ∷ later) → IsAnswered e (after_all (start OfAll s.nodes) done) (after e (after_all (start OfAll s.nodes) done)) (told_of e (after_all (start OfAll s.nodes) done))
  pub calls : (done later : List Event) (e : Event) → s.events ≡ done ++ (e ∷ later) → GoesByCalls e (after_all (start OfAll s.nodes) done) (after e (after_all (start OfAll s.nodes) done))
  pub grants : (done later : List Event) (e : Event) (owner : Owner) (name : LockName) (mode : Mode) (value : List ℕ) (valid : Bool) → s.events ≡ done ++ (e ∷ later)
      → told_of e (after_all (start OfAll s.nodes) done) ≡ told.Granted owner name mode value valid → TellsTruly (start OfAll s.nodes) done e owner name mode value valid

-- these bytes are a script, and this is said of it
abbrev pub IsPlayed : List ℕ → (Play → Type 0) → Type 0
IsPlayed bytes P = (p : Play) × (script_of bytes ≡ Ok p) × P p

-- of the script's bytes this is said, where they are told
abbrev pub IsScript : Option (List ℕ) → (Play → Type 0) → Type 0
IsScript left P = IfSome left (λ bytes. (length bytes ≤ 1048576) × IsPlayed bytes P)

-- the status of a script that is not read
abbrev pub fault_status : ReadFault → DlmStatus
fault_status (read_fault.Bad (BadLine n)) = status.BadScript n
fault_status (read_fault.Bad TooMany) = status.TooMany
fault_status read_fault.NoMemory = status.NoMemory

abbrev pub text_status : TextFault → DlmStatus
text_status text_fault.ReadFault = status.ScriptFault
text_status text_fault.TooLong = status.ScriptTooLong
text_status text_fault.NoMemory = status.NoMemory

-- why these bytes are not played
abbrev pub IsRefused : List ℕ → DlmStatus → Type 0
IsRefused bytes (status.BadScript n) = script_of bytes ≡ Err (BadLine n)
IsRefused bytes status.TooMany = script_of bytes ≡ Err TooMany
IsRefused bytes status.NoMemory = Unit {0}
IsRefused bytes s = ⊥

-- when a status is due, by what was left of the script
abbrev pub IsDue : Option (List ℕ) → DlmStatus → Type 0
IsDue left status.Ok = IsScript left KeepsTheRules
IsDue left status.ScriptFault = Unit {0}
IsDue left status.ScriptTooLong = IfSome left (λ bytes. 1048576 < length bytes)
IsDue left (status.BadScript n) = IfSome left (λ bytes. (length bytes ≤ 1048576) × (script_of bytes ≡ Err (BadLine n)))
IsDue left status.TooMany = IfSome left (λ bytes. (length bytes ≤ 1048576) × (script_of bytes ≡ Err TooMany))
IsDue left status.OutFault = IsScript left KeepsTheRules
IsDue left status.NoMemory = Unit {0}

-- why a run ends before its output
abbrev pub IsEnd : Option (List ℕ) → ℕ → ℕ → DlmStatus → Type 0
IsEnd left before now status.Ok = ⊥
IsEnd left before now status.OutFault = ⊥
IsEnd left before now status.ScriptFault = Rose before now
IsEnd left before now s = IsDue left s

-- how the lines of the events were written
abbrev pub IsTold : Option (List ℕ) → Option (List ℕ) → ℕ → ℕ → List ℕ → DlmStatus → Type 0
IsTold old new before now text status.Ok = Appends old new text
IsTold old new before now text status.OutFault = Rose before now × AppendsStart old new text
IsTold old new before now text s = ⊥

-- With status 0 the lines of the events were written, with a fault of the sink first bytes of them, and else the text of the status.
abbrev pub Writes : Option (List ℕ) → Option (List ℕ) → Option (List ℕ) → ℕ → ℕ → DlmStatus → Type 0
Writes left old new before now status.Ok = IsScript left (λ p. Appends old new (run_text p))
Writes left old new before now status.OutFault = IsScript left (λ p. AppendsStart old new (run_text p))
Writes left old new before now s = IsWritten old new before now (status_text s)
