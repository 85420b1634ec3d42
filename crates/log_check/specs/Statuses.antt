-- What the status of a check says of what came in, and what was written.
use Rattle.std.specs.Prelude.{◌≡◌, ◌<◌, ◌≤◌, ◌⊎◌, ◌++◌, ℕ, List, [], Option, IfSome, codes, decimal, length}
use Rattle.std.specs.Io.KnownBytes.{Appends}
use Rattle.base_words.specs.Fields.{Block}
use Rattle.base_words.specs.Faults.{Rose}
use Rattle.blk_drive.specs.Images.{IsInside, IsOutside}
use Rattle.fx_text.specs.Streams.{AppendsStart}
use Rattle.plain_texts.specs.Reports.{newline}
use Rattle.vol_parts.specs.Findings.{IsFirstFatal, Accepts}
use Rattle.vol_analyze.specs.Texts.{finding_text}
use Rattle.vol_analyze.specs.Judging.{IsFirstFound}
use Rattle.log_check.specs.Histories.{IsUnchecked, IsIllegal}
use Rattle.log_check.specs.declared.status.CheckStatus.{CheckStatus}
use Rattle.log_check.specs.declared.status.CheckStatus.TheVariants as status
use Rattle.log_check.specs.Checks.{LeadsFrom, LeadsTo, IsLegalOn, LeadsAstray}
use Rattle.fx_text.specs.Written.{IsWritten}

-- ---- texts

-- a text and a line number
abbrev pub numbered : List ℕ → ℕ → List ℕ
numbered front k = front ++ (decimal k ++ newline)

-- the text of a status, but of 6
unfoldable pub status_text : CheckStatus → List ℕ
status_text (status.Legal k) = codes "legal, " ++ (decimal k ++ (codes " entries" ++ newline))
status_text status.BadWords = codes "bad words" ++ newline
status_text status.LogFault = codes "script fault" ++ newline
status_text status.LogTooLong = codes "script too long" ++ newline
status_text status.ImageFault = codes "image fault" ++ newline
status_text (status.BadSize n) = numbered (codes "bad size ") n
status_text (status.NotAccepted f) = codes "not accepted: " ++ (finding_text f ++ newline)
status_text (status.NotMendable f) = codes "not mendable: " ++ (finding_text f ++ newline)
status_text (status.Unchecked k) = numbered (codes "unchecked at line ") k
status_text (status.Illegal k) = numbered (codes "illegal at line ") k
status_text status.EndDiffers = codes "end differs" ++ newline
status_text status.OutFault = []
status_text status.NoMemory = codes "no memory" ++ newline

-- ---- what came in

-- What a check finds: the words, the bytes of the report that are left, and of each image the size and the blocks, each where it
-- is told.
pub record Given : Type 0 where
  pub words : List (List ℕ)
  pub left : Option (List ℕ)
  pub size_before : ℕ
  pub before : Option (List Block)
  pub size_after : ℕ
  pub after : Option (List Block)

abbrev pub given : List (List ℕ) → Option (List ℕ) → ℕ → Option (List Block) → ℕ → Option (List Block) → Given
given words left size_before before size_after after =
    record { words = words; left = left; size_before = size_before; before = before; size_after = size_after; after = after }

-- there are no words, and the report is read
pub record IsRead (g : Given) : Type 0 where
  pub no_words : g.words ≡ []
  pub within : IfSome g.left (λ bytes. length bytes ≤ 16777216)

-- and both images are loaded
pub record AreLoaded (g : Given) : Type 0 where
  pub read : IsRead g
  pub inside_before : IsInside g.size_before
  pub inside_after : IsInside g.size_after

-- of the blocks before and after and of the report this is said, where all three are told
abbrev pub Told : Given → (List Block → List Block → List ℕ → Type 0) → Type 0
Told g P = IfSome g.before (λ bs. IfSome g.after (λ cs. IfSome g.left (P bs cs)))

-- one of the images has a wrong size, the one before first
abbrev pub IsWrongSize : Given → ℕ → Type 0
IsWrongSize g n = ((n ≡ g.size_before) × IsOutside g.size_before) ⊎ (IsInside g.size_before × (n ≡ g.size_after) × IsOutside g.size_after)

-- ---- when a status is due

-- The order is words, report read, images read and their sizes, acceptance of the volume before, the volume after, the lines of the
-- report, the catalogue to which they lead, and output. Of a fault its own condition is that its count rose.
abbrev pub IsCheckDue : Given → CheckStatus → Type 0
IsCheckDue g (status.Legal k) = AreLoaded g × Told g (λ bs cs text. IsLegalOn bs cs text k)
IsCheckDue g status.BadWords = g.words ≡ [] → ⊥
IsCheckDue g status.LogFault = g.words ≡ []
IsCheckDue g status.LogTooLong = (g.words ≡ []) × IfSome g.left (λ bytes. 16777216 < length bytes)
IsCheckDue g status.ImageFault = IsRead g
IsCheckDue g (status.BadSize n) = IsRead g × IsWrongSize g n
IsCheckDue g (status.NotAccepted f) = AreLoaded g × IfSome g.before (λ bs. IsFirstFound bs f)
IsCheckDue g (status.NotMendable f) = AreLoaded g × IfSome g.before (λ bs. IfSome g.after (λ cs. Accepts bs × IsFirstFatal cs f))
IsCheckDue g (status.Unchecked k) = AreLoaded g × Told g (λ bs cs text. LeadsFrom bs (λ c. LeadsTo cs (λ e. IsUnchecked k c text)))
IsCheckDue g (status.Illegal k) = AreLoaded g × Told g (λ bs cs text. LeadsFrom bs (λ c. LeadsTo cs (λ e. IsIllegal k c text)))
IsCheckDue g status.EndDiffers = AreLoaded g × Told g LeadsAstray
IsCheckDue g status.OutFault = (k : ℕ) × AreLoaded g × Told g (λ bs cs text. IsLegalOn bs cs text k)
IsCheckDue g status.NoMemory = Unit {0}

-- ---- why a check ends without a history

-- why a report was not read
abbrev pub IsTextEnd : Option (List ℕ) → ℕ → ℕ → CheckStatus → Type 0
IsTextEnd left before now status.LogFault = Rose before now
IsTextEnd left before now status.LogTooLong = IfSome left (λ bytes. 16777216 < length bytes)
IsTextEnd left before now status.NoMemory = Unit {0}
IsTextEnd left before now s = ⊥

-- why it ends before its output, where the images' counts of faults were these and are those
abbrev pub IsEnd : Given → (read reading had has had_after has_after : ℕ) → CheckStatus → Type 0
IsEnd g read reading had has had_after has_after (status.Legal k) = ⊥
IsEnd g read reading had has had_after has_after status.BadWords = ⊥
IsEnd g read reading had has had_after has_after status.OutFault = ⊥
IsEnd g read reading had has had_after has_after status.LogFault = (g.words ≡ []) × Rose read reading
IsEnd g read reading had has had_after has_after status.ImageFault = IsRead g × (Rose had has ⊎ Rose had_after has_after)
IsEnd g read reading had has had_after has_after s = IsCheckDue g s

-- With status 0 its text was written, with a fault of the sink first bytes of it, and else the text of the status.
abbrev pub Writes : Given → Option (List ℕ) → Option (List ℕ) → ℕ → ℕ → CheckStatus → Type 0
Writes g old new before now (status.Legal k) = Appends old new (status_text (status.Legal k))
Writes g old new before now status.OutFault = (k : ℕ) × IsCheckDue g (status.Legal k) × AppendsStart old new (status_text (status.Legal k))
Writes g old new before now s = IsWritten old new before now (status_text s)
