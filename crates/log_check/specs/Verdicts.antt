-- Of all statuses one is due, but for faults and want of memory.
use Rattle.std.specs.Prelude.{◌≡◌, ℕ, Bool, true, false, List, Some, length}
use Rattle.base_words.specs.Fields.{Block, AreWholeBlocks}
use Rattle.log_check.specs.declared.status.CheckStatus.{CheckStatus}
use Rattle.log_check.specs.declared.status.CheckStatus.TheVariants as status
use Rattle.log_check.specs.Statuses.{given, IsCheckDue}

-- a status that speaks of what came in alone: no fault, and no want of memory
abbrev pub is_verdict : CheckStatus → Bool
is_verdict status.LogFault = false
is_verdict status.ImageFault = false
is_verdict status.OutFault = false
is_verdict status.NoMemory = false
is_verdict s = true

-- of words, a report and the blocks of two images that are told, no two such statuses are due
abbrev pub OneStatus : Type 0
OneStatus = (words : List (List ℕ)) (text : List ℕ) (bs : List Block) (size_after : ℕ) (cs : List Block) → AreWholeBlocks bs → (s t : CheckStatus) → is_verdict s ≡ true → is_verdict t ≡ true
    → IsCheckDue (given words (Some text) (length bs) (Some bs) size_after (Some cs)) s → IsCheckDue (given words (Some text) (length bs) (Some bs) size_after (Some cs)) t → s ≡ t

-- and one is due
abbrev pub SomeStatus : Type 0
SomeStatus = (words : List (List ℕ)) (text : List ℕ) (bs : List Block) (size_after : ℕ) (cs : List Block) → AreWholeBlocks bs
    → (s : CheckStatus) × (is_verdict s ≡ true) × IsCheckDue (given words (Some text) (length bs) (Some bs) size_after (Some cs)) s
