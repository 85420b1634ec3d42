-- What the judge says of a line, and of a report.
use Rattle.std.specs.Prelude.{◌≡◌, ◌==◌, ◌&&◌, ◌≤◌, ◌<◌, ◌++◌, ◌⊎◌, ℕ, Bool, false, List, [], ◌∷◌, Option, Some, drop, length, decimal, cond}
use Rattle.plain_cat.specs.Spared.{Spared}
use Rattle.plain_cat.specs.declared.command.Cmd.{Cmd}
use Rattle.plain_cat.specs.declared.reply.Reply.{Reply}
use Rattle.plain_cat.specs.declared.history.Stage.{Stage}
use Rattle.plain_cat.specs.declared.history.Entry.{Entry}
use Rattle.plain_cat.specs.declared.history.Entry.TheVariants.{Done, Died}
use Rattle.plain_cat.specs.declared.cat.Cat.{Cat}
use Rattle.plain_texts.specs.Reports.{line_text}
use Rattle.plain_texts.specs.Replies.{reply_text}
use Rattle.plain_rules.specs.Accounts.{Accounted}
use Rattle.plain_rules.specs.Answers.{IsPick, takes_space}
use Rattle.plain_rules.specs.Checks.{shown_number, is_quiet, IsLegal}
use Rattle.log_check.specs.declared.drafts.Death.{Death}
use Rattle.log_check.specs.Lines.{died_text}
use Rattle.log_check.specs.declared.steps.Step.{Step}
use Rattle.log_check.specs.declared.steps.Step.TheVariants as step
use Rattle.log_check.specs.declared.judging.Verdict.{Verdict}
use Rattle.log_check.specs.declared.judging.Verdict.TheVariants as verdict
use Rattle.log_check.specs.Histories.{Follows, is_answer, is_death, HasNext, IsUntold, IsReport, IsUnchecked, IsIllegal}

-- the first bytes of a text are the line of an entry that follows
pub record IsNext (i : ℕ) (c : Cat) (text : List ℕ) (d : Cat) (used : ℕ) (answered died : Bool) : Type 0 where
  pub entry : Entry
  pub follows : Follows c entry d
  pub split : text ≡ line_text i entry ++ drop used text
  pub some : 0 < used
  pub within : used ≤ length text
  pub answer : is_answer entry ≡ answered
  pub death : is_death entry ≡ died
  pub accounted : Accounted d

-- a text begins with a line
abbrev pub BeginsWith : List ℕ → List ℕ → Type 0
BeginsWith text line = (rest : List ℕ) × (text ≡ line ++ rest)

-- what is said of a line that is about this entry alone
abbrev pub IsEntryStep : ℕ → Cat → List ℕ → Entry → Step → Type 0
IsEntryStep i c text e (step.Next d used answered died) = IsNext i c text d used answered died
IsEntryStep i c text e step.Untold = ⊥
IsEntryStep i c text e step.Stop = (d : Cat) → IsLegal c e d → BeginsWith text (line_text i e) → ⊥

-- of one that is about the answer of this command, whatever the reply
abbrev pub IsAnswerStep : ℕ → Cat → List ℕ → ℕ → Cmd → Step → Type 0
IsAnswerStep i c text node cmd (step.Next d used answered died) = IsNext i c text d used answered died
IsAnswerStep i c text node cmd step.Untold = ⊥
IsAnswerStep i c text node cmd step.Stop = (r : Reply) (d : Cat) → IsLegal c (Done node cmd r) d → BeginsWith text (line_text i (Done node cmd r)) → ⊥

-- a line tells this death whole
abbrev pub is_told : Death → Bool
is_told d = is_quiet d.stage && (d.numbers == 0)

-- the line of a death
abbrev pub death_text : ℕ → ℕ → Stage → ℕ → ℕ → List ℕ
death_text i node st clusters numbers = decimal i ++ (32 ∷ (died_text node st clusters numbers ++ (10 ∷ [])))

-- no legal death is told so, and no death of which the line tells too little
pub record IsNoDeath (i : ℕ) (c : Cat) (text : List ℕ) (death : Death) : Type 0 where
  pub no_legal : (ns : Spared ℕ) (d : Cat) → death.numbers ≡ 0 → ns.items ≡ [] → IsLegal c (Died death.node death.stage death.clusters ns) d
      → BeginsWith text (line_text i (Died death.node death.stage death.clusters ns)) → ⊥
  pub no_untold : (is_quiet death.stage ≡ false) ⊎ (0 < death.numbers) → BeginsWith text (death_text i death.node death.stage death.clusters death.numbers) → ⊥

-- of one that is about this death
abbrev pub IsDeathStep : ℕ → Cat → List ℕ → Death → Step → Type 0
IsDeathStep i c text death (step.Next d used answered died) = IsNext i c text d used answered died
IsDeathStep i c text death step.Untold = IsUntold i text
IsDeathStep i c text death step.Stop = IsNoDeath i c text death

-- the number that a command takes is right for each reply that the text may have; one that takes none is answered without
abbrev pub IsChosen : Cat → Cmd → List ℕ → Option ℕ → Type 0
IsChosen c x text new = (takes_space x ≡ false) ⊎ (IsPick c new × (
    (r : Reply) (n : ℕ) (rest : List ℕ) → text ≡ reply_text r ++ (10 ∷ rest) → shown_number r ≡ Some n → IsPick c (Some n) → new ≡ Some n))

-- what is said of line i
abbrev pub IsStep : ℕ → Cat → List ℕ → Step → Type 0
IsStep i c text (step.Next d used answered died) = IsNext i c text d used answered died
IsStep i c text step.Untold = IsUntold i text
IsStep i c text step.Stop = (HasNext i c text → ⊥) × (IsUntold i text → ⊥)

-- what is said of a report
abbrev pub IsVerdict : Cat → List ℕ → Verdict → Type 0
IsVerdict c text (verdict.Legal k d) = IsReport k c text d
IsVerdict c text (verdict.Unchecked k) = IsUnchecked k c text
IsVerdict c text (verdict.Illegal k) = IsIllegal k c text

-- a text begins as the last line of a report does
abbrev pub is_at_end : List ℕ → Bool
is_at_end [] = false
is_at_end (b ∷ bs) = b == 101

-- 1 where something is so
abbrev pub one_if : Bool → ℕ
one_if b = cond b 1 0
