-- What stands in a line of a report, and which entry a line is about.
use Rattle.std.specs.Prelude.{◌≡◌, ◌==◌, ◌+◌, ◌-◌, ◌<◌, ◌^◌, ◌++◌, ℕ, true, List, [], ◌∷◌, Option, Some, None, IfSome, codes, take, drop, length, if◌then◌else◌}
use Rattle.plain_cat.specs.declared.command.Cmd.{Cmd}
use Rattle.plain_cat.specs.declared.history.Stage.{Stage}
use Rattle.plain_cat.specs.declared.history.Mended.{Mended}
use Rattle.plain_cat.specs.InForm.{is_eighth}
use Rattle.plain_texts.specs.Commands.{command_text}
use Rattle.plain_texts.specs.Reports.{stage_text, leaks_text, mended_text, node_text}
use Rattle.run_script.specs.Steps.{part_of}
use Rattle.log_check.specs.declared.lines.Draft.{Draft}
use Rattle.log_check.specs.declared.lines.Draft.TheVariants as draft
use Rattle.log_check.specs.Drafts.{behind_first, death}
use Rattle.log_check.specs.Drafts.{short_of}
use Rattle.log_check.specs.Commands.{IsSpeaking, given}

-- what stands behind the number of a line, which the first space ends
unfoldable pub body_of : List ℕ → List ℕ
body_of text = behind_first 32 text

-- the words between the letter of a node and the space in front of the equals sign
unfoldable pub words_of : List ℕ → List ℕ
words_of body = take (length (drop 1 (part_of 61 0 body)) - 1) (drop 1 (part_of 61 0 body))

-- what stands behind the equals sign and its space
unfoldable pub reply_of : List ℕ → List ℕ
reply_of body = drop (length (part_of 61 0 body) + 2) body

-- the number behind an opening bracket
abbrev pub bracketed : List ℕ → Option ℕ
bracketed [] = None
bracketed (b ∷ bs) = if b == 40 then short_of bs else None

-- the number of the identifier with which a reply begins
unfoldable pub shown_of : List ℕ → Option ℕ
shown_of reply = bracketed (part_of 44 0 reply)

-- the text of an answer behind the number of its line, up to the reply
unfoldable pub asked_text : ℕ → Cmd → List ℕ
asked_text node c = node_text node ++ (command_text c ++ codes " = ")

-- the text of a death behind the number of its line
unfoldable pub died_text : ℕ → Stage → ℕ → ℕ → List ℕ
died_text node st clusters numbers = node_text node ++ (codes "died at " ++ (stage_text st ++ (codes ", leaked " ++ leaks_text clusters numbers)))

-- the counts of a mending have 32 bits
pub record AreShort (m : Mended) : Type 0 where
  pub entered : m.entered < 2 ^ 32
  pub removed : m.removed < 2 ^ 32
  pub gone : m.gone < 2 ^ 32
  pub clusters : m.clusters < 2 ^ 32
  pub numbers : m.numbers < 2 ^ 32

-- what a draft is about is in form
abbrev pub IsDraftInForm : Draft → Type 0
IsDraftInForm (draft.Answer g) = IsSpeaking g.node g.cmd
IsDraftInForm (draft.Death d) = is_eighth d.node ≡ true
IsDraftInForm (draft.Mending m) = Unit {0}

-- the line of an answer, of a death and of a mending is read as such
pub record IsDrafted (body : List ℕ) (read : Option Draft) : Type 0 where
  pub form : IfSome read IsDraftInForm
  pub answers : (node : ℕ) (c : Cmd) (rest : List ℕ) → IsSpeaking node c → body ≡ asked_text node c ++ rest → read ≡ Some (draft.Answer (given node c))
  pub deaths : (node : ℕ) (st : Stage) (clusters numbers : ℕ) (rest : List ℕ) → is_eighth node ≡ true → clusters < 2 ^ 32 → numbers < 2 ^ 32
      → body ≡ died_text node st clusters numbers ++ (10 ∷ rest) → read ≡ Some (draft.Death (death node st clusters numbers))
  pub mendings : (m : Mended) (rest : List ℕ) → AreShort m → body ≡ mended_text m ++ (10 ∷ rest) → read ≡ Some (draft.Mending m)
