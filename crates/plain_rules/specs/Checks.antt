-- The entries that a history may have.
use Rattle.std.specs.Prelude.{◌≡◌, ◌⊎◌, ℕ, Bool, true, false, Option, Some, None}
use Rattle.plain_cat.specs.InForm.{in_form, is_eighth}
use Rattle.plain_cat.specs.declared.history.Stage.{Stage}
use Rattle.plain_cat.specs.declared.history.Stage.TheVariants as stage
use Rattle.plain_cat.specs.declared.history.Entry.{Entry}
use Rattle.plain_cat.specs.declared.history.Entry.TheVariants.{Done, Died, Mended}
use Rattle.plain_cat.specs.declared.reply.Reply.{Reply}
use Rattle.plain_cat.specs.declared.reply.Reply.TheVariants as reply
use Rattle.plain_cat.specs.declared.cat.Cat.{Cat}
use Rattle.plain_rules.specs.declared.outcome.Outcome.{Outcome}
use Rattle.plain_rules.specs.Answers.{Answer}
use Rattle.plain_rules.specs.Replaying.{MayLeak, dead}
use Rattle.plain_rules.specs.Mending.{mended}

-- the number that a reply shows
abbrev pub shown_number : Reply → Option ℕ
shown_number (reply.Found fid name ver) = Some fid.num
shown_number r = None

-- two outcomes are the same, or the first shows the number m
abbrev pub ChosenAlike : Outcome → Outcome → ℕ → Type 0
ChosenAlike o p m = (o ≡ p) ⊎ (shown_number o.reply ≡ Some m)

-- a stage that leaves the catalogue whatever the command
abbrev pub is_quiet : Stage → Bool
is_quiet stage.Idle = true
is_quiet stage.Nothing = true
is_quiet s = false

-- the command of an answer is in form
abbrev pub EntryInForm : Entry → Type 0
EntryInForm (Done node cmd r) = in_form cmd ≡ true
EntryInForm (Died node st k ns) = Unit {0}
EntryInForm (Mended m) = Unit {0}

-- An entry leads from c to d: an answer or a death of a node, or a mending. Of a death this says so only where it left
-- nothing of a command, since the command is not told.
abbrev pub IsLegal : Cat → Entry → Cat → Type 0
IsLegal c (Done node cmd r) d = (is_eighth node ≡ true) × Answer c node cmd r d
IsLegal c (Died node st k ns) d = (is_eighth node ≡ true) × (is_quiet st ≡ true) × MayLeak c k ns.items × (d ≡ dead c node k ns.items)
IsLegal c (Mended m) d = mended c ≡ Some (d, m)
