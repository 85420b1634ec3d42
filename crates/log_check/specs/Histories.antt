-- What the lines of a report say on the catalogue of a volume.
use Rattle.std.specs.Prelude.{◌≡◌, ◌<◌, ◌^◌, ◌+◌, ◌++◌, ◌⊎◌, ℕ, Bool, true, false, List, [], ◌∷◌, length, codes, decimal}
use Rattle.std.specs.List.{count_by}
use Rattle.plain_cat.specs.declared.history.Entry.{Entry}
use Rattle.plain_cat.specs.declared.history.Entry.TheVariants.{Done, Died, Mended}
use Rattle.plain_cat.specs.declared.history.Stage.{Stage}
use Rattle.plain_cat.specs.declared.cat.Cat.{Cat}
use Rattle.plain_cat.specs.InForm.{is_eighth}
use Rattle.plain_texts.specs.Reports.{line_text, lines_text, newline}
use Rattle.plain_rules.specs.Lookups.{free_clusters}
use Rattle.plain_rules.specs.Checks.{is_quiet, IsLegal}
use Rattle.log_check.specs.Commands.{IsSpeaking}
use Rattle.log_check.specs.Lines.{died_text, AreShort}

-- A line tells the whole entry: a command in form, a death without numbers, whose line would not tell which, and counts of 32 bits.
abbrev pub IsWhole : Entry → Type 0
IsWhole (Done node cmd r) = IsSpeaking node cmd
IsWhole (Died node st k ns) = (ns.items ≡ []) × (k < 2 ^ 32)
IsWhole (Mended m) = AreShort m

-- an entry that its line tells whole leads from c to d
pub record Follows (c : Cat) (e : Entry) (d : Cat) : Type 0 where
  pub whole : IsWhole e
  pub legal : IsLegal c e d

-- entries lead, one after the other, from c to d
abbrev pub Chain : Cat → List Entry → Cat → Type 0
Chain c [] d = d ≡ c
Chain c (e ∷ es) d = (x : Cat) × Follows c e x × Chain x es d

abbrev pub is_answer : Entry → Bool
is_answer (Done node cmd r) = true
is_answer (Died node st k ns) = false
is_answer (Mended m) = false

abbrev pub is_death : Entry → Bool
is_death (Done node cmd r) = false
is_death (Died node st k ns) = true
is_death (Mended m) = false

-- the last line of a report: how many answers and deaths there are, and how many clusters are free
abbrev pub closing_text : ℕ → ℕ → ℕ → List ℕ
closing_text answered died free =
    codes "end: " ++ (decimal answered ++ (codes " answered, " ++ (decimal died ++ (codes " died, " ++ (decimal free ++ (codes " free" ++ newline))))))

-- the last line behind a history that has led to d
abbrev pub end_text : List Entry → Cat → List ℕ
end_text h d = closing_text (count_by is_answer h) (count_by is_death h) (free_clusters d)

-- A text begins with the lines of a history that leads from c to `after`, and this is left of it.
pub record IsLed (c : Cat) (text : List ℕ) : Type 0 where
  pub history : List Entry
  pub after : Cat
  pub rest : List ℕ
  pub chain : Chain c history after
  pub split : text ≡ lines_text history ++ rest

-- the number of the line behind a history
abbrev pub next_number : List Entry → ℕ
next_number h = length h + 1

-- the next line is that of an entry that follows
pub record HasNext (i : ℕ) (c : Cat) (text : List ℕ) : Type 0 where
  pub entry : Entry
  pub after : Cat
  pub rest : List ℕ
  pub follows : Follows c entry after
  pub split : text ≡ line_text i entry ++ rest

-- the next line is that of a death of which it tells too little: at a later stage, or with numbers
pub record IsUntold (i : ℕ) (text : List ℕ) : Type 0 where
  pub node : ℕ
  pub stage : Stage
  pub clusters : ℕ
  pub numbers : ℕ
  pub rest : List ℕ
  pub node_is : is_eighth node ≡ true
  pub clusters_fit : clusters < 2 ^ 32
  pub numbers_fit : numbers < 2 ^ 32
  pub untold : (is_quiet stage ≡ false) ⊎ (0 < numbers)
  pub split : text ≡ decimal i ++ (32 ∷ (died_text node stage clusters numbers ++ (10 ∷ rest)))

-- a text is the report of a legal history of k entries, which leads from c to d
pub record IsReport (k : ℕ) (c : Cat) (text : List ℕ) (d : Cat) : Type 0 where
  pub led : IsLed c text
  pub ends : led.after ≡ d
  pub closed : led.rest ≡ end_text led.history d
  pub number : k ≡ length led.history

-- up to line k a text is one, and that line is that of a death of which it tells too little
pub record IsUnchecked (k : ℕ) (c : Cat) (text : List ℕ) : Type 0 where
  pub led : IsLed c text
  pub number : k ≡ next_number led.history
  pub untold : IsUntold k led.rest

-- up to line k a text is one, and that line is no line of an entry that follows, no right last line, and no such death
pub record IsIllegal (k : ℕ) (c : Cat) (text : List ℕ) : Type 0 where
  pub led : IsLed c text
  pub number : k ≡ next_number led.history
  pub no_next : HasNext k led.after led.rest → ⊥
  pub no_end : led.rest ≡ end_text led.history led.after → ⊥
  pub no_death : IsUntold k led.rest → ⊥
