-- What holds of every text and every command.
use Rattle.std.specs.Prelude.{◌≡◌, ◌⊎◌, ℕ, true, List}
use Rattle.plain_cat.specs.declared.command.Cmd.{Cmd}
use Rattle.plain_cat.specs.declared.script.Script.{Script}
use Rattle.plain_cat.specs.InForm.{in_form, is_eighth}
use Rattle.run_script.specs.declared.items.Item.{Item}
use Rattle.run_script.specs.declared.items.Item.TheVariants.{Command}
use Rattle.run_script.specs.Grammar.{IsLineText}
use Rattle.run_script.specs.Fixed.{fixed_line, node_text, has_sequence}
use Rattle.run_script.specs.Spelling.{SpellsScript, IsBadLine, IsTooMany}

-- lines spell one script, or have one first bad line, or one item too many, and never two of these
pub record SayOneThing (lines : List (List ℕ)) : Type 0 where
  pub something : ((s : Script) × SpellsScript lines s) ⊎ (((n : ℕ) × IsBadLine lines n) ⊎ IsTooMany lines)
  pub one_script : (s t : Script) → SpellsScript lines s → SpellsScript lines t → s ≡ t
  pub one_line : (n m : ℕ) → IsBadLine lines n → IsBadLine lines m → n ≡ m
  pub good : (s : Script) (n : ℕ) → SpellsScript lines s → IsBadLine lines n → ⊥
  pub within : (s : Script) → SpellsScript lines s → IsTooMany lines → ⊥
  pub first : (n : ℕ) → IsBadLine lines n → IsTooMany lines → ⊥

-- the text of a command behind its node says that command with its identifiers, and nothing else
pub record ReadsBack (node : ℕ) (c : Cmd) : Type 0 where
  pub spelt : IsLineText (Command (record { node = node; cmd = fixed_line c })) (node_text node c)
  pub alone : (item : Item) → IsLineText item (node_text node c) → item ≡ Command (record { node = node; cmd = fixed_line c })

-- so it is for every command in form, at every node
abbrev pub CommandTextsReadBack : Type 0
CommandTextsReadBack = (node : ℕ) (c : Cmd) → is_eighth node ≡ true → in_form c ≡ true → has_sequence c ≡ true → ReadsBack node c
