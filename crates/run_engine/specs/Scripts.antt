-- Which script a text spells, and why it gives none.
use Rattle.std.specs.Prelude.{ℕ, List, ◌≤◌, length}
use Rattle.plain_cat.specs.declared.script.Script.{Script}
use Rattle.run_script.specs.Lines.{lines_of}
use Rattle.run_script.specs.Spelling.{SpellsScript}
use Rattle.base_words.specs.Faults.{Rose}
use Rattle.run_engine.specs.Texts.{IsTooLong, IsBad, IsOverfull}
use Rattle.run_engine.specs.declared.status.Status.{Status}
use Rattle.run_engine.specs.declared.status.Status.TheVariants as status

-- the one that a text spells
abbrev pub IsScriptOf : List ℕ → Script → Type 0
IsScriptOf bytes script = SpellsScript (lines_of bytes) script

-- a text within its limit spells this script
pub record SpellsWithin (script : Script) (bytes : List ℕ) : Type 0 where
  pub within : length bytes ≤ 1048576
  pub spelt : SpellsScript (lines_of bytes) script

-- why a text gave no script
abbrev pub IsScriptEnd : List ℕ → ℕ → ℕ → Status → Type 0
IsScriptEnd bytes before now status.ScriptFault = Rose before now
IsScriptEnd bytes before now status.ScriptTooLong = IsTooLong bytes
IsScriptEnd bytes before now (status.BadScript n) = IsBad n bytes
IsScriptEnd bytes before now status.TooMany = IsOverfull bytes
IsScriptEnd bytes before now status.NoMemory = Unit {0}
IsScriptEnd bytes before now s = ⊥
