-- What the laws of answers say.
use Rattle.std.specs.Prelude.{◌≡◌, ℕ, Bool, true, false}
use Rattle.plain_cat.specs.declared.command.Cmd.{Cmd}
use Rattle.plain_cat.specs.declared.command.Cmd.TheVariants as cmd
use Rattle.plain_cat.specs.declared.reply.Reply.{Reply}
use Rattle.plain_cat.specs.declared.cat.Cat.{Cat}
use Rattle.plain_rules.specs.Answers.{Answer}

-- one reply, and one catalogue after it
pub record Same (r s : Reply) (d e : Cat) : Type 0 where
  pub replies : r ≡ s
  pub catalogues : d ≡ e

-- a command has an answer
abbrev pub Answered : Cat → ℕ → Cmd → Type 0
Answered c node cmd = (r : Reply) × (d : Cat) × Answer c node cmd r d

-- CREATE and MKDIR make a file, which takes a number
abbrev pub makes_file : Cmd → Bool
makes_file (cmd.Create reg dir name ver blocks owner) = true
makes_file (cmd.MkDir reg dir name owner) = true
makes_file other = false
