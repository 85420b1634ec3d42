-- Refused commands.
use Rattle.std.specs.Prelude.{ℕ}
use Rattle.plain_cat.specs.declared.command.Cmd.{Cmd}
use Rattle.plain_cat.specs.declared.reply.Refusal.{Refusal}
use Rattle.plain_cat.specs.declared.reply.Reply.TheVariants as reply
use Rattle.plain_cat.specs.declared.cat.Cat.{Cat}
use Rattle.plain_rules.specs.Answers.{Answer}

-- a node's command is refused, and d is the catalogue after it
abbrev pub Refuses : Cat → ℕ → Cmd → Refusal → Cat → Type 0
Refuses c node cmd why d = Answer c node cmd (reply.Refused why) d
