-- The reply of a command that writes nothing.
use Rattle.std.specs.Prelude.{◌≡◌, ℕ, true, List, []}
use Rattle.base_words.specs.Fields.{Block}
use Rattle.plain_cat.specs.declared.command.Cmd.{Cmd}
use Rattle.plain_cat.specs.declared.reply.Reply.{Reply}
use Rattle.plain_cat.specs.declared.cat.Cat.{Cat}
use Rattle.plain_rules.specs.Answers.{Answer}
use Rattle.base_words.specs.Lists.{StandsIn}
use Rattle.vol_spell.specs.Owners.{Owners}
use Rattle.vol_parts.specs.declared.geometry.Geometry.{Geometry}
use Rattle.vol_spell.specs.Spelling.{Spells}
use Rattle.vol_under.specs.UnderWay.{UnderWay}
use Rattle.vol_under.specs.Answering.{IsReply}

-- a command that writes nothing, and whose reply is its answer on all blocks that have what it has seen, answers with that reply
abbrev pub LooksReply : Type 0
LooksReply = (g : Geometry) (n : ℕ) (u : UnderWay) (x : Cmd) (r : Reply) → u.plan ≡ []
    → ((base : List Block) (own : Owners) (c : Cat) → Spells g base own c → u.knows c ≡ true → StandsIn base u.seen → Answer c n x r c) → IsReply g n u x r
