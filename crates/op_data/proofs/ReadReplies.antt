-- The outcome of READ.
use Rattle.std.proofs.Common.{◌≡◌, ◌∙◌, ℕ, Bool, true, false, cond, Option, Some, None, ap}
use Rattle.base_words.specs.Fields.{Block}
use Rattle.plain_cat.specs.declared.mode.Mode.{Mode}
use Rattle.plain_cat.specs.declared.command.Cmd.TheVariants as cmd
use Rattle.plain_cat.specs.declared.reply.Reply.{Reply}
use Rattle.plain_cat.specs.declared.reply.Reply.TheVariants as reply
use Rattle.plain_cat.specs.declared.reply.Refusal.TheVariants as refusal
use Rattle.plain_cat.specs.declared.cat.Cat.{Cat}
use Rattle.plain_cat.specs.declared.cat.File.{File}
use Rattle.plain_cat.specs.declared.cat.Open.{Open}
use Rattle.plain_rules.specs.Lookups.{file_at, channel_at}
use Rattle.plain_rules.specs.Changes.{block_of}
use Rattle.plain_rules.specs.Answers.{refused, told, is_outside, read_of, read_open, read_outcome, outcome, Answer}
use Rattle.plain_rules.proofs.LawSteps.{pick_exists}

module _ (c : Cat) (node chan vbn : ℕ) where
  answers_by : (r : Reply) → ((new : Option ℕ) → outcome c node (cmd.ReadBlock chan vbn) new ≡ record { reply = r; after = c }) → Answer c node (cmd.ReadBlock chan vbn) r c
  answers_by r e = let p = pick_exists c in (p.0, p.1, e p.0)

  outcome_by : (new : Option ℕ) (o : Option Open) → channel_at c node chan ≡ o → outcome c node (cmd.ReadBlock chan vbn) new ≡ read_open c o vbn
  unfolding outcome read_outcome
  outcome_by new o at = ap (λ y. read_open c y vbn) at

  -- nothing is open
  pub read_closed : channel_at c node chan ≡ None → Answer c node (cmd.ReadBlock chan vbn) (reply.Refused refusal.NotOpen) c
  read_closed at = answers_by (reply.Refused refusal.NotOpen) (λ new. outcome_by new None at)

  module _ (n : ℕ) (mode : Mode) (f : File) (at : channel_at c node chan ≡ Some (record { file = n; mode = mode })) (there : file_at c n ≡ Some f) where
    comes_to : (new : Option ℕ) (t : Bool) → is_outside c f vbn ≡ t → outcome c node (cmd.ReadBlock chan vbn) new ≡ cond t (refused c refusal.EndOfFile) (told c (reply.Bytes (block_of f vbn)))
    comes_to new t e =
        outcome_by new (Some (record { file = n; mode = mode })) at
        ∙ ap (λ o. read_of c o vbn) there
        ∙ ap (λ u. cond u (refused c refusal.EndOfFile) (told c (reply.Bytes (block_of f vbn)))) e

    -- the file has no such block
    pub read_outside : is_outside c f vbn ≡ true → Answer c node (cmd.ReadBlock chan vbn) (reply.Refused refusal.EndOfFile) c
    read_outside e = answers_by (reply.Refused refusal.EndOfFile) (λ new. comes_to new true e)

    -- the block that shows
    pub read_bytes : is_outside c f vbn ≡ false → (b : Block) → block_of f vbn ≡ b → Answer c node (cmd.ReadBlock chan vbn) (reply.Bytes b) c
    read_bytes e b shows = answers_by (reply.Bytes b) (λ new. comes_to new false e ∙ ap (λ y. told c (reply.Bytes y)) shows)
