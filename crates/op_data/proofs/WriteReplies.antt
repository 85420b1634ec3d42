-- The outcome of WRITE, and the stages on the way.
use Rattle.std.proofs.Common.{◌≡◌, ◌∙◌, ℕ, Bool, true, false, cond, List, Option, Some, None, refl, ap}
use Rattle.std.specs.Prelude.{◌&&◌, not, nat_le, option_and_then}
use Rattle.plain_cat.specs.declared.mode.Mode.{Mode}
use Rattle.plain_cat.specs.declared.command.Cmd.TheVariants as cmd
use Rattle.plain_cat.specs.declared.history.Stage.{Stage}
use Rattle.plain_cat.specs.declared.history.Stage.TheVariants as stage
use Rattle.plain_cat.specs.declared.reply.Reply.{Reply}
use Rattle.plain_cat.specs.declared.reply.Reply.TheVariants as reply
use Rattle.plain_cat.specs.declared.reply.Refusal.{Refusal}
use Rattle.plain_cat.specs.declared.reply.Refusal.TheVariants as refusal
use Rattle.plain_cat.specs.declared.cat.Cat.{Cat}
use Rattle.plain_cat.specs.declared.cat.File.{File}
use Rattle.plain_cat.specs.declared.cat.Open.{Open}
use Rattle.plain_rules.specs.declared.outcome.Outcome.{Outcome}
use Rattle.plain_rules.specs.Lookups.{file_at, channel_at}
use Rattle.plain_rules.specs.Changes.{with_file, is_past_mark, text_block, with_block, written}
use Rattle.plain_rules.specs.Answers.{refused, told, is_outside, is_reading, write_of, write_open, write_outcome, outcome, Answer}
use Rattle.plain_rules.specs.Stages.{only_if, writing_stage, write_stage, command_stage, stage_of, staged}
use Rattle.plain_rules.proofs.LawSteps.{pick_exists}
use Rattle.vol_under.specs.UnderWay.{StandsAt}

module _ (c : Cat) (node chan vbn : ℕ) (text : List ℕ) where
  answers_by : (r : Reply) (d : Cat) → ((new : Option ℕ) → outcome c node (cmd.WriteBlock chan vbn text) new ≡ record { reply = r; after = d }) → Answer c node (cmd.WriteBlock chan vbn text) r d
  answers_by r d e = let p = pick_exists c in (p.0, p.1, e p.0)

  -- the answer is this refusal
  abbrev pub Refuses : Refusal → Type 0
  Refuses r = Answer c node (cmd.WriteBlock chan vbn text) (reply.Refused r) c

  outcome_by : (new : Option ℕ) (o : Option Open) → channel_at c node chan ≡ o → outcome c node (cmd.WriteBlock chan vbn text) new ≡ write_open c o vbn text
  unfolding outcome write_outcome
  outcome_by new o at = ap (λ y. write_open c y vbn text) at

  -- nothing is open
  pub write_closed : channel_at c node chan ≡ None → Refuses refusal.NotOpen
  write_closed at = answers_by (reply.Refused refusal.NotOpen) c (λ new. outcome_by new None at)

  module _ (n : ℕ) (mode : Mode) (f : File) (at : channel_at c node chan ≡ Some (record { file = n; mode = mode })) (there : file_at c n ≡ Some f) where
    abbrev by_tests : Bool → Bool → Outcome
    by_tests reading out = cond reading (refused c refusal.NoPriv) (cond out (refused c refusal.EndOfFile) (told (with_file c n (written f vbn text)) reply.Written))

    comes_to : (new : Option ℕ) (reading out : Bool) → is_reading mode ≡ reading → is_outside c f vbn ≡ out → outcome c node (cmd.WriteBlock chan vbn text) new ≡ by_tests reading out
    comes_to new reading out r e =
        outcome_by new (Some (record { file = n; mode = mode })) at
        ∙ ap (λ o. cond (is_reading mode) (refused c refusal.NoPriv) (write_of c n o vbn text)) there
        ∙ ap (λ t. by_tests t (is_outside c f vbn)) r
        ∙ ap (by_tests reading) e

    -- the channel has it open to read alone
    pub write_reading : is_reading mode ≡ true → Refuses refusal.NoPriv
    write_reading r = answers_by (reply.Refused refusal.NoPriv) c (λ new. comes_to new true (is_outside c f vbn) r refl)

    -- the file has no such block
    pub write_outside : is_reading mode ≡ false → is_outside c f vbn ≡ true → Refuses refusal.EndOfFile
    write_outside r e = answers_by (reply.Refused refusal.EndOfFile) c (λ new. comes_to new false true r e)

    module _ (r : is_reading mode ≡ false) (inside : is_outside c f vbn ≡ false) where
      -- the block is written
      pub write_answer : Answer c node (cmd.WriteBlock chan vbn text) reply.Written (with_file c n (written f vbn text))
      write_answer = answers_by reply.Written (with_file c n (written f vbn text)) (λ new. comes_to new false false r inside)

      -- the stages of the command
      stage_told : (new : Option ℕ) (st : Stage)
          → stage_of c node (cmd.WriteBlock chan vbn text) new (outcome c node (cmd.WriteBlock chan vbn text) new) st
          ≡ writing_stage c n f vbn text (told (with_file c n (written f vbn text)) reply.Written) st
      unfolding command_stage write_stage
      stage_told new st =
          ap (λ o. stage_of c node (cmd.WriteBlock chan vbn text) new o st) (comes_to new false false r inside)
          ∙ ap (λ o. option_and_then (λ (p : Open). option_and_then (λ (y : File). writing_stage c p.file y vbn text (told (with_file c n (written f vbn text)) reply.Written) st) (file_at c p.file)) o) at
          ∙ ap (λ o. option_and_then (λ (y : File). writing_stage c n y vbn text (told (with_file c n (written f vbn text)) reply.Written) st) o) there

      pub stands_data : not (is_past_mark f vbn) && nat_le f.end vbn ≡ true → StandsAt c node (Some (cmd.WriteBlock chan vbn text)) stage.DataOnly (with_file c n (record f { written = with_block f vbn (text_block text) }))
      unfolding staged
      stands_data shows =
          let p = pick_exists c in (
            p.0,
            p.1,
            stage_told p.0 stage.DataOnly ∙ ap (λ t. only_if t (with_file c n (record f { written = with_block f vbn (text_block text) }))) shows,
          )

      pub stands_written : StandsAt c node (Some (cmd.WriteBlock chan vbn text)) stage.Done (with_file c n (written f vbn text))
      unfolding staged
      stands_written = let p = pick_exists c in (p.0, p.1, stage_told p.0 stage.Done)
