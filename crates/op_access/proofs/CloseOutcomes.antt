-- The outcome of a CLOSE: the refusal, the open that goes alone, and the marked file that goes with it; and the stages of that.
use Rattle.std.proofs.Common.{◌≡◌, ◌∙◌, ℕ, Bool, true, false, cond, Option, Some, None, refl, ap}
use Rattle.std.specs.Prelude.{◌&&◌, not, option_and_then}
use Rattle.plain_cat.specs.declared.mode.Mode.{Mode}
use Rattle.plain_cat.specs.declared.command.Cmd.{Cmd}
use Rattle.plain_cat.specs.declared.command.Cmd.TheVariants as cmd
use Rattle.plain_cat.specs.declared.history.Stage.{Stage}
use Rattle.plain_cat.specs.declared.history.Stage.TheVariants as stage
use Rattle.plain_cat.specs.declared.reply.Reply.{Reply}
use Rattle.plain_cat.specs.declared.reply.Reply.TheVariants as reply
use Rattle.plain_cat.specs.declared.reply.Refusal.TheVariants as refusal
use Rattle.plain_cat.specs.declared.cat.Cat.{Cat}
use Rattle.plain_cat.specs.declared.cat.File.{File}
use Rattle.plain_cat.specs.declared.cat.Open.{Open}
use Rattle.plain_rules.specs.declared.outcome.Outcome.{Outcome}
use Rattle.plain_rules.specs.Lookups.{file_at, channel_at, is_open}
use Rattle.plain_rules.specs.Changes.{with_channel, freed}
use Rattle.plain_rules.specs.Answers.{told, removed, closed, close_of, close_outcome, outcome, Answer}
use Rattle.plain_rules.specs.Stages.{only_if, closing_stage, close_stage, command_stage, stage_of, staged}
use Rattle.plain_rules.proofs.LawSteps.{pick_exists}
use Rattle.vol_under.specs.UnderWay.{StandsAt}

module _ (c : Cat) (node chan : ℕ) where
  abbrev x : Cmd
  x = cmd.CloseFile chan

  -- the catalogue with the channel closed
  abbrev pub shut : Cat
  shut = with_channel c node chan None

  outcome_is : (new : Option ℕ) → outcome c node x new ≡ close_of c node chan (channel_at c node chan)
  unfolding outcome close_outcome
  outcome_is new = refl

  answers_by : (r : Reply) (d : Cat) → ((new : Option ℕ) → outcome c node x new ≡ record { reply = r; after = d }) → Answer c node x r d
  answers_by r d e = let p = pick_exists c in (p.0, p.1, e p.0)

  pub refuses_answer : channel_at c node chan ≡ None → Answer c node x (reply.Refused refusal.NotOpen) c
  refuses_answer e = answers_by (reply.Refused refusal.NotOpen) c (λ new. outcome_is new ∙ ap (close_of c node chan) e)

  module _ (n : ℕ) (m : Mode) (at : channel_at c node chan ≡ Some (record { file = n; mode = m })) (f : File) (file : file_at c n ≡ Some f) where
    abbrev by_tests : Bool → Bool → Outcome
    by_tests marked opened = cond (marked && not opened) (told (removed shut n f) (reply.Closed true)) (told shut (reply.Closed false))

    comes_to : (new : Option ℕ) (marked opened : Bool) → f.marked ≡ marked → is_open shut n ≡ opened → outcome c node x new ≡ by_tests marked opened
    comes_to new marked opened e d =
        outcome_is new ∙ ap (close_of c node chan) at ∙ ap (closed shut n) file ∙ ap (λ t. by_tests t (is_open shut n)) e ∙ ap (by_tests marked) d

    -- the file is not marked
    pub stays_answer : f.marked ≡ false → Answer c node x (reply.Closed false) shut
    stays_answer e = answers_by (reply.Closed false) shut (λ new. comes_to new false (is_open shut n) e refl)

    -- another channel has it open
    pub kept_answer : is_open shut n ≡ true → Answer c node x (reply.Closed false) shut
    kept_answer d = answers_by (reply.Closed false) shut (λ new. comes_to new f.marked true refl d ∙ unmarked f.marked) where
      unmarked : (t : Bool) → by_tests t true ≡ told shut (reply.Closed false)
      unmarked true = refl
      unmarked false = refl

    -- none has
    module _ (marked : f.marked ≡ true) (alone : is_open shut n ≡ false) where
      pub gone_answer : Answer c node x (reply.Closed true) (removed shut n f)
      gone_answer = answers_by (reply.Closed true) (removed shut n f) (λ new. comes_to new true false marked alone)

      stage_told : (new : Option ℕ) (o : Outcome) (st : Stage) → command_stage c node x new o st ≡ closing_stage shut n f o st
      unfolding command_stage close_stage
      stage_told new o st =
          ap (λ (q : Option Open). option_and_then (λ (p : Open). option_and_then (λ (y : File). closing_stage shut p.file y o st) (file_at c p.file)) q) at
          ∙ ap (λ (q : Option File). option_and_then (λ (y : File). closing_stage shut n y o st) q) file

      stage_is : (new : Option ℕ) (st : Stage) → stage_of c node x new (outcome c node x new) st ≡ closing_stage shut n f (told (removed shut n f) (reply.Closed true)) st
      stage_is new st = ap (λ o. stage_of c node x new o st) (comes_to new true false marked alone) ∙ stage_told new (told (removed shut n f) (reply.Closed true)) st

      last : (d : Cat) → only_if (f.marked && not (is_open shut n)) d ≡ Some d
      last d = ap (λ t. only_if (t && not (is_open shut n)) d) marked ∙ ap (λ t. only_if (not t) d) alone

      pub stands_freed : StandsAt c node (Some x) stage.Freed (freed shut n f)
      unfolding staged
      stands_freed = let p = pick_exists c in (p.0, p.1, stage_is p.0 stage.Freed ∙ last (freed shut n f))

      pub stands_gone : StandsAt c node (Some x) stage.Done (removed shut n f)
      unfolding staged
      stands_gone = let p = pick_exists c in (p.0, p.1, stage_is p.0 stage.Done ∙ last (removed shut n f))
