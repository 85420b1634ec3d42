use Rattle.std.proofs.Common.{◌≡◌, ◌∙◌, inl, inr, ℕ, Bool, true, false, Option, Some, None, refl, sym, ap}
use Rattle.plain_cat.specs.declared.command.Cmd.{Cmd}
use Rattle.plain_cat.specs.declared.reply.Reply.{Reply}
use Rattle.plain_cat.specs.declared.reply.Reply.TheVariants as reply
use Rattle.plain_cat.specs.declared.reply.Refusal.{Refusal}
use Rattle.plain_cat.specs.declared.cat.Cat.{Cat}
use Rattle.plain_rules.specs.declared.outcome.Outcome.{Outcome}
use Rattle.plain_rules.specs.Lookups.{has_free_number}
use Rattle.plain_rules.specs.Answers.{outcome, IsPick, Answer}
use Rattle.plain_rules.specs.Checks.{shown_number, ChosenAlike}
use Rattle.plain_rules.specs.Laws.{Same, Answered, makes_file}
use Rattle.plain_rules.proofs.Picks.{number_of, pick_of, one_pick}
use Rattle.plain_rules.proofs.Choices.{free_choice, no_choice}

parts : (o : Outcome) (r s : Reply) (d e : Cat) → o ≡ record { reply = r; after = d } → o ≡ record { reply = s; after = e } → Same r s d e
parts o r s d e h k =
    let same : record { reply = r; after = d } ≡ record { reply = s; after = e } = sym h ∙ k in
    record { replies = ap (λ (p : Outcome). p.reply) same; catalogues = ap (λ (p : Outcome). p.after) same }

-- two answers that show the same number are the same
pub same_answers : (c : Cat) (node : ℕ) (x : Cmd) (r s : Reply) (d e : Cat) → Answer c node x r d → Answer c node x s e → shown_number r ≡ shown_number s → Same r s d e
same_answers c node x r s d e (None, p, h) (None, q, k) n = parts (outcome c node x None) r s d e h k
same_answers c node x r s d e (None, p, h) (Some m, q, k) n = absurd (one_pick c m p q)
same_answers c node x r s d e (Some m, p, h) (None, q, k) n = absurd (one_pick c m q p)
same_answers c node x r s d e (Some m, p, h) (Some l, q, k) n = by_first (free_choice c node x m l) (free_choice c node x l m) where
  by_first : ChosenAlike (outcome c node x (Some m)) (outcome c node x (Some l)) m → ChosenAlike (outcome c node x (Some l)) (outcome c node x (Some m)) l → Same r s d e
  by_first (inl f) g = parts (outcome c node x (Some l)) r s d e (sym f ∙ h) k
  by_first (inr f) (inl g) = parts (outcome c node x (Some m)) r s d e h (sym g ∙ k)
  by_first (inr f) (inr g) =
      let shows : Some m ≡ Some l = sym f ∙ (ap (λ (o : Outcome). shown_number o.reply) h ∙ (n ∙ (ap (λ (o : Outcome). shown_number o.reply) (sym k) ∙ g))) in
      let same : m ≡ l = cc shows in
      parts (outcome c node x (Some l)) r s d e (ap (λ (i : ℕ). outcome c node x (Some i)) (sym same) ∙ h) k

-- a command that makes no file has one answer
pub one_answer : (c : Cat) (node : ℕ) (x : Cmd) (r s : Reply) (d e : Cat) → makes_file x ≡ false → Answer c node x r d → Answer c node x s e → Same r s d e
one_answer c node x r s d e makes (None, p, h) (None, q, k) = parts (outcome c node x None) r s d e h k
one_answer c node x r s d e makes (None, p, h) (Some m, q, k) = absurd (one_pick c m p q)
one_answer c node x r s d e makes (Some m, p, h) (None, q, k) = absurd (one_pick c m q p)
one_answer c node x r s d e makes (Some m, p, h) (Some l, q, k) = parts (outcome c node x (Some l)) r s d e (sym (no_choice c node x m l makes) ∙ h) k

-- a command that is refused has no other answer
pub one_refusal : (c : Cat) (node : ℕ) (x : Cmd) (why : Refusal) (s : Reply) (d e : Cat) → Answer c node x (reply.Refused why) d → Answer c node x s e
    → Same (reply.Refused why) s d e
one_refusal c node x why s d e (None, p, h) (None, q, k) = parts (outcome c node x None) (reply.Refused why) s d e h k
one_refusal c node x why s d e (None, p, h) (Some m, q, k) = absurd (one_pick c m p q)
one_refusal c node x why s d e (Some m, p, h) (None, q, k) = absurd (one_pick c m q p)
one_refusal c node x why s d e (Some m, p, h) (Some l, q, k) = by_choice (free_choice c node x m l) where
  by_choice : ChosenAlike (outcome c node x (Some m)) (outcome c node x (Some l)) m → Same (reply.Refused why) s d e
  by_choice (inl f) = parts (outcome c node x (Some l)) (reply.Refused why) s d e (sym f ∙ h) k
  by_choice (inr f) =
      let none : None ≡ Some m = sym (ap (λ (o : Outcome). shown_number o.reply) h) ∙ f in
      absurd (cc none)

-- there is a pick
pub pick_exists : (c : Cat) → (new : Option ℕ) × IsPick c new
pick_exists c = decide (has_free_number c) refl where
  decide : (b : Bool) → has_free_number c ≡ b → (new : Option ℕ) × IsPick c new
  decide true e = let some = number_of c e in (Some some.0, pick_of c some.0 some.1 e)
  decide false e = (None, e)

-- every command has an answer
pub answered : (c : Cat) (node : ℕ) (x : Cmd) → Answered c node x
answered c node x =
    let p = pick_exists c in ((outcome c node x p.0).reply, (outcome c node x p.0).after, (p.0, p.1, refl))
