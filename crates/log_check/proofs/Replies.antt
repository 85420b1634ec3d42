-- The reply of a command is the one that its line has, or its line has none that is right.
use Rattle.std.proofs.Common.{◌≡◌, ◌∙◌, ◌-◌, ◌≤◌, ◌<◌, ◌^◌, ◌++◌, ℕ, true, false, List, [], ◌∷◌, Option, Some, None, length, drop, refl, sym, ap, subst, arith, inl, inr, codes, append_assoc, length-append}
use Rattle.std.specs.Fmt.{decimal}
use Rattle.std.proofs.lemmas.List.{append-nil}
use Rattle.std.proofs.lemmas.Option.{slice_get_within}
use Rattle.plain_cat.specs.declared.command.Cmd.{Cmd}
use Rattle.plain_cat.specs.declared.command.Cmd.TheVariants as cmd
use Rattle.plain_cat.specs.declared.ids.Fid.{Fid}
use Rattle.plain_cat.specs.declared.reply.Reply.{Reply}
use Rattle.plain_cat.specs.declared.reply.Reply.TheVariants as reply
use Rattle.plain_cat.specs.declared.history.Entry.{Entry}
use Rattle.plain_cat.specs.declared.history.Entry.TheVariants.{Done}
use Rattle.plain_cat.specs.declared.cat.Cat.{Cat}
use Rattle.plain_cat.specs.declared.cat.Slot.TheVariants.{Free}
use Rattle.plain_cat.specs.Names.{text_of as entry_text}
use Rattle.plain_texts.specs.Commands.{then_word}
use Rattle.plain_texts.specs.Replies.{reply_text}
use Rattle.plain_texts.specs.Reports.{entry_line, line_text}
use Rattle.plain_rules.specs.declared.outcome.Outcome.{Outcome}
use Rattle.plain_rules.specs.Accounts.{Accounted}
use Rattle.plain_rules.specs.Lookups.{slot_at, last_seq}
use Rattle.plain_rules.specs.Answers.{outcome, IsPick, takes_space}
use Rattle.plain_rules.specs.Checks.{shown_number}
use Rattle.plain_rules.proofs.Standing.{stands_free}
use Rattle.plain_rules.proofs.Picks.{pick_is_free}
use Rattle.plain_rules.proofs.Choices.{no_answer}
use Rattle.plain_rules.proofs.Keeps.{accounts_kept}
use Rattle.plain_rules.proofs.LawSteps.{pick_exists}
use Rattle.run_script.proofs.Pieces.{number_lacks}
use Rattle.log_check.specs.Commands.{IsSpeaking}
use Rattle.log_check.specs.Lines.{body_of, reply_of, bracketed, shown_of}
use Rattle.log_check.proofs.Drafted.{part-zero, short-back, answer-reply}
use Rattle.log_check.specs.declared.steps.Step.TheVariants as step
use Rattle.log_check.specs.Steps.{BeginsWith, IsNext, IsAnswerStep, IsChosen}
use Rattle.log_check.proofs.Told.{body-line, done-line, line-open}

-- a command that takes no number is answered alike whatever number is handed in
any_choice : (c : Cat) (node : ℕ) (x : Cmd) (m k : Option ℕ) → takes_space x ≡ false → outcome c node x m ≡ outcome c node x k
unfolding outcome
any_choice c node (cmd.Lookup x0 x1 x2 x3) m k h = refl
any_choice c node (cmd.List x0) m k h = refl
any_choice c node (cmd.Stat x0) m k h = refl
any_choice c node (cmd.Create x0 x1 x2 x3 x4 x5) m k h = absurd (let no : ⊥ = cc in no)
any_choice c node (cmd.MkDir x0 x1 x2 x3) m k h = absurd (let no : ⊥ = cc in no)
any_choice c node (cmd.Extend x0 x1) m k h = absurd (let no : ⊥ = cc in no)
any_choice c node (cmd.Trunc x0 x1) m k h = refl
any_choice c node (cmd.Delete x0 x1 x2) m k h = refl
any_choice c node (cmd.Rename x0 x1 x2 x3 x4) m k h = refl
any_choice c node (cmd.OpenFile x0 x1 x2) m k h = refl
any_choice c node (cmd.CloseFile x0) m k h = refl
any_choice c node (cmd.ReadBlock x0 x1) m k h = refl
any_choice c node (cmd.WriteBlock x0 x1 x2) m k h = refl
any_choice c node (cmd.QuotaSet x0 x1 x2) m k h = refl
any_choice c node (cmd.QuotaShow x0) m k h = refl

-- ---- the number that a reply shows

-- a number that can be taken is small
pub pick_small : (c : Cat) (n : ℕ) → Accounted c → IsPick c (Some n) → n < 2 ^ 32
pick_small c n a p =
    let inside : n - 1 < length c.files = slice_get_within c.files (n - 1) (Free (last_seq (slot_at c n))) (stands_free c n (pick_is_free c n p)) in
    omega (arith, inside, a.numbers)

shown_text : (n : ℕ) (t : List ℕ) → n < 2 ^ 32 → shown_of (40 ∷ (decimal n ++ (44 ∷ t))) ≡ Some n
unfolding shown_of
shown_text n t h =
    ap bracketed (part-zero 44 (40 ∷ decimal n) t (refl, number_lacks 44 10 n (inl refl) (omega (arith, h)) (inl (omega arith)))) ∙ short-back n h

open_found : (num seq t u : List ℕ) → ((codes "(" ++ (num ++ (codes "," ++ (seq ++ codes ",0)")))) ++ t) ++ u ≡ 40 ∷ (num ++ (44 ∷ (seq ++ (codes ",0)" ++ (t ++ u)))))
open_found num seq t u = simp append_assoc refl

found-open : (fid : Fid) (name : List ℕ) (ver : ℕ) (u : List ℕ) → reply_text (reply.Found fid name ver) ++ u ≡ 40 ∷ (decimal fid.num ++ (44 ∷ (decimal fid.seq ++ (codes ",0)" ++ (then_word (entry_text name ver) ++ u)))))
unfolding reply_text
found-open fid name ver u = open_found (decimal fid.num) (decimal fid.seq) (then_word (entry_text name ver)) u

none_shown : {A : Type 0} (n : ℕ) → ◌≡◌ {A = Option ℕ} None (Some n) → A
none_shown n h = absurd (let no : ⊥ = cc in no)

-- the text of a reply shows the number that the reply shows
pub shown-back : (r : Reply) (n : ℕ) (u : List ℕ) → shown_number r ≡ Some n → n < 2 ^ 32 → shown_of (reply_text r ++ u) ≡ Some n
shown-back (reply.Found fid name ver) n u h small =
    let same : fid.num ≡ n = cc in
    let low : fid.num < 2 ^ 32 = omega (arith, small, same) in
    ap shown_of (found-open fid name ver u) ∙ shown_text fid.num (decimal fid.seq ++ (codes ",0)" ++ (then_word (entry_text name ver) ++ u))) low ∙ h
shown-back (reply.Listed entries) n u h small = none_shown n h
shown-back (reply.Facts dir owner blocks mark end byte) n u h small = none_shown n h
shown-back (reply.Size blocks) n u h small = none_shown n h
shown-back reply.Deleted n u h small = none_shown n h
shown-back reply.Marked n u h small = none_shown n h
shown-back reply.EntryRemoved n u h small = none_shown n h
shown-back (reply.Renamed name ver) n u h small = none_shown n h
shown-back reply.Opened n u h small = none_shown n h
shown-back (reply.Closed gone) n u h small = none_shown n h
shown-back (reply.Bytes block) n u h small = none_shown n h
shown-back reply.Written n u h small = none_shown n h
shown-back reply.QuotaKept n u h small = none_shown n h
shown-back (reply.Usage usage quota over) n u h small = none_shown n h
shown-back (reply.Refused why) n u h small = none_shown n h

-- the text of a reply shows the number that can be taken
pub shown_pick : (c : Cat) (text : List ℕ) (r : Reply) (n : ℕ) (rest : List ℕ) → Accounted c → text ≡ reply_text r ++ (10 ∷ rest) → shown_number r ≡ Some n → IsPick c (Some n) → shown_of text ≡ Some n
shown_pick c text r n rest a e shows pick = ap shown_of e ∙ shown-back r n (10 ∷ rest) shows (pick_small c n a pick)

-- a line has bytes
pub line_some : (i : ℕ) (e : Entry) (line : List ℕ) → line ≡ line_text i e → 0 < length line
line_some i e line h = let l = ap length (h ∙ sym (append-nil (line_text i e)) ∙ line-open i e []) in omega (arith, l, length-append (decimal i) (32 ∷ (entry_line e ++ (10 ∷ []))))

-- ---- a line that is about an answer

module _ (i : ℕ) (c : Cat) (text : List ℕ) (node : ℕ) (x : Cmd) (new : Option ℕ) (o : Outcome) (small : i < 2 ^ 64) (accounted : Accounted c) (speaking : IsSpeaking node x)
    (choice : IsChosen c x (reply_of (body_of text)) new) (is : o ≡ outcome c node x new) where
  -- what stands behind the equals sign of a line with this reply
  reply_there : (r : Reply) (rest : List ℕ) → text ≡ line_text i (Done node x r) ++ rest → reply_of (body_of text) ≡ reply_text r ++ (10 ∷ rest)
  reply_there r rest e = ap reply_of (body-line i (Done node x r) text rest small e ∙ done-line node x r (10 ∷ rest)) ∙ answer-reply node x (reply_text r ++ (10 ∷ rest)) speaking

  pub answer_stops : (BeginsWith text (line_text i (Done node x o.reply)) → ⊥) → IsAnswerStep i c text node x step.Stop
  answer_stops other r d legal begins = by choice
    where
      differs : o.reply ≡ r → ⊥
      differs e = let P : Reply → Type 0 = λ r. BeginsWith text (line_text i (Done node x r)) in other (subst P (sym e) begins)

      by : IsChosen c x (reply_of (body_of text)) new → ⊥
      by (inl none) = differs (ap (λ (o : Outcome). o.reply) (is ∙ any_choice c node x new legal.1.0 none ∙ legal.1.2))
      by (inr p) = no_answer c node x r new p.0 (λ n shows pick. p.1 r n begins.0 (reply_there r begins.0 begins.1) shows pick)
          (λ e. differs (ap (λ (o : Outcome). o.reply) is ∙ e)) d legal.1

  answered : IsChosen c x (reply_of (body_of text)) new → (k : Option ℕ) × IsPick c k × (outcome c node x k ≡ o)
  answered (inl none) = let p = pick_exists c in (p.0, p.1, any_choice c node x p.0 new none ∙ sym is)
  answered (inr p) = (new, p.0, sym is)

  pub answer_nexts : (line : List ℕ) → line ≡ line_text i (Done node x o.reply) → text ≡ line ++ drop (length line) text → length line ≤ length text → IsNext i c text o.after (length line) true false
  answer_nexts line e split within =
      let a = answered choice in
      let P : List ℕ → Type 0 = λ l. text ≡ l ++ drop (length line) text in
      record {
        entry = Done node x o.reply;
        follows = record { whole = speaking; legal = (speaking.node_is, (a.0, a.1, a.2)) };
        split = subst P e split;
        some = line_some i (Done node x o.reply) line e;
        within = within;
        answer = refl;
        death = refl;
        accounted = subst (λ (o : Outcome). Accounted o.after) a.2 (accounts_kept c node x a.0 accounted a.1);
      }
