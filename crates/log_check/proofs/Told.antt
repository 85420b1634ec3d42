-- What the draft of a line says of the entries that it may be about.
use Rattle.std.proofs.Common.{◌≡◌, ◌∙◌, ◌<◌, ◌^◌, ◌++◌, ℕ, List, [], ◌∷◌, Option, Some, None, length, refl, sym, ap, subst, arith, inl, codes, append_assoc}
use Rattle.std.specs.Fmt.{decimal}
use Rattle.plain_cat.specs.Spared.{Spared}
use Rattle.plain_cat.specs.declared.command.Cmd.{Cmd}
use Rattle.plain_cat.specs.declared.reply.Reply.{Reply}
use Rattle.plain_cat.specs.declared.history.Stage.{Stage}
use Rattle.plain_cat.specs.declared.history.Mended.{Mended as Counts}
use Rattle.plain_cat.specs.declared.history.Entry.{Entry}
use Rattle.plain_cat.specs.declared.history.Entry.TheVariants.{Done, Died, Mended}
use Rattle.plain_cat.specs.declared.cat.Cat.{Cat}
use Rattle.plain_texts.specs.Commands.{command_text}
use Rattle.plain_texts.specs.Replies.{reply_text}
use Rattle.plain_texts.specs.Reports.{mended_text, node_text, entry_line, line_text}
use Rattle.run_script.proofs.Pieces.{number_lacks}
use Rattle.log_check.specs.declared.drafts.Death.{Death}
use Rattle.log_check.specs.declared.commands.Given.{Given}
use Rattle.log_check.specs.declared.lines.Draft.{Draft}
use Rattle.log_check.specs.declared.lines.Draft.TheVariants as draft
use Rattle.log_check.specs.Drafts.{death}
use Rattle.log_check.specs.Commands.{given}
use Rattle.log_check.specs.Lines.{body_of, asked_text, died_text, IsDrafted}
use Rattle.log_check.proofs.Drafted.{behind-at}
use Rattle.log_check.specs.declared.steps.Step.{Step}
use Rattle.log_check.specs.declared.steps.Step.TheVariants as step
use Rattle.log_check.specs.Histories.{Follows, IsUntold}
use Rattle.log_check.specs.Steps.{IsEntryStep, IsAnswerStep, death_text, IsNoDeath, IsDeathStep, IsStep}

-- what stands behind the number of a line
pub body-at : (i : ℕ) (t : List ℕ) → i < 2 ^ 64 → body_of (decimal i ++ (32 ∷ t)) ≡ t
unfolding body_of
body-at i t small = behind-at 32 (decimal i) t (number_lacks 32 10 i (inl refl) small (inl (omega arith)))

pub line-open : (i : ℕ) (e : Entry) (rest : List ℕ) → line_text i e ++ rest ≡ decimal i ++ (32 ∷ (entry_line e ++ (10 ∷ rest)))
line-open i e rest = append_assoc (decimal i) (32 ∷ (entry_line e ++ (10 ∷ []))) rest ∙ ap (λ t. decimal i ++ (32 ∷ t)) (append_assoc (entry_line e) (10 ∷ []) rest)

pub body-line : (i : ℕ) (e : Entry) (text rest : List ℕ) → i < 2 ^ 64 → text ≡ line_text i e ++ rest → body_of text ≡ entry_line e ++ (10 ∷ rest)
body-line i e text rest small h = ap body_of (h ∙ line-open i e rest) ∙ body-at i (entry_line e ++ (10 ∷ rest)) small

four : (a b e d t : List ℕ) → (a ++ (b ++ (e ++ d))) ++ t ≡ (a ++ (b ++ e)) ++ (d ++ t)
four a b e d t = simp append_assoc refl

pub done-line : (node : ℕ) (c : Cmd) (r : Reply) (t : List ℕ) → entry_line (Done node c r) ++ t ≡ asked_text node c ++ (reply_text r ++ t)
unfolding entry_line asked_text
done-line node c r t = four (node_text node) (command_text c) (codes " = ") (reply_text r) t

pub died-line : (node : ℕ) (st : Stage) (k : ℕ) (ns : Spared ℕ) → entry_line (Died node st k ns) ≡ died_text node st k (length ns.items)
unfolding entry_line died_text
died-line node st k ns = refl

pub mended-line : (m : Counts) → entry_line (Mended m) ≡ mended_text m
unfolding entry_line
mended-line m = refl

pub death-open : (i node : ℕ) (st : Stage) (k n : ℕ) (rest : List ℕ) → death_text i node st k n ++ rest ≡ decimal i ++ (32 ∷ (died_text node st k n ++ (10 ∷ rest)))
death-open i node st k n rest = append_assoc (decimal i) (32 ∷ (died_text node st k n ++ (10 ∷ []))) rest ∙ ap (λ t. decimal i ++ (32 ∷ t)) (append_assoc (died_text node st k n) (10 ∷ []) rest)

-- the draft of an entry's line
abbrev pub entry_draft : Entry → Draft
entry_draft (Done node c r) = draft.Answer (given node c)
entry_draft (Died node st k ns) = draft.Death (death node st k 0)
entry_draft (Mended m) = draft.Mending m

pub told : (i : ℕ) (c : Cat) (text : List ℕ) (read : Option Draft) → i < 2 ^ 64 → IsDrafted (body_of text) read
    → (e : Entry) (d : Cat) (rest : List ℕ) → Follows c e d → text ≡ line_text i e ++ rest → read ≡ Some (entry_draft e)
told i c text read small h (Done node x r) d rest f e =
    h.answers node x (reply_text r ++ (10 ∷ rest)) f.whole (body-line i (Done node x r) text rest small e ∙ done-line node x r (10 ∷ rest))
told i c text read small h (Died node st k ns) d rest f e =
    h.deaths node st k 0 rest f.legal.0 f.whole.1 (omega arith) (
    body-line i (Died node st k ns) text rest small e ∙ ap (λ b. b ++ (10 ∷ rest)) (died-line node st k ns ∙ ap (λ (ms : List ℕ). died_text node st k (length ms)) f.whole.0))
told i c text read small h (Mended m) d rest f e =
    h.mendings m rest f.whole (body-line i (Mended m) text rest small e ∙ ap (λ b. b ++ (10 ∷ rest)) (mended-line m))

pub told_death : (i : ℕ) (text : List ℕ) (read : Option Draft) → i < 2 ^ 64 → IsDrafted (body_of text) read → (u : IsUntold i text)
    → read ≡ Some (draft.Death (death u.node u.stage u.clusters u.numbers))
told_death i text read small h u =
    h.deaths u.node u.stage u.clusters u.numbers u.rest u.node_is u.clusters_fit u.numbers_fit
    (ap body_of u.split ∙ body-at i (died_text u.node u.stage u.clusters u.numbers ++ (10 ∷ u.rest)) small)

-- ---- what follows for a step

no_some : {A : Type 0} (a : A) → ◌≡◌ {A = Option A} None (Some a) → ⊥
no_some a h = cc

pub some_is : {A : Type 0} (a b : A) → ◌≡◌ {A = Option A} (Some a) (Some b) → a ≡ b
some_is a b h = cc

module _ (i : ℕ) (c : Cat) (text : List ℕ) (small : i < 2 ^ 64) where
  pub none_stops : IsDrafted (body_of text) None → IsStep i c text step.Stop
  none_stops h = (λ n. no_some (entry_draft n.entry) (told i c text None small h n.entry n.after n.rest n.follows n.split), λ u. no_some _ (told_death i text None small h u))

  no_next_answer : (g : Given) → IsDrafted (body_of text) (Some (draft.Answer g)) → IsAnswerStep i c text g.node g.cmd step.Stop
      → (e : Entry) (d : Cat) (rest : List ℕ) → Follows c e d → text ≡ line_text i e ++ rest → ⊥
  no_next_answer g h stop (Done node x r) d rest f e =
      let same : draft.Answer g ≡ draft.Answer (given node x) = some_is (draft.Answer g) (draft.Answer (given node x)) (told i c text (Some (draft.Answer g)) small h (Done node x r) d rest f e) in
      let is : g ≡ given node x = cc in
      let P : Given → Type 0 = λ g. IsAnswerStep i c text g.node g.cmd step.Stop in
      subst P is stop r d f.legal (rest, e)
  no_next_answer g h stop (Died node st k ns) d rest f e =
      let same : draft.Answer g ≡ draft.Death (death node st k 0) = some_is (draft.Answer g) (draft.Death (death node st k 0)) (told i c text (Some (draft.Answer g)) small h (Died node st k ns) d rest f e) in cc
  no_next_answer g h stop (Mended m) d rest f e =
      let same : draft.Answer g ≡ draft.Mending m = some_is (draft.Answer g) (draft.Mending m) (told i c text (Some (draft.Answer g)) small h (Mended m) d rest f e) in cc

  pub answer_steps : (g : Given) (s : Step) → IsDrafted (body_of text) (Some (draft.Answer g)) → IsAnswerStep i c text g.node g.cmd s → IsStep i c text s
  answer_steps g (step.Next d used answered died) h k = k
  answer_steps g step.Untold h k = absurd k
  answer_steps g step.Stop h k = (
    λ n. no_next_answer g h k n.entry n.after n.rest n.follows n.split,
    λ u. let same : draft.Answer g ≡ draft.Death (death u.node u.stage u.clusters u.numbers) = some_is (draft.Answer g) (draft.Death (death u.node u.stage u.clusters u.numbers)) (told_death i text (Some (draft.Answer g)) small h u) in cc,
  )

  no_next_death : (a : Death) → IsDrafted (body_of text) (Some (draft.Death a)) → IsNoDeath i c text a
      → (e : Entry) (d : Cat) (rest : List ℕ) → Follows c e d → text ≡ line_text i e ++ rest → ⊥
  no_next_death a h stop (Done node x r) d rest f e =
      let same : draft.Death a ≡ draft.Answer (given node x) = some_is (draft.Death a) (draft.Answer (given node x)) (told i c text (Some (draft.Death a)) small h (Done node x r) d rest f e) in cc
  no_next_death a h stop (Died node st k ns) d rest f e =
      let same : draft.Death a ≡ draft.Death (death node st k 0) = some_is (draft.Death a) (draft.Death (death node st k 0)) (told i c text (Some (draft.Death a)) small h (Died node st k ns) d rest f e) in
      let is : a ≡ death node st k 0 = cc in
      let P : Death → Type 0 = λ a. IsNoDeath i c text a in
      (subst P is stop).no_legal ns d refl f.whole.0 f.legal (rest, e)
  no_next_death a h stop (Mended m) d rest f e =
      let same : draft.Death a ≡ draft.Mending m = some_is (draft.Death a) (draft.Mending m) (told i c text (Some (draft.Death a)) small h (Mended m) d rest f e) in cc

  no_untold_death : (a : Death) → IsDrafted (body_of text) (Some (draft.Death a)) → IsNoDeath i c text a → IsUntold i text → ⊥
  no_untold_death a h stop u =
      let told : Death = death u.node u.stage u.clusters u.numbers in
      let same : draft.Death a ≡ draft.Death told = some_is (draft.Death a) (draft.Death told) (told_death i text (Some (draft.Death a)) small h u) in
      let is : a ≡ told = cc in
      let P : Death → Type 0 = λ a. IsNoDeath i c text a in
      (subst P is stop).no_untold u.untold (u.rest, u.split ∙ sym (death-open i u.node u.stage u.clusters u.numbers u.rest))

  pub death_steps : (a : Death) (s : Step) → IsDrafted (body_of text) (Some (draft.Death a)) → IsDeathStep i c text a s → IsStep i c text s
  death_steps a (step.Next d used answered died) h k = k
  death_steps a step.Untold h k = k
  death_steps a step.Stop h k = (λ n. no_next_death a h k n.entry n.after n.rest n.follows n.split, no_untold_death a h k)

  no_next_mending : (m : Counts) → IsDrafted (body_of text) (Some (draft.Mending m)) → IsEntryStep i c text (Mended m) step.Stop
      → (e : Entry) (d : Cat) (rest : List ℕ) → Follows c e d → text ≡ line_text i e ++ rest → ⊥
  no_next_mending m h stop (Done node x r) d rest f e =
      let same : draft.Mending m ≡ draft.Answer (given node x) = some_is (draft.Mending m) (draft.Answer (given node x)) (told i c text (Some (draft.Mending m)) small h (Done node x r) d rest f e) in cc
  no_next_mending m h stop (Died node st k ns) d rest f e =
      let same : draft.Mending m ≡ draft.Death (death node st k 0) = some_is (draft.Mending m) (draft.Death (death node st k 0)) (told i c text (Some (draft.Mending m)) small h (Died node st k ns) d rest f e) in cc
  no_next_mending m h stop (Mended n) d rest f e =
      let same : draft.Mending m ≡ draft.Mending n = some_is (draft.Mending m) (draft.Mending n) (told i c text (Some (draft.Mending m)) small h (Mended n) d rest f e) in
      let is : m ≡ n = cc in
      let P : Counts → Type 0 = λ m. IsEntryStep i c text (Mended m) step.Stop in
      subst P is stop d f.legal (rest, e)

  pub mending_steps : (m : Counts) (s : Step) → IsDrafted (body_of text) (Some (draft.Mending m)) → IsEntryStep i c text (Mended m) s → IsStep i c text s
  mending_steps m (step.Next d used answered died) h k = k
  mending_steps m step.Untold h k = absurd k
  mending_steps m step.Stop h k = (
    λ n. no_next_mending m h k n.entry n.after n.rest n.follows n.split,
    λ u. let same : draft.Mending m ≡ draft.Death (death u.node u.stage u.clusters u.numbers) = some_is (draft.Mending m) (draft.Death (death u.node u.stage u.clusters u.numbers)) (told_death i text (Some (draft.Mending m)) small h u) in cc,
  )
