-- A text begins with the line of one entry that follows, and of no other one.
use Rattle.std.proofs.Common.{◌≡◌, ◌∙◌, ◌<◌, ◌^◌, ◌++◌, ℕ, List, [], ◌∷◌, Option, Some, None, length, refl, sym, ap, subst, inl, inr, codes}
use Rattle.std.specs.Fmt.{decimal}
use Rattle.plain_cat.specs.Spared.{Spared}
use Rattle.plain_cat.specs.declared.command.Cmd.{Cmd}
use Rattle.plain_cat.specs.declared.reply.Reply.{Reply}
use Rattle.plain_cat.specs.declared.history.Stage.{Stage}
use Rattle.plain_cat.specs.declared.history.Mended.{Mended as Counts}
use Rattle.plain_cat.specs.declared.history.Entry.{Entry}
use Rattle.plain_cat.specs.declared.history.Entry.TheVariants.{Done, Died, Mended}
use Rattle.plain_cat.specs.declared.cat.Cat.{Cat}
use Rattle.plain_texts.specs.Replies.{reply_text}
use Rattle.plain_texts.specs.Reports.{entry_line, line_text, newline}
use Rattle.plain_rules.specs.declared.outcome.Outcome.{Outcome}
use Rattle.plain_rules.specs.Accounts.{Accounted}
use Rattle.plain_rules.specs.Answers.{outcome, IsPick, Answer}
use Rattle.plain_rules.specs.Replaying.{dead}
use Rattle.plain_rules.specs.Mending.{without_opens, without_entries, with_lost, put_right, counts, mended}
use Rattle.plain_rules.specs.Checks.{shown_number, ChosenAlike}
use Rattle.plain_rules.specs.Laws.{Same}
use Rattle.plain_rules.proofs.Picks.{one_pick}
use Rattle.plain_rules.proofs.Choices.{free_choice}
use Rattle.plain_rules.proofs.Keeps.{accounts_kept}
use Rattle.plain_rules.proofs.Kept.{dead_keeps}
use Rattle.plain_rules.proofs.MendSteps.{cleared_keeps, lost_keeps, right_keeps, mended_is, mended_none}
use Rattle.log_check.specs.declared.drafts.Death.{Death}
use Rattle.log_check.specs.declared.commands.Given.{Given}
use Rattle.log_check.specs.declared.lines.Draft.{Draft}
use Rattle.log_check.specs.declared.lines.Draft.TheVariants as draft
use Rattle.log_check.specs.Drafts.{death, death_of, mending_of}
use Rattle.log_check.specs.Commands.{IsSpeaking, given}
use Rattle.log_check.specs.Lines.{body_of, words_of, reply_of, died_text, IsDrafted}
use Rattle.log_check.proofs.Speaking.{reading}
use Rattle.log_check.proofs.Drafted.{mending_drafted, death_drafted, answer_of, answer_drafted, answer-reply}
use Rattle.log_check.specs.Histories.{Follows, is_answer, is_death}
use Rattle.log_check.proofs.Told.{body-line, done-line, died-line, entry_draft, told, some_is}
use Rattle.log_check.proofs.Replies.{shown_pick}

-- ---- each line is read

pub by_option : {A : Type 0} {B : Type 0} (o : Option A) → ((a : A) → o ≡ Some a → B) → (o ≡ None → B) → B
by_option None some none = none refl
by_option (Some a) some none = some a refl

-- what stands behind the number of a line is read as some draft
pub drafted : (body : List ℕ) → (read : Option Draft) × IsDrafted body read
drafted body =
    by_option {B = (read : Option Draft) × IsDrafted body read} (mending_of body) (λ m e. (Some (draft.Mending m), mending_drafted body m e)) (λ none.
    by_option {B = (read : Option Draft) × IsDrafted body read} (death_of body) (λ d e. (Some (draft.Death d), death_drafted body d none e)) (λ alive.
    let r = reading (words_of body) in (answer_of r.read, answer_drafted body r.read none alive r.reads r.form)))

-- ---- the answers of one line

parts : (o : Outcome) (r s : Reply) (d e : Cat) → o ≡ record { reply = r; after = d } → o ≡ record { reply = s; after = e } → Same r s d e
parts o r s d e h k =
    let same : record { reply = r; after = d } ≡ record { reply = s; after = e } = sym h ∙ k in
    record { replies = ap (λ (p : Outcome). p.reply) same; catalogues = ap (λ (p : Outcome). p.after) same }

shows_same : (c : Cat) (text : List ℕ) (r s : Reply) (n m : ℕ) (rest more : List ℕ) → Accounted c → text ≡ reply_text r ++ (10 ∷ rest) → text ≡ reply_text s ++ (10 ∷ more)
    → shown_number r ≡ Some n → shown_number s ≡ Some m → IsPick c (Some n) → IsPick c (Some m) → n ≡ m
shows_same c text r s n m rest more a f g h k p q =
    let same : Some n ≡ Some m = sym (shown_pick c text r n rest a f h p) ∙ shown_pick c text s m more a g k q in cc

-- two answers of a command whose texts stand in one place are the same
same_by_text : (c : Cat) (node : ℕ) (x : Cmd) (r s : Reply) (d e : Cat) (text rest more : List ℕ) → Accounted c → text ≡ reply_text r ++ (10 ∷ rest) → text ≡ reply_text s ++ (10 ∷ more)
    → Answer c node x r d → Answer c node x s e → Same r s d e
same_by_text c node x r s d e text rest more a f g (None, p, h) (None, q, k) = parts (outcome c node x None) r s d e h k
same_by_text c node x r s d e text rest more a f g (None, p, h) (Some m, q, k) = absurd (one_pick c m p q)
same_by_text c node x r s d e text rest more a f g (Some m, p, h) (None, q, k) = absurd (one_pick c m q p)
same_by_text c node x r s d e text rest more a f g (Some m, p, h) (Some l, q, k) = by_first (free_choice c node x m l) (free_choice c node x l m)
  where
    by_first : ChosenAlike (outcome c node x (Some m)) (outcome c node x (Some l)) m → ChosenAlike (outcome c node x (Some l)) (outcome c node x (Some m)) l → Same r s d e
    by_first (inl i) j = parts (outcome c node x (Some l)) r s d e (sym i ∙ h) k
    by_first (inr i) (inl j) = parts (outcome c node x (Some m)) r s d e h (sym j ∙ k)
    by_first (inr i) (inr j) =
        let first : shown_number r ≡ Some m = sym (ap (λ (o : Outcome). shown_number o.reply) h) ∙ i in
        let second : shown_number s ≡ Some l = sym (ap (λ (o : Outcome). shown_number o.reply) k) ∙ j in
        let same : m ≡ l = shows_same c text r s m l rest more a f g first second p q in
        parts (outcome c node x (Some l)) r s d e (ap (λ (n : ℕ). outcome c node x (Some n)) (sym same) ∙ h) k

-- ---- the entries of one line

-- two entries have one line and lead to one catalogue
pub record Alike (i : ℕ) (e f : Entry) (d x : Cat) : Type 0 where
  pub after : d ≡ x
  pub line : line_text i e ≡ line_text i f
  pub answer : is_answer e ≡ is_answer f
  pub death : is_death e ≡ is_death f

-- what stands behind the equals sign of a line with this reply
reply_there : (i : ℕ) (text : List ℕ) (node : ℕ) (x : Cmd) (r : Reply) (rest : List ℕ) → i < 2 ^ 64 → IsSpeaking node x → text ≡ line_text i (Done node x r) ++ rest
    → reply_of (body_of text) ≡ reply_text r ++ (10 ∷ rest)
reply_there i text node x r rest small s e =
    ap reply_of (body-line i (Done node x r) text rest small e ∙ done-line node x r (10 ∷ rest)) ∙ answer-reply node x (reply_text r ++ (10 ∷ rest)) s

answers_alike : (i : ℕ) (c : Cat) (text : List ℕ) (node : ℕ) (x : Cmd) (r s : Reply) (d y : Cat) (rest more : List ℕ) → i < 2 ^ 64 → Accounted c
    → Follows c (Done node x r) d → Follows c (Done node x s) y → text ≡ line_text i (Done node x r) ++ rest → text ≡ line_text i (Done node x s) ++ more
    → Alike i (Done node x r) (Done node x s) d y
answers_alike i c text node x r s d y rest more small a f g h k =
    let same = same_by_text c node x r s d y (reply_of (body_of text)) rest more a (reply_there i text node x r rest small f.whole h) (reply_there i text node x s more small g.whole k) f.legal.1 g.legal.1 in
    record { after = same.catalogues; line = ap (λ (r : Reply). line_text i (Done node x r)) same.replies; answer = refl; death = refl }

given_alike : (i : ℕ) (c : Cat) (text : List ℕ) (node : ℕ) (x : Cmd) (g : Given) (r s : Reply) (d y : Cat) (rest more : List ℕ) → i < 2 ^ 64 → Accounted c → given node x ≡ g
    → Follows c (Done node x r) d → Follows c (Done g.node g.cmd s) y → text ≡ line_text i (Done node x r) ++ rest → text ≡ line_text i (Done g.node g.cmd s) ++ more
    → Alike i (Done node x r) (Done g.node g.cmd s) d y
given_alike i c text node x g r s d y rest more small a same =
    let P : Given → Type 0 = λ g. Follows c (Done node x r) d → Follows c (Done g.node g.cmd s) y → text ≡ line_text i (Done node x r) ++ rest → text ≡ line_text i (Done g.node g.cmd s) ++ more
    → Alike i (Done node x r) (Done g.node g.cmd s) d y in
    subst P same (answers_alike i c text node x r s d y rest more small a)

death_line : (node : ℕ) (st : Stage) (k : ℕ) (ns : Spared ℕ) → ns.items ≡ [] → entry_line (Died node st k ns) ≡ died_text node st k 0
death_line node st k ns none = died-line node st k ns ∙ ap (λ (items : List ℕ). died_text node st k (length items)) none

deaths_alike : (i : ℕ) (c : Cat) (node : ℕ) (st : Stage) (k : ℕ) (ns : Spared ℕ) (a : Death) (ms : Spared ℕ) (d y : Cat) → death node st k 0 ≡ a → a.numbers ≡ 0
    → Follows c (Died node st k ns) d → Follows c (Died a.node a.stage a.clusters ms) y → Alike i (Died node st k ns) (Died a.node a.stage a.clusters ms) d y
deaths_alike i c node st k ns a ms d y same zero f g =
    let one : dead c node k [] ≡ dead c a.node a.clusters [] = ap (λ (a : Death). dead c a.node a.clusters []) same in
    let text : died_text node st k 0 ≡ died_text a.node a.stage a.clusters 0 = ap (λ (a : Death). died_text a.node a.stage a.clusters 0) same in
    record {
      after = f.legal.3 ∙ ap (dead c node k) f.whole.0 ∙ one ∙ sym (g.legal.3 ∙ ap (dead c a.node a.clusters) g.whole.0);
      line = ap (λ b. decimal i ++ (codes " " ++ (b ++ newline))) (death_line node st k ns f.whole.0 ∙ text ∙ sym (death_line a.node a.stage a.clusters ms g.whole.0));
      answer = refl;
      death = refl;
    }

mendings_alike : (i : ℕ) (c : Cat) (m n : Counts) (d y : Cat) → m ≡ n → mended c ≡ Some (d, m) → mended c ≡ Some (y, n) → Alike i (Mended m) (Mended n) d y
mendings_alike i c m n d y same h k =
    let pair : ◌≡◌ {A = Cat × Counts} (d, m) (y, n) = some_is (d, m) (y, n) (sym h ∙ k) in
    record { after = ap (λ (p : Cat × Counts). p.0) pair; line = ap (λ (m : Counts). line_text i (Mended m)) same; answer = refl; death = refl }

by_drafts : (i : ℕ) (c : Cat) (text : List ℕ) (e f : Entry) (d y : Cat) (rest more : List ℕ) → i < 2 ^ 64 → Accounted c → Follows c e d → Follows c f y
    → text ≡ line_text i e ++ rest → text ≡ line_text i f ++ more → entry_draft e ≡ entry_draft f → Alike i e f d y
by_drafts i c text (Done node x r) (Done other z s) d y rest more small a f g h k same =
    let both : draft.Answer (given node x) ≡ draft.Answer (given other z) = same in
    let is : given node x ≡ given other z = cc in given_alike i c text node x (given other z) r s d y rest more small a is f g h k
by_drafts i c text (Done node x r) (Died other su j ms) d y rest more small a f g h k same = let both : draft.Answer (given node x) ≡ draft.Death (death other su j 0) = same in absurd (let no : ⊥ = cc in no)
by_drafts i c text (Done node x r) (Mended n) d y rest more small a f g h k same = let both : draft.Answer (given node x) ≡ draft.Mending n = same in absurd (let no : ⊥ = cc in no)
by_drafts i c text (Died node st l ns) (Done other z s) d y rest more small a f g h k same = let both : draft.Death (death node st l 0) ≡ draft.Answer (given other z) = same in absurd (let no : ⊥ = cc in no)
by_drafts i c text (Died node st l ns) (Died other su j ms) d y rest more small a f g h k same =
    let both : draft.Death (death node st l 0) ≡ draft.Death (death other su j 0) = same in
    let is : death node st l 0 ≡ death other su j 0 = cc in deaths_alike i c node st l ns (death other su j 0) ms d y is refl f g
by_drafts i c text (Died node st l ns) (Mended n) d y rest more small a f g h k same = let both : draft.Death (death node st l 0) ≡ draft.Mending n = same in absurd (let no : ⊥ = cc in no)
by_drafts i c text (Mended m) (Done other z s) d y rest more small a f g h k same = let both : draft.Mending m ≡ draft.Answer (given other z) = same in absurd (let no : ⊥ = cc in no)
by_drafts i c text (Mended m) (Died other su j ms) d y rest more small a f g h k same = let both : draft.Mending m ≡ draft.Death (death other su j 0) = same in absurd (let no : ⊥ = cc in no)
by_drafts i c text (Mended m) (Mended n) d y rest more small a f g h k same = let both : draft.Mending m ≡ draft.Mending n = same in let is : m ≡ n = cc in mendings_alike i c m n d y is f.legal g.legal

-- two entries that follow and whose lines begin one text are alike
pub alike : (i : ℕ) (c : Cat) (text : List ℕ) (e f : Entry) (d y : Cat) (rest more : List ℕ) → i < 2 ^ 64 → Accounted c → Follows c e d → Follows c f y
    → text ≡ line_text i e ++ rest → text ≡ line_text i f ++ more → Alike i e f d y
alike i c text e f d y rest more small a h k first second =
    let r = drafted (body_of text) in
    let same : entry_draft e ≡ entry_draft f = some_is (entry_draft e) (entry_draft f) (sym (told i c text r.0 small r.1 e d rest h first) ∙ told i c text r.0 small r.1 f y more k second) in
    by_drafts i c text e f d y rest more small a h k first second same

-- ---- accounts

-- mending leaves a catalogue that is accounted for
pub mended_keeps : (c d : Cat) (m : Counts) → Accounted c → mended c ≡ Some (d, m) → Accounted d
mended_keeps c d m a h = by_option {B = Accounted d} (with_lost (without_entries (without_opens c))) some (λ none. absurd (no (sym h ∙ mended_none c (without_entries (without_opens c)) refl none)))
  where
    no : ◌≡◌ {A = Option (Cat × Counts)} (Some (d, m)) None → ⊥
    no e = cc

    some : (b : Cat) → with_lost (without_entries (without_opens c)) ≡ Some b → Accounted d
    some b e =
        let n : Counts = counts c (without_entries (without_opens c)) b (put_right b) in
        let pair : ◌≡◌ {A = Cat × Counts} (put_right b, n) (d, m) = some_is (put_right b, n) (d, m) (sym (mended_is c (without_entries (without_opens c)) b (put_right b) refl e refl) ∙ h) in
        subst Accounted (ap (λ (p : Cat × Counts). p.0) pair) (right_keeps b (lost_keeps (without_entries (without_opens c)) b e (cleared_keeps c a)))

-- and so does every entry
pub follows_keep : (c : Cat) (e : Entry) (d : Cat) → Accounted c → Follows c e d → Accounted d
follows_keep c (Done node x r) d a f = let answer = f.legal.1 in subst (λ (o : Outcome). Accounted o.after) answer.2 (accounts_kept c node x answer.0 a answer.1)
follows_keep c (Died node st k ns) d a f = subst Accounted (sym f.legal.3) (dead_keeps c node k ns.items a)
follows_keep c (Mended m) d a f = mended_keeps c d m a f.legal
