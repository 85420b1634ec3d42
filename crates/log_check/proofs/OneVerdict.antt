-- Of a report on a catalogue one thing is said.
use Rattle.std.proofs.Common.{◌≡◌, ◌∙◌, ◌+◌, ◌≤◌, ◌<◌, ◌^◌, ◌⊎◌, ◌++◌, ℕ, suc, Bool, false, cond, List, [], ◌∷◌, length, eqb, refl, sym, ap, subst, arith, inl, inr, codes, append_assoc, length-append}
use Rattle.std.specs.List.{count_by, fold}
use Rattle.std.specs.Fmt.{decimal}
use Rattle.std.proofs.lemmas.Bool.{both_ways}
use Rattle.std.proofs.lemmas.List.{append_cancel_left}
use Rattle.plain_cat.specs.declared.history.Entry.{Entry}
use Rattle.plain_cat.specs.declared.history.Entry.TheVariants.{Done, Died, Mended}
use Rattle.plain_cat.specs.declared.cat.Cat.{Cat}
use Rattle.plain_texts.specs.Reports.{entry_line, line_text, lines_from, newline}
use Rattle.plain_rules.specs.Accounts.{Accounted}
use Rattle.plain_rules.specs.Lookups.{free_clusters}
use Rattle.plain_rules.specs.Checks.{is_quiet}
use Rattle.run_script.proofs.Pieces.{Lacks, number_lacks}
use Rattle.log_check.specs.declared.drafts.Death.{Death}
use Rattle.log_check.specs.declared.lines.Draft.TheVariants as draft
use Rattle.log_check.specs.Drafts.{death}
use Rattle.log_check.specs.Commands.{given}
use Rattle.log_check.specs.Lines.{body_of, died_text}
use Rattle.log_check.specs.declared.judging.Verdict.{Verdict}
use Rattle.log_check.specs.declared.judging.Verdict.TheVariants as verdict
use Rattle.log_check.specs.Histories.{Follows, Chain, is_answer, is_death, closing_text, IsLed, next_number, HasNext, IsUntold, IsReport, IsUnchecked, IsIllegal}
use Rattle.log_check.specs.Steps.{IsVerdict, one_if}
use Rattle.log_check.specs.Sayings.{OneVerdict}
use Rattle.log_check.proofs.Told.{line-open, entry_draft, told, told_death, some_is}
use Rattle.log_check.proofs.Replies.{line_some}
use Rattle.log_check.proofs.OneLine.{drafted, Alike, alike, follows_keep}

-- ---- what stands at the end of a history is no line of an entry that follows

pub head_is : (x b : ℕ) (xs bs : List ℕ) → ◌≡◌ {A = List ℕ} (x ∷ xs) (b ∷ bs) → x ≡ b
head_is x b xs bs e = cc

no_letter : (ds t u : List ℕ) → Lacks 101 ds → ds ++ (32 ∷ t) ≡ 101 ∷ u → ⊥
no_letter [] t u h e = let is : 32 ≡ 101 = head_is 32 101 t u e in omega (arith, is)
no_letter (d ∷ ds) t u h e =
    let is : d ≡ 101 = head_is d 101 (ds ++ (32 ∷ t)) u e in
    let never : eqb 101 101 ≡ false = subst (λ (n : ℕ). eqb n 101 ≡ false) is h.0 in both_ways (eqb 101 101) never refl

number_no_letter : (k : ℕ) (t u : List ℕ) → k < 2 ^ 64 → decimal k ++ (32 ∷ t) ≡ 101 ∷ u → ⊥
number_no_letter k t u small = no_letter (decimal k) t u (number_lacks 101 10 k (inl refl) small (inr (omega arith)))

-- the last line behind its first letter
abbrev behind_letter : ℕ → ℕ → ℕ → List ℕ
behind_letter a b f = codes "nd: " ++ (decimal a ++ (codes " answered, " ++ (decimal b ++ (codes " died, " ++ (decimal f ++ (codes " free" ++ newline))))))

closed_no_next : (k : ℕ) (c : Cat) (rest : List ℕ) (a b f : ℕ) → k < 2 ^ 64 → rest ≡ closing_text a b f → HasNext k c rest → ⊥
closed_no_next k c rest a b f small closed n = number_no_letter k (entry_line n.entry ++ (10 ∷ n.rest)) (behind_letter a b f) small (sym (line-open k n.entry n.rest) ∙ sym n.split ∙ closed)

closed_no_death : (k : ℕ) (rest : List ℕ) (a b f : ℕ) → k < 2 ^ 64 → rest ≡ closing_text a b f → IsUntold k rest → ⊥
closed_no_death k rest a b f small closed u = number_no_letter k (died_text u.node u.stage u.clusters u.numbers ++ (10 ∷ u.rest)) (behind_letter a b f) small (sym u.split ∙ closed)

quiet_told : (c : Cat) (e : Entry) (d : Cat) (a : Death) → Follows c e d → entry_draft e ≡ draft.Death a → (is_quiet a.stage ≡ false) ⊎ (0 < a.numbers) → ⊥
quiet_told c (Done node x r) d a f same loud = let never : draft.Answer (given node x) ≡ draft.Death a = same in cc
quiet_told c (Mended m) d a f same loud = let never : draft.Mending m ≡ draft.Death a = same in cc
quiet_told c (Died node st k ns) d a f same loud = by loud
  where
    is : death node st k 0 ≡ a
    is = let s : draft.Death (death node st k 0) ≡ draft.Death a = same in cc

    by : (is_quiet a.stage ≡ false) ⊎ (0 < a.numbers) → ⊥
    by (inl never) = both_ways (is_quiet st) (subst (λ (a : Death). is_quiet a.stage ≡ false) (sym is) never) f.legal.1
    by (inr some) = let none : 0 ≡ a.numbers = ap (λ (a : Death). a.numbers) is in omega (arith, some, none)

untold_no_next : (k : ℕ) (c : Cat) (rest : List ℕ) → k < 2 ^ 64 → IsUntold k rest → HasNext k c rest → ⊥
untold_no_next k c rest small u n =
    let r = drafted (body_of rest) in
    let a : Death = death u.node u.stage u.clusters u.numbers in
    let same : entry_draft n.entry ≡ draft.Death a =
    some_is (entry_draft n.entry) (draft.Death a) (sym (told k c rest r.0 small r.1 n.entry n.after n.rest n.follows n.split) ∙ told_death k rest r.0 small r.1 u) in
    quiet_told c n.entry n.after a n.follows same u.untold

-- ---- two histories whose lines are one text

abbrev counted : (Entry → Bool) → ℕ → List Entry → ℕ
counted p a h = fold (λ (a : ℕ) (x : Entry). a + cond (p x) 1 0) a h

-- two histories are as long, and end alike
record SameEnd (h g : List Entry) (d x : Cat) (rest more : List ℕ) : Type 0 where
  lengths : length h ≡ length g
  afters : d ≡ x
  rests : rest ≡ more
  answers : (a : ℕ) → counted is_answer a h ≡ counted is_answer a g
  deaths : (a : ℕ) → counted is_death a h ≡ counted is_death a g

-- more lines make a line of an entry that follows
goes_on : (i k : ℕ) (c d : Cat) (text : List ℕ) (f : Entry) (fs : List Entry) (x : Cat) (rest more : List ℕ) → d ≡ c → k ≡ i → Chain c (f ∷ fs) x → text ≡ rest
    → text ≡ (line_text i f ++ lines_from (i + 1) fs) ++ more → HasNext k d rest
goes_on i k c d text f fs x rest more same number chain h g = record {
  entry = f;
  after = chain.0;
  rest = lines_from (i + 1) fs ++ more;
  follows = subst (λ (c : Cat). Follows c f chain.0) (sym same) chain.1;
  split = sym h ∙ g ∙ append_assoc (line_text i f) (lines_from (i + 1) fs) more ∙ (λ j. line_text (sym number j) f ++ (lines_from (i + 1) fs ++ more));
}

same_end : (i : ℕ) (c : Cat) (text : List ℕ) (h g : List Entry) (d x : Cat) (rest more : List ℕ) (k l : ℕ) → i + length text < 2 ^ 64 → Accounted c → Chain c h d → Chain c g x
    → text ≡ lines_from i h ++ rest → text ≡ lines_from i g ++ more → k ≡ length h + i → l ≡ length g + i → (HasNext k d rest → ⊥) → (HasNext l x more → ⊥) → SameEnd h g d x rest more
same_end i c text [] [] d x rest more k l small a p q f e m n never none =
    record { lengths = refl; afters = p ∙ sym q; rests = sym f ∙ e; answers = λ a. refl; deaths = λ a. refl }
same_end i c text [] (y ∷ ys) d x rest more k l small a p q f e m n never none = absurd (never (goes_on i k c d text y ys x rest more p (omega (arith, m)) q f e))
same_end i c text (y ∷ ys) [] d x rest more k l small a p q f e m n never none = absurd (none (goes_on i l c x text y ys d more rest q (omega (arith, n)) p e f))
same_end i c text (y ∷ ys) (z ∷ zs) d x rest more k l small a p q f e m n never none =
    let first : List ℕ = lines_from (i + 1) ys ++ rest in
    let second : List ℕ = lines_from (i + 1) zs ++ more in
    let f' : text ≡ line_text i y ++ first = f ∙ append_assoc (line_text i y) (lines_from (i + 1) ys) rest in
    let e' : text ≡ line_text i z ++ second = e ∙ append_assoc (line_text i z) (lines_from (i + 1) zs) more in
    let s : Alike i y z p.0 q.0 = alike i c text y z p.0 q.0 first second (omega (arith, small)) a p.1 q.1 f' e' in
    let tails : first ≡ second = append_cancel_left (line_text i y) first second (sym f' ∙ e' ∙ ap (λ t. t ++ second) (sym s.line)) in
    let shorter : length text ≡ length (line_text i y) + length first = ap length f' ∙ length-append (line_text i y) first in
    let some = line_some i y (line_text i y) refl in
    let rest_chain : Chain p.0 zs x = subst (λ (c : Cat). Chain c zs x) (sym s.after) q.2 in
    let t : SameEnd ys zs d x rest more =
    same_end (i + 1) p.0 first ys zs d x rest more k l (omega (arith, small, shorter, some)) (follows_keep c y p.0 a p.1) p.2 rest_chain refl tails (omega (arith, m)) (omega (arith, n)) never none in
    record {
      lengths = ap suc t.lengths;
      afters = t.afters;
      rests = t.rests;
      answers = λ a. t.answers (a + one_if (is_answer y)) ∙ ap (λ (b : Bool). counted is_answer (a + one_if b) zs) s.answer;
      deaths = λ a. t.deaths (a + one_if (is_death y)) ∙ ap (λ (b : Bool). counted is_death (a + one_if b) zs) s.death;
    }

-- ---- two verdicts

module _ (c : Cat) (text : List ℕ) (accounted : Accounted c) (small : length text < 2 ^ 63) where
  -- the number behind a history whose lines begin the text is small
  lines_short : (i : ℕ) (h : List Entry) → length h ≤ length (lines_from i h)
  lines_short i [] = omega arith
  lines_short i (e ∷ es) =
      let some = line_some i e (line_text i e) refl in
      let more = lines_short (i + 1) es in
      omega (arith, some, more, length-append (line_text i e) (lines_from (i + 1) es))

  number_small : (l : IsLed c text) → next_number l.history < 2 ^ 64
  number_small l =
      let short = lines_short 1 l.history in
      let all : length text ≡ length (lines_from 1 l.history) + length l.rest = ap length l.split ∙ length-append (lines_from 1 l.history) l.rest in
      omega (arith, small, short, all)

  -- two histories whose lines begin the text and behind which no line follows
  abbrev NoNext : IsLed c text → Type 0
  NoNext l = HasNext (next_number l.history) l.after l.rest → ⊥

  ends : (l m : IsLed c text) → NoNext l → NoNext m → SameEnd l.history m.history l.after m.after l.rest m.rest
  ends l m never none =
      same_end 1 c text l.history m.history l.after m.after l.rest m.rest (next_number l.history) (next_number m.history) (omega (arith, small)) accounted l.chain m.chain l.split m.split refl refl never none

  report_ends : (k : ℕ) (d : Cat) (r : IsReport k c text d) → NoNext r.led
  report_ends k d r = closed_no_next (next_number r.led.history) r.led.after r.led.rest (count_by is_answer r.led.history) (count_by is_death r.led.history) (free_clusters d) (number_small r.led) r.closed

  unchecked_ends : (k : ℕ) (u : IsUnchecked k c text) → NoNext u.led
  unchecked_ends k u = untold_no_next (next_number u.led.history) u.led.after u.led.rest (number_small u.led) (subst (λ (n : ℕ). IsUntold n u.led.rest) u.number u.untold)

  illegal_ends : (k : ℕ) (r : IsIllegal k c text) → NoNext r.led
  illegal_ends k r = subst (λ (n : ℕ). HasNext n r.led.after r.led.rest → ⊥) r.number r.no_next

  reports : (k m : ℕ) (d x : Cat) → IsReport k c text d → IsReport m c text x → ◌≡◌ {A = Verdict} (verdict.Legal k d) (verdict.Legal m x)
  reports k m d x r s =
      let e = ends r.led s.led (report_ends k d r) (report_ends m x s) in
      let count : k ≡ m = r.number ∙ e.lengths ∙ sym s.number in
      let last : d ≡ x = sym r.ends ∙ e.afters ∙ s.ends in
      λ j. verdict.Legal (count j) (last j)

  no_unchecked : (k m : ℕ) (d : Cat) → IsReport k c text d → IsUnchecked m c text → ⊥
  no_unchecked k m d r u =
      let e = ends r.led u.led (report_ends k d r) (unchecked_ends m u) in
      closed_no_death (next_number u.led.history) u.led.rest (count_by is_answer r.led.history) (count_by is_death r.led.history) (free_clusters d) (number_small u.led) (sym e.rests ∙ r.closed) (subst (λ (n : ℕ). IsUntold n u.led.rest) u.number u.untold)

  no_illegal : (k m : ℕ) (d : Cat) → IsReport k c text d → IsIllegal m c text → ⊥
  no_illegal k m d r s =
      let e = ends r.led s.led (report_ends k d r) (illegal_ends m s) in
      s.no_end (sym e.rests ∙ r.closed ∙ (λ j. closing_text (e.answers 0 j) (e.deaths 0 j) (free_clusters ((sym r.ends ∙ e.afters) j))))

  unchecked : (k m : ℕ) → IsUnchecked k c text → IsUnchecked m c text → ◌≡◌ {A = Verdict} (verdict.Unchecked k) (verdict.Unchecked m)
  unchecked k m r s =
      let e = ends r.led s.led (unchecked_ends k r) (unchecked_ends m s) in
      let count : k ≡ m = omega (arith, r.number, e.lengths, s.number) in ap verdict.Unchecked count

  no_both : (k m : ℕ) → IsUnchecked k c text → IsIllegal m c text → ⊥
  no_both k m r s =
      let e = ends r.led s.led (unchecked_ends k r) (illegal_ends m s) in
      let count : k ≡ m = omega (arith, r.number, e.lengths, s.number) in
      s.no_death (subst (λ (t : List ℕ). IsUntold m t) e.rests (subst (λ (n : ℕ). IsUntold n r.led.rest) count r.untold))

  illegal : (k m : ℕ) → IsIllegal k c text → IsIllegal m c text → ◌≡◌ {A = Verdict} (verdict.Illegal k) (verdict.Illegal m)
  illegal k m r s =
      let e = ends r.led s.led (illegal_ends k r) (illegal_ends m s) in
      let count : k ≡ m = omega (arith, r.number, e.lengths, s.number) in ap verdict.Illegal count

  pub alone : (v w : Verdict) → IsVerdict c text v → IsVerdict c text w → v ≡ w
  alone (verdict.Legal k d) (verdict.Legal m x) h g = reports k m d x h g
  alone (verdict.Legal k d) (verdict.Unchecked m) h g = absurd (no_unchecked k m d h g)
  alone (verdict.Legal k d) (verdict.Illegal m) h g = absurd (no_illegal k m d h g)
  alone (verdict.Unchecked k) (verdict.Legal m x) h g = absurd (no_unchecked m k x g h)
  alone (verdict.Unchecked k) (verdict.Unchecked m) h g = unchecked k m h g
  alone (verdict.Unchecked k) (verdict.Illegal m) h g = absurd (no_both k m h g)
  alone (verdict.Illegal k) (verdict.Legal m x) h g = absurd (no_illegal m k x g h)
  alone (verdict.Illegal k) (verdict.Unchecked m) h g = absurd (no_both m k g h)
  alone (verdict.Illegal k) (verdict.Illegal m) h g = illegal k m h g

pub one_verdict : OneVerdict
one_verdict c text accounted small v w h g = alone c text accounted small v w h g
