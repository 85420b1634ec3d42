-- How far the lines of a report go.
use Rattle.std.proofs.Common.{◌≡◌, ◌∙◌, ◌+◌, ◌≤◌, ◌++◌, ℕ, suc, Bool, true, false, cond, List, [], ◌∷◌, length, drop, refl, sym, ap, subst, arith, append_assoc, length-append, length-drop}
use Rattle.std.specs.List.{count_by, fold}
use Rattle.std.proofs.lemmas.List.{append-nil}
use Rattle.plain_cat.specs.declared.history.Entry.{Entry}
use Rattle.plain_cat.specs.declared.cat.Cat.{Cat}
use Rattle.plain_texts.specs.Reports.{line_text, lines_from, lines_text}
use Rattle.plain_rules.specs.Accounts.{Accounted}
use Rattle.plain_rules.specs.Lookups.{free_clusters}
use Rattle.log_check.specs.declared.steps.Step.TheVariants as step
use Rattle.log_check.specs.Histories.{Follows, Chain, is_answer, is_death, closing_text, IsLed, IsUntold, IsReport, IsUnchecked, IsIllegal}
use Rattle.log_check.specs.Steps.{IsNext, IsStep, one_if}

-- the lines so far are those of a history, which leads to `now`, and the counts are its counts
pub record Going (c : Cat) (text : List ℕ) (now : Cat) (rest : List ℕ) (entries answers deaths : ℕ) : Type 0 where
  pub history : List Entry
  pub chain : Chain c history now
  pub split : text ≡ lines_text history ++ rest
  pub entries_are : entries ≡ length history
  pub answers_are : answers ≡ count_by is_answer history
  pub deaths_are : deaths ≡ count_by is_death history
  pub accounted : Accounted now
  pub room : entries + length rest ≤ length text
  pub answers_room : answers ≤ entries
  pub deaths_room : deaths ≤ entries

pub begins : (c : Cat) (text : List ℕ) → Accounted c → Going c text c text 0 0 0
begins c text a = record {
  history = [];
  chain = refl;
  split = refl;
  entries_are = refl;
  answers_are = refl;
  deaths_are = refl;
  accounted = a;
  room = omega arith;
  answers_room = omega arith;
  deaths_room = omega arith;
}

lines_from-append : (k : ℕ) (h : List Entry) (e : Entry) → lines_from k (h ++ (e ∷ [])) ≡ lines_from k h ++ line_text (length h + k) e
lines_from-append k [] e =
    let n : 0 + k ≡ k = omega arith in
    append-nil (line_text k e) ∙ ap (λ m. line_text m e) (sym n)
lines_from-append k (x ∷ h) e =
    let n : length h + (k + 1) ≡ suc (length h) + k = omega arith in
    ap (λ t. line_text k x ++ t) (lines_from-append (k + 1) h e ∙ ap (λ m. lines_from (k + 1) h ++ line_text m e) n)
    ∙ sym (append_assoc (line_text k x) (lines_from (k + 1) h) (line_text (suc (length h) + k) e))

Chain-append : (c : Cat) (h : List Entry) (d : Cat) (e : Entry) (x : Cat) → Chain c h d → Follows d e x → Chain c (h ++ (e ∷ [])) x
Chain-append c [] d e x h f = let P : Cat → Type 0 = λ d. Follows d e x in (x, subst P h f, refl)
Chain-append c (y ∷ h) d e x g f = (g.0, g.1, Chain-append g.0 h d e x g.2 f)

count_from : (p : Entry → Bool) (a : ℕ) (h : List Entry) (e : Entry) → fold (λ (a : ℕ) (x : Entry). a + cond (p x) 1 0) a (h ++ (e ∷ [])) ≡ fold (λ (a : ℕ) (x : Entry). a + cond (p x) 1 0) a h + one_if (p e)
count_from p a [] e = refl
count_from p a (x ∷ h) e = count_from p (a + one_if (p x)) h e

count_by-append : (p : Entry → Bool) (h : List Entry) (e : Entry) → count_by p (h ++ (e ∷ [])) ≡ count_by p h + one_if (p e)
count_by-append p h e = count_from p 0 h e

one_small : (b : Bool) → one_if b ≤ 1
one_small true = omega arith
one_small false = omega arith

-- one line more
pub goes : (c : Cat) (text : List ℕ) (now : Cat) (rest : List ℕ) (entries answers deaths : ℕ) (d : Cat) (used : ℕ) (answered died : Bool) (left : List ℕ)
    → Going c text now rest entries answers deaths → IsNext (entries + 1) now rest d used answered died → left ≡ drop used rest
    → Going c text d left (entries + 1) (answers + one_if answered) (deaths + one_if died)
goes c text now rest entries answers deaths d used answered died left g n is =
    let h = g.history in
    let e = n.entry in
    let number : entries + 1 ≡ length h + 1 = omega (arith, g.entries_are) in
    let shorter : length left + used ≤ length rest = omega (arith, ap length is, length-drop used rest, n.within) in
    record {
      history = h ++ (e ∷ []);
      chain = Chain-append c h now e d g.chain n.follows;
      split =
          g.split ∙ ap (λ t. lines_text h ++ t) (n.split ∙ (λ i. line_text (number i) e ++ sym is i))
          ∙ sym (append_assoc (lines_text h) (line_text (length h + 1) e) left) ∙ ap (λ t. t ++ left) (sym (lines_from-append 1 h e));
      entries_are = omega (arith, g.entries_are, length-append h (e ∷ []));
      answers_are = (λ i. g.answers_are i + one_if (sym n.answer i)) ∙ sym (count_by-append is_answer h e);
      deaths_are = (λ i. g.deaths_are i + one_if (sym n.death i)) ∙ sym (count_by-append is_death h e);
      accounted = n.accounted;
      room = omega (arith, g.room, shorter, n.some);
      answers_room = omega (arith, g.answers_room, one_small answered);
      deaths_room = omega (arith, g.deaths_room, one_small died);
    }

abbrev led : (c : Cat) (text : List ℕ) (now : Cat) (rest : List ℕ) (entries answers deaths : ℕ) → Going c text now rest entries answers deaths → IsLed c text
led c text now rest entries answers deaths g = record { history = g.history; after = now; rest = rest; chain = g.chain; split = g.split }

pub closes : (c : Cat) (text : List ℕ) (now : Cat) (rest : List ℕ) (entries answers deaths : ℕ) → Going c text now rest entries answers deaths
    → rest ≡ closing_text answers deaths (free_clusters now) → IsReport entries c text now
closes c text now rest entries answers deaths g e = record {
  led = led c text now rest entries answers deaths g;
  ends = refl;
  closed = e ∙ (λ i. closing_text (g.answers_are i) (g.deaths_are i) (free_clusters now));
  number = g.entries_are;
}

pub unchecks : (c : Cat) (text : List ℕ) (now : Cat) (rest : List ℕ) (entries answers deaths : ℕ) → Going c text now rest entries answers deaths
    → IsUntold (entries + 1) rest → IsUnchecked (entries + 1) c text
unchecks c text now rest entries answers deaths g u = record {
  led = led c text now rest entries answers deaths g;
  number = omega (arith, g.entries_are);
  untold = u;
}

pub stops : (c : Cat) (text : List ℕ) (now : Cat) (rest : List ℕ) (entries answers deaths : ℕ) → Going c text now rest entries answers deaths
    → (rest ≡ closing_text answers deaths (free_clusters now) → ⊥) → IsStep (entries + 1) now rest step.Stop → IsIllegal (entries + 1) c text
stops c text now rest entries answers deaths g other s = record {
  led = led c text now rest entries answers deaths g;
  number = omega (arith, g.entries_are);
  no_next = s.0;
  no_end = λ e. other (e ∙ (λ i. closing_text (sym g.answers_are i) (sym g.deaths_are i) (free_clusters now)));
  no_death = s.1;
}
