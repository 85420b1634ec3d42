-- A line that is about a mending or a death.
use Rattle.std.proofs.Common.{◌≡◌, ◌&&◌, ◌∙◌, ◌≤◌, ◌<◌, ◌^◌, ◌++◌, ◌⊎◌, ℕ, Bool, true, false, List, [], length, drop, refl, sym, ap, subst, arith, inl, inr, codes}
use Rattle.std.specs.Prelude.{◌==◌}
use Rattle.std.specs.Fmt.{decimal}
use Rattle.std.proofs.lemmas.Bool.Decides.{nat_tests}
use Rattle.std.proofs.lemmas.Bool.{and_parts, eqb-true, both_ways}
use Rattle.plain_cat.specs.Spared.{Spared}
use Rattle.plain_cat.specs.declared.history.Entry.{Entry}
use Rattle.plain_cat.specs.declared.history.Entry.TheVariants.{Died}
use Rattle.plain_cat.specs.declared.cat.Cat.{Cat}
use Rattle.plain_cat.specs.InForm.{is_eighth}
use Rattle.plain_texts.specs.Reports.{line_text, newline}
use Rattle.plain_rules.specs.Accounts.{Accounted}
use Rattle.plain_rules.specs.Lookups.{free_clusters, free_count}
use Rattle.plain_rules.specs.Replaying.{MayLeak, are_free, dead}
use Rattle.plain_rules.proofs.Kept.{dead_keeps}
use Rattle.plain_rules.specs.Checks.{is_quiet, IsLegal}
use Rattle.plain_cat.specs.InForm.{is_eighth as is_node}
use Rattle.log_check.specs.declared.drafts.Death.{Death}
use Rattle.log_check.specs.Lines.{died_text}
use Rattle.log_check.specs.declared.steps.Step.{Step}
use Rattle.log_check.specs.declared.steps.Step.TheVariants as step
use Rattle.log_check.specs.Histories.{IsWhole, is_answer, is_death, IsUntold}
use Rattle.log_check.specs.Steps.{BeginsWith, IsNext, IsEntryStep, is_told, death_text, IsDeathStep}
use Rattle.log_check.proofs.Told.{died-line, death-open}
use Rattle.log_check.proofs.Replies.{line_some}

pub entry_nexts : (i : ℕ) (c : Cat) (text : List ℕ) (e : Entry) (d : Cat) (died : Bool) (line : List ℕ) → IsWhole e → is_answer e ≡ false → is_death e ≡ died → IsLegal c e d → Accounted d
    → line ≡ line_text i e → text ≡ line ++ drop (length line) text → length line ≤ length text → IsNext i c text d (length line) false died
entry_nexts i c text e d died line whole answer death legal accounted is split within = record {
  entry = e;
  follows = record { whole = whole; legal = legal };
  split = let P : List ℕ → Type 0 = λ l. text ≡ l ++ drop (length line) text in subst P is split;
  some = line_some i e line is;
  within = within;
  answer = answer;
  death = death;
  accounted = accounted;
}

pub unlike_stops : (i : ℕ) (c : Cat) (text : List ℕ) (e : Entry) (line : List ℕ) → line ≡ line_text i e → (BeginsWith text line → ⊥) → IsEntryStep i c text e step.Stop
unlike_stops i c text e line is unlike = λ d legal begins. unlike (let P : List ℕ → Type 0 = λ l. BeginsWith text l in subst P (sym is) begins)

pub illegal_stops : (i : ℕ) (c : Cat) (text : List ℕ) (e : Entry) → ((d : Cat) → IsLegal c e d → ⊥) → IsEntryStep i c text e step.Stop
illegal_stops i c text e illegal = λ d legal begins. illegal d legal

not_untold : (a : Death) → is_told a ≡ true → (is_quiet a.stage ≡ false) ⊎ (0 < a.numbers) → ⊥
not_untold a told (inl loud) = both_ways (is_quiet a.stage) loud (and_parts (is_quiet a.stage) (a.numbers == 0) told).0
not_untold a told (inr some) = let none = eqb-true a.numbers 0 (and_parts (is_quiet a.stage) (a.numbers == 0) told).1 in omega (arith, some, none)

by_tests : (q : Bool) (n : ℕ) (z : Bool) → (n == 0) ≡ z → q && z ≡ false → (q ≡ false) ⊎ (0 < n)
by_tests false n z e h = inl refl
by_tests true n true e h = absurd (let no : ⊥ = cc in no)
by_tests true n false e h = inr (above n e)
  where
    above : (n : ℕ) → (n == 0) ≡ false → 0 < n
    above n e = grind (arith, nat_tests)

legal_alike : (c : Cat) (a : Death) (ns ms : Spared ℕ) (d : Cat) → ms.items ≡ ns.items → IsLegal c (Died a.node a.stage a.clusters ms) d → IsLegal c (Died a.node a.stage a.clusters ns) d
legal_alike c a ns ms d e legal =
    let P : List ℕ → Type 0 = λ items. (is_node a.node ≡ true) × (is_quiet a.stage ≡ true) × MayLeak c a.clusters items × (d ≡ dead c a.node a.clusters items) in subst P e legal

begins_alike : (i : ℕ) (text : List ℕ) (a : Death) (ns ms : Spared ℕ) → ms.items ≡ ns.items → BeginsWith text (line_text i (Died a.node a.stage a.clusters ms)) → BeginsWith text (line_text i (Died a.node a.stage a.clusters ns))
begins_alike i text a ns ms e begins =
    let P : List ℕ → Type 0 = λ b. BeginsWith text (decimal i ++ (codes " " ++ (b ++ newline))) in
    subst P (died-line a.node a.stage a.clusters ms ∙ ap (λ (items : List ℕ). died_text a.node a.stage a.clusters (length items)) e ∙ sym (died-line a.node a.stage a.clusters ns)) begins

-- a death that is told whole
pub told_steps : (i : ℕ) (c : Cat) (text : List ℕ) (a : Death) (ns : Spared ℕ) (s : Step) → ns.items ≡ [] → is_told a ≡ true
    → IsEntryStep i c text (Died a.node a.stage a.clusters ns) s → IsDeathStep i c text a s
told_steps i c text a ns (step.Next d used answered died) none told h = h
told_steps i c text a ns step.Untold none told h = absurd h
told_steps i c text a ns step.Stop none told h = record {
  no_legal = λ ms d zero empty legal begins. h d (legal_alike c a ns ms d (empty ∙ sym none) legal) (begins_alike i text a ns ms (empty ∙ sym none) begins);
  no_untold = λ untold begins. not_untold a told untold;
}

-- a death that is not
pub untold_says : (i : ℕ) (text line : List ℕ) (a : Death) → is_eighth a.node ≡ true → a.clusters < 2 ^ 32 → a.numbers < 2 ^ 32 → is_told a ≡ false
    → line ≡ death_text i a.node a.stage a.clusters a.numbers → text ≡ line ++ drop (length line) text → IsUntold i text
untold_says i text line a node k n told is split = record {
  node = a.node;
  stage = a.stage;
  clusters = a.clusters;
  numbers = a.numbers;
  rest = drop (length line) text;
  node_is = node;
  clusters_fit = k;
  numbers_fit = n;
  untold = by_tests (is_quiet a.stage) a.numbers (a.numbers == 0) refl told;
  split =
      (let P : List ℕ → Type 0 = λ l. text ≡ l ++ drop (length line) text in subst P is split)
      ∙ death-open i a.node a.stage a.clusters a.numbers (drop (length line) text);
}

pub untold_stops : (i : ℕ) (c : Cat) (text line : List ℕ) (a : Death) → is_told a ≡ false → line ≡ death_text i a.node a.stage a.clusters a.numbers → (BeginsWith text line → ⊥) → IsDeathStep i c text a step.Stop
untold_stops i c text line a told is unlike = record {
  no_legal = λ ns d zero empty legal begins. loud (by_tests (is_quiet a.stage) a.numbers (a.numbers == 0) refl told) zero legal.1;
  no_untold = λ untold begins. unlike (let P : List ℕ → Type 0 = λ l. BeginsWith text l in subst P (sym is) begins);
} where
  loud : (is_quiet a.stage ≡ false) ⊎ (0 < a.numbers) → a.numbers ≡ 0 → is_quiet a.stage ≡ true → ⊥
  loud (inl f) zero quiet = both_ways (is_quiet a.stage) f quiet
  loud (inr some) zero quiet = omega (arith, some, zero)

-- a death that is told whole, in a catalogue with so many free clusters
pub told_nexts : (i : ℕ) (c : Cat) (text : List ℕ) (a : Death) (ns : Spared ℕ) (d : Cat) (line : List ℕ) → ns.items ≡ [] → is_told a ≡ true → is_eighth a.node ≡ true → a.clusters < 2 ^ 32
    → Accounted c → a.clusters ≤ free_clusters c → d ≡ dead c a.node a.clusters []
    → line ≡ line_text i (Died a.node a.stage a.clusters ns) → text ≡ line ++ drop (length line) text → length line ≤ length text → IsNext i c text d (length line) false true
told_nexts i c text a ns d line none told node k accounted free is =
    let e : d ≡ dead c a.node a.clusters ns.items = is ∙ ap (dead c a.node a.clusters) (sym none) in
    let quiet = (and_parts (is_quiet a.stage) (a.numbers == 0) told).0 in
    let unused : are_free c ns.items ≡ true = ap (are_free c) none in
    let few : length ns.items ≤ free_count c = omega (arith, ap length none) in
    entry_nexts i c text (Died a.node a.stage a.clusters ns) d true line (none, k) refl refl (node, quiet, (free, unused, few), e) (subst Accounted (sym is) (dead_keeps c a.node a.clusters [] accounted))

-- one with more clusters than are free
pub told_illegal : (i : ℕ) (c : Cat) (text : List ℕ) (a : Death) (ns : Spared ℕ) → ns.items ≡ [] → is_told a ≡ true → free_clusters c < a.clusters → IsDeathStep i c text a step.Stop
told_illegal i c text a ns none told less =
    told_steps i c text a ns step.Stop none told (illegal_stops i c text (Died a.node a.stage a.clusters ns) (λ d legal. let within : a.clusters ≤ free_clusters c = legal.2.0 in omega (arith, within, less)))

-- one whose line does not begin the text
pub told_stops : (i : ℕ) (c : Cat) (text : List ℕ) (a : Death) (ns : Spared ℕ) (line : List ℕ) → ns.items ≡ [] → is_told a ≡ true → line ≡ line_text i (Died a.node a.stage a.clusters ns)
    → (BeginsWith text line → ⊥) → IsDeathStep i c text a step.Stop
told_stops i c text a ns line none told is unlike = told_steps i c text a ns step.Stop none told (unlike_stops i c text (Died a.node a.stage a.clusters ns) line is unlike)
