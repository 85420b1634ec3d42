-- A script has a node at least, so what holds of every list of events holds of its events.
use Rattle.std.proofs.Common.{◌≡◌, ◌≤◌, ◌+◌, ◌++◌, ℕ, Bool, true, false, List, [], ◌∷◌, Option, Some, None, Result, Ok, Err, codes, leb, length, take, refl, if◌then◌else◌}
use Rattle.dlm_core.specs.declared.events.Event.{Event}
use Rattle.dlm_core.specs.declared.rules.BlockRule.TheVariants.{OfAll}
use Rattle.dlm_core.specs.States.{start}
use Rattle.dlm_core.specs.Answers.{AnswersAreTrue}
use Rattle.dlm_core.specs.Runs.{after_all, AllGoTogether, TablesGoByCalls, GrantsAreTrue}
use Rattle.dlm_run.specs.Statuses.{KeepsTheRules}
use Rattle.run_script.specs.Grammar.{is_skipped}
use Rattle.run_script.specs.Lines.{lines_of}
use Rattle.run_script.proofs.Numerals.{number-sound}
use Rattle.dlm_run.specs.declared.script.Fault.TheVariants.{TooMany}
use Rattle.dlm_run.specs.Plays.{Play}
use Rattle.dlm_run.specs.Reading.{word_at, decimal_of, has_form, nodes_of, event_of, Begun, with_event, with_nodes, line_taken, taken_line, ended_at, then_read, read_from, nothing_read, script_of}

abbrev HasNode : Option ℕ → Type 0
HasNode None = Unit {0}
HasNode (Some n) = 1 ≤ n

ok-same : {A E : Type 0} (a b : A) (r : Result A E) → r ≡ Ok a → r ≡ Ok b → a ≡ b
ok-same a b r e f = cc

nodes-low : (line : List ℕ) → HasNode (nodes_of line)
unfolding nodes_of
nodes-low line =
    (elim (has_form 2 (codes "NODES") line) as (λ b. HasNode (if b then decimal_of 1 8 (word_at 1 line) else None)) [
      | true ↦ (elim (decimal_of 1 8 (word_at 1 line)) as (λ o. decimal_of 1 8 (word_at 1 line) ≡ o → HasNode o) [ None ↦ λ e. tt | Some n ↦ λ e. (number-sound 10 1 8 (word_at 1 line) n e).0 ]) refl
      | false ↦ tt
    ])

nodes-taken : (o : Option ℕ) (at : ℕ) (b : Begun) → HasNode o → with_nodes o at ≡ Ok b → HasNode b.nodes
nodes-taken None at b h e = cc
nodes-taken (Some n) at b h e = let q = ok-same (record { nodes = Some n; events = [] }) b _ refl e in rw (← q) h

event-taken : (o : Option Event) (at n : ℕ) (es : List Event) (b : Begun) → 1 ≤ n → with_event o at n es ≡ Ok b → HasNode b.nodes
event-taken None at n es b h e = cc
event-taken (Some ev) at n es b h e =
    (elim (leb 4096 (length es)) as (λ (c : Bool). (if c then Err TooMany else Ok (record { nodes = Some n; events = es ++ ev ∷ [] })) ≡ Ok b → HasNode b.nodes) [
      | true ↦ λ f. cc
      | false ↦ λ f. let q = ok-same (record { nodes = Some n; events = es ++ ev ∷ [] }) b _ refl f in rw (← q) h
    ]) e

line-taken : (o : Option ℕ) (at : ℕ) (line : List ℕ) (es : List Event) (b : Begun) → HasNode o → line_taken o at line es ≡ Ok b → HasNode b.nodes
line-taken None at line es b h e = nodes-taken (nodes_of line) at b (nodes-low line) e
line-taken (Some n) at line es b h e = event-taken (event_of n line) at n es b h e

taken-line : (at : ℕ) (line : List ℕ) (b c : Begun) → HasNode b.nodes → taken_line at line b ≡ Ok c → HasNode c.nodes
unfolding taken_line
taken-line at line b c h e =
    (elim (is_skipped line) as (λ k. (if k then Ok b else line_taken b.nodes at line b.events) ≡ Ok c → HasNode c.nodes) [
      | true ↦ λ f. let q = ok-same b c _ refl f in rw (← q) h
      | false ↦ λ f. line-taken b.nodes at line b.events c h f
    ]) e

ended-low : (at : ℕ) (o : Option ℕ) (es : List Event) (p : Play) → HasNode o → ended_at at o es ≡ Ok p → 1 ≤ p.nodes
ended-low at None es p h e = cc
ended-low at (Some n) es p h e = let q = ok-same (record { nodes = n; events = es }) p _ refl e in rw (← q) h

read-low : (lines : List (List ℕ)) (at : ℕ) (b : Begun) (p : Play) → HasNode b.nodes → read_from at lines b ≡ Ok p → 1 ≤ p.nodes
read-low [] at b p h e = ended-low at b.nodes b.events p h e
read-low (line ∷ lines) at b p h e =
    (elim (taken_line at line b) as (λ r. taken_line at line b ≡ r → then_read r (read_from (at + 1) lines) ≡ Ok p → 1 ≤ p.nodes) [
      | Ok c ↦ λ f g. read-low lines (at + 1) c p (taken-line at line b c h f) g
      | Err x ↦ λ f g. cc
    ]) refl e

pub script_nodes : (bytes : List ℕ) (p : Play) → script_of bytes ≡ Ok p → 1 ≤ p.nodes
script_nodes bytes p e = read-low (lines_of bytes) 1 nothing_read p tt e

pub script_rules : (bytes : List ℕ) (p : Play) → script_of bytes ≡ Ok p → AllGoTogether → AnswersAreTrue → TablesGoByCalls → GrantsAreTrue → KeepsTheRules p
script_rules bytes p e a t b c =
    let l : 1 ≤ p.nodes = script_nodes bytes p e in
    record {
      safe = λ i. a OfAll p.nodes (take i p.events) l;
      answers = λ done later f q. t (after_all (start OfAll p.nodes) done) f;
      calls = λ done later f q. b OfAll p.nodes done f l;
      grants = λ done later f owner name mode value valid q g. c OfAll p.nodes done f owner name mode value valid l g;
    }
