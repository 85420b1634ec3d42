-- Each step of a node leaves less to be done: its turn, or the death in its place; and there is little at first.
use Rattle.std.proofs.Common.{◌≡◌, ◌≢◌, ◌⊎◌, ◌≤◌, ◌<◌, ◌+◌, ◌-◌, ◌*◌, ◌==◌, ℕ, zero, suc, Bool, true, false, cond, List, [], ◌∷◌, Option, Some, None, length, slice_get, refl, sym, ap, ◌∙◌, inl, inr, arith}
use Rattle.std.proofs.lemmas.Bool.Decides.{nat_tests}
use Rattle.plain_cat.specs.declared.command.Cmd.{Cmd}
use Rattle.plain_cat.specs.declared.script.Line.{Line}
use Rattle.plain_cat.specs.declared.script.Script.{Script}
use Rattle.plain_rules.specs.Own.{lines_of}
use Rattle.vol_parts.specs.declared.geometry.Geometry.{Geometry}
use Rattle.node_locks.specs.Held.{Row}
use Rattle.core_space.specs.declared.run.Phase.{Phase}
use Rattle.core_space.specs.declared.run.Phase.TheVariants as phase
use Rattle.core_space.specs.declared.run.SpaceRun.{SpaceRun}
use Rattle.core_space.specs.Rule.{is_reader}
use Rattle.lock_db.specs.declared.name.LockName.TheVariants.{X}
use Rattle.core_state.specs.Worlds.{Stock, NodeState, Plain, node_at, set_node, with_node}
use Rattle.core_state.specs.Goods.{Good}
use Rattle.core_state.specs.Event.{Event, Stand}
use Rattle.core_state.specs.Event as event
use Rattle.core_state.specs.Events.{mode_in, is_out, stands, next_event, turned, after_turn, is_over_in, is_over}
use Rattle.core_state.specs.Deaths.{gone, died_at, died, is_due}
use Rattle.core_ends.specs.Measure.{return_by, return_left, steps_of, command_steps, answers_left, rest_of, left_in, left_from, left, Changes, StepsLeaveLess, StepsLeaveNoMore, SomeIsLeft, LittleIsLeft}
use Rattle.core_ends.proofs.Sums.{same_some, none_some, node_less, alive_left}
use Rattle.core_ends.proofs.Bounds.{without_steps, room}
use Rattle.core_ends.proofs.Falling.{node_most, stands_still, turns_leave_less}
use Rattle.core_ends.proofs.Begun.{goes_lawfully}
use Rattle.core_ends.proofs.Turning.{is_stand, goes_on}
use Rattle.vol_faults.proofs.WalkLemmas.{or-all}

-- ---- what a node has left, where it is not over

answers_some : (lines answered : ℕ) → 0 < answers_left lines answered
answers_some lines answered = omega arith

node_some : (w : Plain) (good : Good w) (n : ℕ) (s : NodeState) → node_at w.nodes n ≡ Some s → is_out s ≡ false → 0 < left_in w.script n s
node_some w good n s at on = by_cmd s.cmd refl where
  by_cmd : (o : Option Cmd) → s.cmd ≡ o → 0 < left_in w.script n s
  by_cmd None e =
      let a = alive_left w.script n s on in
      let b = without_steps w good n s at e in
      let c = answers_some (length (lines_of n w.script.lines)) s.past.answered in
      omega arith
  by_cmd (Some x) e = let a = alive_left w.script n s on in let b = room w good n s at x e in omega arith

-- that of one node is at most that of all
one_most : (script : Script) (nodes : List NodeState) (k j i : ℕ) (s : NodeState) → slice_get nodes j ≡ Some s → k + j ≡ i → left_in script i s ≤ left_from script k nodes
one_most script [] k j i s at here = absurd (none_some s at)
one_most script (x ∷ xs) k zero i s at here =
    let e : x ≡ s = same_some x s at in
    let m : i ≡ k = omega arith in
    let h : left_in script i s ≡ left_in script k x = (λ t. left_in script (m t) (sym e t)) in
    omega arith
one_most script (x ∷ xs) k (suc j) i s at here = let h = one_most script xs (suc k) j i s at (omega arith) in omega arith

node_of : (w : Plain) (n : ℕ) → is_over w n ≡ false → (s : NodeState) × (node_at w.nodes n ≡ Some s) × (is_out s ≡ false)
node_of w n alive = by_node (node_at w.nodes n) refl alive where
  by_node : (o : Option NodeState) → node_at w.nodes n ≡ o → is_over_in o ≡ false → (s : NodeState) × (node_at w.nodes n ≡ Some s) × (is_out s ≡ false)
  by_node None e f = absurd (let z : true ≡ false = f in cc)
  by_node (Some s) e f = (s, e, f)

pub some_is_left : SomeIsLeft
some_is_left w n good alive = by_number n (node_of w n alive) where
  by_number : (m : ℕ) → (s : NodeState) × (node_at w.nodes m ≡ Some s) × (is_out s ≡ false) → 0 < left w
  by_number zero (s, at, on) = absurd (none_some s at)
  by_number (suc j) (s, at, on) = let a = one_most w.script w.nodes 1 j (suc j) s at (omega arith) in let b = node_some w good (suc j) s at on in omega arith

death_less : (w : Plain) (n : ℕ) → Good w → is_over w n ≡ false → left (died w n) < left w
death_less w n good alive = by_node (node_of w n alive) where
  by_node : (s : NodeState) × (node_at w.nodes n ≡ Some s) × (is_out s ≡ false) → left (died w n) < left w
  by_node (s, at, on) =
      let a : left_in w.script n (gone s) ≡ 0 = ap (λ b. cond b 0 ((rest_of w.script n (gone s) - steps_of (gone s)) + return_left (gone s).seen.geometry (gone s).stock (gone s).kept (gone s).run)) (or-all s.over) in
      let b = node_some w good n s at on in
      let h : left (died_at w n (Some s)) < left w = node_less w n s (gone s) at (omega arith) in
      let e : left (died w n) ≡ left (died_at w n (Some s)) = ap (λ o. left (died_at w n o)) at in
      omega arith

-- a node that only waits leaves what was left
stand_most : (w : Plain) (n : ℕ) → is_over w n ≡ false → next_event w n ≡ Stand → left (after_turn w n) ≤ left w
stand_most w n alive e = by_node (node_of w n alive) where
  by_node : (s : NodeState) × (node_at w.nodes n ≡ Some s) × (is_out s ≡ false) → left (after_turn w n) ≤ left w
  by_node (s, at, on) = by_stands (stands w n s) refl where
    by_stands : (b : Bool) → stands w n s ≡ b → left (after_turn w n) ≤ left w
    by_stands false f = absurd (let z : true ≡ false = sym (ap is_stand e) ∙ goes_on w n s at f in cc)
    by_stands true f =
        let is : after_turn w n ≡ with_node w n (turned s) = stands_still w n s at on f in
        let a = ap left is in
        let h : left_from w.script 1 (set_node w.nodes n (turned s)) ≤ left w = node_most w n s (turned s) at (omega arith) in
        omega arith

is_stand_or : (e : Event) → (e ≡ Stand) ⊎ (e ≢ Stand)
is_stand_or event.Stand = inl refl
is_stand_or event.Rest = inr (λ f. cc)
is_stand_or event.Leave = inr (λ f. cc)
is_stand_or (event.Lock name mode) = inr (λ f. cc)
is_stand_or (event.Look name lbn) = inr (λ f. cc)
is_stand_or (event.Use name lbn) = inr (λ f. cc)
is_stand_or (event.Fetch lbn) = inr (λ f. cc)
is_stand_or (event.Claim p name mode) = inr (λ f. cc)
is_stand_or (event.SpaceLook k c lbn) = inr (λ f. cc)
is_stand_or (event.SpaceUse k c lbn) = inr (λ f. cc)
is_stand_or (event.SpaceWrite v) = inr (λ f. cc)
is_stand_or event.LowerV = inr (λ f. cc)
is_stand_or event.LowerX = inr (λ f. cc)
is_stand_or event.Return = inr (λ f. cc)
is_stand_or event.SpaceEnd = inr (λ f. cc)
is_stand_or (event.Plan p) = inr (λ f. cc)
is_stand_or (event.Write v) = inr (λ f. cc)
is_stand_or (event.Ask x a) = inr (λ f. cc)
is_stand_or (event.Answer x r) = inr (λ f. cc)

pub waits_or_not : (e : Event) → (e ≡ Stand) ⊎ (e ≢ Stand)
waits_or_not = is_stand_or

pub steps_leave_less : StepsLeaveLess
steps_leave_less w n good after alive changes = by_due (is_due w n) refl changes after where
  by_due : (b : Bool) → is_due w n ≡ b → Changes w n → Good (cond b (died w n) (after_turn w n)) → left (cond b (died w n) (after_turn w n)) < left w
  by_due true e change then = death_less w n good alive
  by_due false e (inl f) then = absurd (let z : true ≡ false = sym f ∙ e in cc)
  by_due false e (inr ne) then = turns_leave_less w n good (goes_lawfully w good n then) alive ne

pub steps_leave_no_more : StepsLeaveNoMore
steps_leave_no_more w n good after alive = by_due (is_due w n) after where
  by_due : (b : Bool) → Good (cond b (died w n) (after_turn w n)) → left (cond b (died w n) (after_turn w n)) ≤ left w
  by_due true then = let h = death_less w n good alive in omega arith
  by_due false then = elim (waits_or_not (next_event w n)) [
    | inl e ↦ stand_most w n alive e
    | inr ne ↦ let h = turns_leave_less w n good (goes_lawfully w good n then) alive ne in omega arith
  ]

-- ---- what is left at most

back_most : (g : Geometry) (stock : Stock) (kept : Row) (run : SpaceRun) → return_left g stock kept run ≤ 80
back_most g stock kept run = by_test (is_reader (mode_in X kept)) (by_phase run.phase) where
  by_phase : (p : Phase) → return_by g stock run p ≤ 80
  by_phase phase.Off = omega arith
  by_phase phase.Fill = omega arith
  by_phase phase.Drain = omega arith
  by_phase phase.Last = omega arith
  by_phase phase.Back = omega arith

  by_test : (b : Bool) → return_by g stock run run.phase ≤ 80 → cond b (return_by g stock run run.phase) 0 ≤ 80
  by_test true le = le
  by_test false le = omega arith

in_most : (script : Script) (n : ℕ) (s : NodeState) → left_in script n s + 1 ≤ command_steps * (length (lines_of n script.lines) + 1)
in_most script n s = by_out (is_out s) where
  by_out : (b : Bool) → cond b 0 ((rest_of script n s - steps_of s) + return_left s.seen.geometry s.stock s.kept s.run) + 1 ≤ command_steps * (length (lines_of n script.lines) + 1)
  by_out true = omega arith
  by_out false = let a = back_most s.seen.geometry s.stock s.kept s.run in omega arith

-- the lines of the nodes of this list, of which the first has the number k
lines_from : List Line → ℕ → List NodeState → ℕ
lines_from ls k [] = 0
lines_from ls k (s ∷ ss) = length (lines_of k ls) + lines_from ls (suc k) ss

from_most : (script : Script) (k : ℕ) (nodes : List NodeState) → left_from script k nodes + length nodes ≤ command_steps * (lines_from script.lines k nodes + length nodes)
unfolding lines_from
from_most script k [] = omega arith
from_most script k (s ∷ ss) = let a = in_most script k s in let b = from_most script (suc k) ss in omega arith

none_more : (l : Line) (ls : List Line) (k : ℕ) (nodes : List NodeState) → l.node < k → lines_from (l ∷ ls) k nodes ≡ lines_from ls k nodes
unfolding lines_from
none_more l ls k [] lt = refl
none_more l ls k (s ∷ ss) lt =
    let e : (l.node == k) ≡ false = grind (arith, nat_tests) in
    let a : length (lines_of k (l ∷ ls)) ≡ length (lines_of k ls) = ap (λ b. length (cond b (l.cmd ∷ lines_of k ls) (lines_of k ls))) e in
    let b = none_more l ls (suc k) ss (omega arith) in
    omega arith

one_more : (l : Line) (ls : List Line) (k : ℕ) (nodes : List NodeState) → lines_from (l ∷ ls) k nodes ≤ lines_from ls k nodes + 1
unfolding lines_from
one_more l ls k [] = omega arith
one_more l ls k (s ∷ ss) = by_test (l.node == k) refl (one_more l ls (suc k) ss) where
  by_test : (b : Bool) → (l.node == k) ≡ b → lines_from (l ∷ ls) (suc k) ss ≤ lines_from ls (suc k) ss + 1 → length (cond b (l.cmd ∷ lines_of k ls) (lines_of k ls)) + lines_from (l ∷ ls) (suc k) ss ≤ length (lines_of k ls) + lines_from ls (suc k) ss + 1
  by_test true e rest =
      let same : l.node ≡ k = same_number l.node k e in
      let a = none_more l ls (suc k) ss (omega arith) in
      omega arith where
        same_number : (a b : ℕ) → (a == b) ≡ true → a ≡ b
        same_number a b e = grind (arith, nat_tests)
  by_test false e rest = omega arith

no_lines : (k : ℕ) (nodes : List NodeState) → lines_from [] k nodes ≤ 0
unfolding lines_from
no_lines k [] = omega arith
no_lines k (s ∷ ss) = let h = no_lines (suc k) ss in omega arith

all_lines : (ls : List Line) (k : ℕ) (nodes : List NodeState) → lines_from ls k nodes ≤ length ls
all_lines [] k nodes = no_lines k nodes
all_lines (l ∷ ls) k nodes = let a = one_more l ls k nodes in let b = all_lines ls k nodes in omega arith

pub little_is_left : LittleIsLeft
little_is_left w = let a = from_most w.script 1 w.nodes in let b = all_lines w.script.lines 1 w.nodes in omega arith
