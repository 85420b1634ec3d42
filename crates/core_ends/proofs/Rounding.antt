-- Each step in rotation leaves one turn less to be made.
use Rattle.std.proofs.Common.{◌≡◌, ◌≢◌, ◌≤◌, ◌<◌, ◌+◌, ◌-◌, ◌*◌, ◌⊎◌, nat_lt, ℕ, zero, suc, Bool, true, false, cond, List, [], ◌∷◌, Option, Some, None, length, slice_get, refl, sym, ap, subst, ◌∙◌, inl, inr, arith}
use Rattle.std.proofs.lemmas.Bool.{cases_lt}
use Rattle.std.proofs.lemmas.Bool.Decides.{nat_tests}
use native.Mathlib.Nat.{suc-mul}
use Rattle.core_state.specs.Worlds.{NodeState, Plain, node_at, with_node}
use Rattle.core_state.specs.Goods.{Good, IsAccepted}
use Rattle.core_state.specs.Event.{Stand}
use Rattle.core_state.specs.Events.{is_out, event_of, event_now, next_event, prepared, after_turn, is_over_in, is_over, turned, stands}
use Rattle.core_state.specs.Deaths.{is_due, died, after_step}
use Rattle.core_state.proofs.Nodes.{at_here, at_else}
use Rattle.core_state.proofs.Preparing.{readied_is}
use Rattle.core_ends.specs.Measure.{command_steps, left, Changes}
use Rattle.core_ends.specs.Turns.{ahead, ComesNext, IsWithin, IsEnough, turns_of, TurnsAreEnough, StepsTakeOne, NoneIsLeft}
use Rattle.core_state.specs.Ends.{AllOver}
use Rattle.core_ends.proofs.Movers.{somebody_moves}
use Rattle.core_ends.proofs.Turning.{is_stand, goes_on}
use Rattle.core_ends.proofs.Falling.{stands_still}
use Rattle.core_ends.proofs.Stepping.{waits_or_not, steps_leave_less, steps_leave_no_more, little_is_left}

apart : true ≡ false → ⊥
apart e = cc

-- ---- a product

mul_up : (a b c : ℕ) → a ≤ b → a * c ≤ b * c
mul_up zero b c le = let e : 0 * c ≡ 0 = omega arith in omega arith
mul_up (suc a) zero c le = absurd (omega arith)
mul_up (suc a) (suc b) c le =
    let e : suc a * c ≡ a * c + c = suc-mul a c in
    let f : suc b * c ≡ b * c + c = suc-mul b c in
    let h = mul_up a b c (omega arith) in
    omega arith

mul_over : (a b c : ℕ) → a < b → a * c + c ≤ b * c
mul_over a b c lt = let e : suc a * c ≡ a * c + c = suc-mul a c in let h = mul_up (suc a) b c lt in omega arith

-- ---- who comes before whom

pub low_ahead : (count from m : ℕ) → m < from → ahead count from m ≡ (count + m) - from
low_ahead count from m lt = let e : nat_lt m from ≡ true = grind (arith, nat_tests) in ap (λ b. cond b ((count + m) - from) (m - from)) e

pub high_ahead : (count from m : ℕ) → from ≤ m → ahead count from m ≡ m - from
high_ahead count from m le = let e : nat_lt m from ≡ false = grind (arith, nat_tests) in ap (λ b. cond b ((count + m) - from) (m - from)) e

few_ahead : (count from m : ℕ) → 1 ≤ from → from ≤ count + 1 → 1 ≤ m → m ≤ count → ahead count from m < count
few_ahead count from m low top one last =
    elim (cases_lt m from) [
      | inl lt ↦ let e = low_ahead count from m lt in omega arith
      | inr le ↦ let e = high_ahead count from m le in omega arith
    ]

nearer : (count from n m : ℕ) → 1 ≤ from → from ≤ count + 1 → 1 ≤ n → n ≤ count → 1 ≤ m → m ≤ count → m ≢ n → ahead count from n ≤ ahead count from m → ahead count (n + 1) m < ahead count from m
nearer count from n m low top n_one n_last m_one m_last ne le =
    elim (cases_lt n from) [
      | inl n_lt ↦
          let a = low_ahead count from n n_lt in
          elim (cases_lt m from) [
            | inl m_lt ↦
                let b = low_ahead count from m m_lt in
                let more : n < m = behind n m ne (omega arith) in
                let c = high_ahead count (n + 1) m (omega arith) in
                omega arith
            | inr m_ge ↦ let b = high_ahead count from m m_ge in absurd (omega arith)
          ]
      | inr n_ge ↦
          let a = high_ahead count from n n_ge in
          elim (cases_lt m from) [
            | inl m_lt ↦
                let b = low_ahead count from m m_lt in
                let c = low_ahead count (n + 1) m (omega arith) in
                omega arith
            | inr m_ge ↦
                let b = high_ahead count from m m_ge in
                let more : n < m = behind n m ne (omega arith) in
                let c = high_ahead count (n + 1) m (omega arith) in
                omega arith
          ]
    ] where
      behind : (n m : ℕ) → m ≢ n → n ≤ m → n < m
      behind n m ne le = elim (cases_lt n m) [ inl lt ↦ lt | inr ge ↦ let e : m ≡ n = omega arith in absurd (ne e) ]

-- ---- who is a node

pub get_past : (nodes : List NodeState) (k : ℕ) → length nodes ≤ k → slice_get nodes k ≡ None
get_past [] k le = refl
get_past (s ∷ nodes) zero le = absurd (omega arith)
get_past (s ∷ nodes) (suc k) le = get_past nodes k (omega arith)

alive_within : (w : Plain) (m : ℕ) → is_over w m ≡ false → (1 ≤ m) × (m ≤ length w.nodes)
alive_within w zero e = absurd (apart e)
alive_within w (suc k) e = elim (cases_lt k (length w.nodes)) [
  | inl lt ↦ (omega arith, omega arith)
  | inr le ↦ absurd (apart (sym (ap is_over_in (get_past w.nodes k le)) ∙ e))
]

-- each node of a list is over, or one is not
over_or_not : (nodes : List NodeState) → ((k : ℕ) → is_over_in (slice_get nodes k) ≡ true) ⊎ ((k : ℕ) × (is_over_in (slice_get nodes k) ≡ false))
over_or_not [] = inl (λ k. refl)
over_or_not (s ∷ ss) = by_out (is_out s) refl (over_or_not ss) where
  all : is_out s ≡ true → ((k : ℕ) → is_over_in (slice_get ss k) ≡ true) → (k : ℕ) → is_over_in (slice_get (s ∷ ss) k) ≡ true
  all e more zero = e
  all e more (suc k) = more k

  by_out : (b : Bool) → is_out s ≡ b → ((k : ℕ) → is_over_in (slice_get ss k) ≡ true) ⊎ ((k : ℕ) × (is_over_in (slice_get ss k) ≡ false))
      → ((k : ℕ) → is_over_in (slice_get (s ∷ ss) k) ≡ true) ⊎ ((k : ℕ) × (is_over_in (slice_get (s ∷ ss) k) ≡ false))
  by_out false e more = inr (0, e)
  by_out true e (inl more) = inl (all e more)
  by_out true e (inr p) = inr (suc p.0, p.1)

all_over : (w : Plain) → ((k : ℕ) → is_over_in (slice_get w.nodes k) ≡ true) → AllOver w
all_over w h zero = refl
all_over w h (suc k) = h k

-- a world whose nodes are not over has a node that moves, and its turn comes within those of all nodes
enough_of : (turns : ℕ) (w : Plain) (from : ℕ) → 1 ≤ from → from ≤ length w.nodes + 1 → Good w → IsAccepted w.opening → left w * length w.nodes + length w.nodes ≤ turns → IsEnough turns w from
enough_of turns w from low top good accepted le = elim (over_or_not w.nodes) [
  | inl h ↦ inl (all_over w h)
  | inr p ↦
      let m = somebody_moves w (suc p.0) good accepted p.1 in
      let q = alive_within w m.0 m.1.0 in
      let few = few_ahead (length w.nodes) from m.0 low top q.0 q.1 in
      inr (record { mover = m.0; moves = m.1; near = omega arith })
]

-- ---- a node that only waits

stand_is : (w : Plain) (n : ℕ) → is_over w n ≡ false → next_event w n ≡ Stand → (s : NodeState) × (node_at w.nodes n ≡ Some s) × (after_turn w n ≡ with_node w n (turned s))
stand_is w n alive e = by_node (node_at w.nodes n) refl alive where
  by_node : (o : Option NodeState) → node_at w.nodes n ≡ o → is_over_in o ≡ false → (s : NodeState) × (node_at w.nodes n ≡ Some s) × (after_turn w n ≡ with_node w n (turned s))
  by_node None at on = absurd (apart on)
  by_node (Some s) at on = by_stands (stands w n s) refl where
    by_stands : (b : Bool) → stands w n s ≡ b → (t : NodeState) × (node_at w.nodes n ≡ Some t) × (after_turn w n ≡ with_node w n (turned t))
    by_stands true f = (s, at, stands_still w n s at on f)
    by_stands false f = absurd (apart (sym (ap is_stand e) ∙ goes_on w n s at f))

-- it leaves who is over, and what comes next at the others
over_there : (w : Plain) (n m : ℕ) → is_over w n ≡ false → next_event w n ≡ Stand → is_over w m ≡ false → m ≢ n → is_over (after_turn w n) m ≡ false
over_there w n m on e alive ne =
    let p = stand_is w n on e in
    let q : node_at (with_node w n (turned p.0)).nodes m ≡ node_at w.nodes m = at_else w.nodes n m (turned p.0) ne in
    ap (λ (v : Plain). is_over v m) p.2 ∙ (ap is_over_in q ∙ alive)

event_is : (w : Plain) (m : ℕ) (q : NodeState) → node_at w.nodes m ≡ Some q → next_event w m ≡ event_of (with_node w m (prepared w m q)) m (Some (prepared w m q))
event_is w m q at = ap (λ v. event_now v m) (readied_is w m q (prepared w m q) at refl) ∙ ap (event_of (with_node w m (prepared w m q)) m) (at_here w.nodes m (prepared w m q) q at)

event_there : (w : Plain) (n m : ℕ) → is_over w n ≡ false → next_event w n ≡ Stand → is_over w m ≡ false → m ≢ n → next_event (after_turn w n) m ≡ next_event w m
event_there w n m on e alive ne = by_node (node_at w.nodes m) refl alive where
  p : (s : NodeState) × (node_at w.nodes n ≡ Some s) × (after_turn w n ≡ with_node w n (turned s))
  p = stand_is w n on e

  by_node : (o : Option NodeState) → node_at w.nodes m ≡ o → is_over_in o ≡ false → next_event (after_turn w n) m ≡ next_event w m
  by_node None at f = absurd (apart f)
  by_node (Some q) at f =
      let there : node_at (with_node w n (turned p.0)).nodes m ≡ Some q = at_else w.nodes n m (turned p.0) ne ∙ at in
      ap (λ (v : Plain). next_event v m) p.2 ∙ (event_is (with_node w n (turned p.0)) m q there ∙ sym (event_is w m q at))

-- ---- a step

module _ (turns : ℕ) (w : Plain) (from n : ℕ) (low : 1 ≤ from) (top : from ≤ length w.nodes + 1) (good : Good w) (next : ComesNext w from n) (after : Good (after_step w n)) (accepted : IsAccepted (after_step w n).opening)
    (same : length (after_step w n).nodes ≡ length w.nodes) (within : IsWithin (suc turns) w from) where
  here : (1 ≤ n) × (n ≤ length w.nodes)
  here = alive_within w n next.alive

  changed : Changes w n → IsEnough turns (after_step w n) (n + 1)
  changed change =
      let less = steps_leave_less w n good after next.alive change in
      let le = mul_over (left (after_step w n)) (left w) (length w.nodes) less in
      let near = within.near in
      let a = here.1 in
      let e : left (after_step w n) * length (after_step w n).nodes ≡ left (after_step w n) * length w.nodes = ap (λ c. left (after_step w n) * c) same in
      enough_of turns (after_step w n) (n + 1) (omega arith) (omega arith) after accepted (omega arith)

  waited : is_due w n ≡ false → next_event w n ≡ Stand → IsEnough turns (after_step w n) (n + 1)
  waited calm e =
      let m : ℕ = within.mover in
      let turn : after_step w n ≡ after_turn w n = ap (λ b. cond b (died w n) (after_turn w n)) calm in
      let other : within.mover ≢ n = λ (f : within.mover ≡ n). within.moves.1 (ap (next_event w) f ∙ e) in
      let there : is_over (after_step w n) within.mover ≡ false = ap (λ (v : Plain). is_over v within.mover) turn ∙ over_there w n within.mover next.alive e within.moves.0 other in
      let still : next_event (after_step w n) within.mover ≡ next_event w within.mover = ap (λ (v : Plain). next_event v within.mover) turn ∙ event_there w n within.mover next.alive e within.moves.0 other in
      let q = alive_within w within.mover within.moves.0 in
      let closer = nearer (length w.nodes) from n within.mover low top here.0 here.1 q.0 q.1 other (next.first within.mover within.moves.0) in
      let no_more = mul_up (left (after_step w n)) (left w) (length w.nodes) (steps_leave_no_more w n good after next.alive) in
      let near = within.near in
      let e : left (after_step w n) * length (after_step w n).nodes ≡ left (after_step w n) * length w.nodes = ap (λ c. left (after_step w n) * c) same in
      let f : ahead (length (after_step w n).nodes) (n + 1) within.mover ≡ ahead (length w.nodes) (n + 1) within.mover = ap (λ c. ahead c (n + 1) within.mover) same in
      inr (record { mover = within.mover; moves = (there, λ (g : next_event (after_step w n) within.mover ≡ Stand). within.moves.1 (sym still ∙ g)); near = omega arith })

  pub takes_one : IsEnough turns (after_step w n) (n + 1)
  takes_one = by_due (is_due w n) refl where
    by_due : (b : Bool) → is_due w n ≡ b → IsEnough turns (after_step w n) (n + 1)
    by_due true due = changed (inl due)
    by_due false calm = elim (waits_or_not (next_event w n)) [ inl e ↦ waited calm e | inr ne ↦ changed (inr ne) ]

pub steps_take_one : StepsTakeOne
steps_take_one turns w from n low top good next after accepted same (inl over) = absurd (apart (sym (over n) ∙ next.alive))
steps_take_one turns w from n low top good next after accepted same (inr within) = takes_one turns w from n low top good next after accepted same within

pub turns_are_enough : TurnsAreEnough
turns_are_enough w good accepted =
    enough_of (turns_of w) w 1 (omega arith) (omega arith) good accepted (by_count (length w.nodes) refl) where
      nothing : (a b : ℕ) → a * 0 + 0 ≤ b * 0
      nothing a b = omega arith

      by_count : (c : ℕ) → length w.nodes ≡ c → left w * length w.nodes + length w.nodes ≤ (command_steps * (length w.script.lines + length w.nodes)) * length w.nodes
      by_count zero e = subst (λ c. left w * c + c ≤ (command_steps * (length w.script.lines + length w.nodes)) * c) (sym e) (nothing (left w) (command_steps * (length w.script.lines + length w.nodes)))
      by_count (suc k) e = let few = little_is_left w in mul_over (left w) (command_steps * (length w.script.lines + length w.nodes)) (length w.nodes) (omega arith)

pub none_is_left : NoneIsLeft
none_is_left w from (inl over) = over
none_is_left w from (inr within) = absurd (let h = within.near in omega arith)
