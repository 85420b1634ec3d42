-- A run ends within its turns.
use Rattle.std.proofs.Common.{◌≡◌, ◌≤◌, ◌<◌, ◌+◌, ◌-◌, ◌*◌, ℕ, zero, suc, Bool, true, false, cond, List, Option, Some, None, length, refl, sym, ap, subst, ◌∙◌, inl, inr, arith}
use Rattle.std.proofs.lemmas.Bool.{cases_lt}
use Rattle.std.proofs.Math.Nat.{mul_right_comm}
use Rattle.core_state.specs.Worlds.{Plain}
use Rattle.core_state.specs.Goods.{Good, IsAccepted}
use Rattle.core_state.specs.Deaths.{after_step}
use Rattle.core_state.specs.Events.{is_over}
use Rattle.core_ends.specs.Measure.{command_steps}
use Rattle.core_ends.specs.Turns.{ahead, ComesNext, IsEnough, turns_of}
use Rattle.core_ends.proofs.Rounding.{turns_are_enough, steps_take_one, none_is_left, low_ahead, high_ahead}
use Rattle.run_engine.specs.Walks.{first_from, or_first, next_from, budget_of, played, Stays}
use Rattle.core_state.specs.Ends.{AllOver}
use Rattle.run_engine.proofs.Rotating.{found_within, none_within, past_over, next_alive}
use Rattle.run_engine.proofs.Staying.{step_stays, plays_stay}

apart : true ≡ false → ⊥
apart e = cc

-- ---- who is passed over

least_step : (w : Plain) (from k n x : ℕ) → (first_from w (from + 1) k ≡ Some n → from + 1 ≤ x → x < n → is_over w x ≡ true)
    → (b : Bool) → is_over w from ≡ b → cond b (first_from w (from + 1) k) (Some from) ≡ Some n → from ≤ x → x < n → is_over w x ≡ true
least_step w from k n x more true over f low high =
    elim (cases_lt from x) [
      | inl lt ↦ more f (omega arith) high
      | inr le ↦ let h : x ≡ from = omega arith in ap (λ m. is_over w m) h ∙ over
    ]
least_step w from k n x more false alive f low high = let h : n ≡ from = cc in absurd (omega arith)

least : (w : Plain) (from k n x : ℕ) → first_from w from k ≡ Some n → from ≤ x → x < n → is_over w x ≡ true
unfolding first_from
least w from zero n x e low high = absurd (let f : None ≡ Some n = e in cc)
least w from (suc k) n x e low high = least_step w from k n x (least w (from + 1) k n x) (is_over w from) refl e low high

-- ---- who comes before whom

module _ (w : Plain) (from n m : ℕ) (low : 1 ≤ from) (top : from ≤ length w.nodes + 1) (alive : is_over w m ≡ false) where
  -- of those from a number on, the first is not behind it
  first_low : (start k : ℕ) → first_from w start k ≡ Some n → start ≤ m → n ≤ m
  first_low start k e le = elim (cases_lt m n) [
    | inl lt ↦ absurd (apart (sym (least w start k n m e le lt) ∙ alive))
    | inr ge ↦ ge
  ]

  within : m < length w.nodes + 1
  within = elim (cases_lt (length w.nodes) m) [ inl lt ↦ absurd (apart (sym (past_over w m lt) ∙ alive)) | inr le ↦ omega arith ]

  one : 1 ≤ m
  one = elim (cases_lt m 1) [ inl lt ↦ let e : m ≡ 0 = omega arith in absurd (let z : is_over w m ≡ true = ap (λ k. is_over w k) e in apart (sym z ∙ alive)) | inr le ↦ le ]

  behind : first_from w from (length w.nodes + 1 - from) ≡ Some n → ahead (length w.nodes) from n ≤ ahead (length w.nodes) from m
  behind e =
      let p = found_within w from (length w.nodes + 1 - from) n e in
      let a = high_ahead (length w.nodes) from n p.from in
      elim (cases_lt m from) [
        | inl lt ↦ let b = low_ahead (length w.nodes) from m lt in let c = p.to in let d = one in omega arith
        | inr le ↦ let b = high_ahead (length w.nodes) from m le in let c = first_low from (length w.nodes + 1 - from) e le in omega arith
      ]

  around : first_from w from (length w.nodes + 1 - from) ≡ None → first_from w 1 (length w.nodes) ≡ Some n → ahead (length w.nodes) from n ≤ ahead (length w.nodes) from m
  around none e =
      let c = within in
      let lt : m < from = elim (cases_lt m from) [ inl lt ↦ lt | inr le ↦ absurd (apart (sym (none_within w from (length w.nodes + 1 - from) m none le (omega arith)) ∙ alive)) ] in
      let le = first_low 1 (length w.nodes) e one in
      let a = low_ahead (length w.nodes) from m lt in
      let b = low_ahead (length w.nodes) from n (omega arith) in
      omega arith

  not_behind : next_from w from ≡ Some n → ahead (length w.nodes) from n ≤ ahead (length w.nodes) from m
  unfolding next_from
  not_behind e = by (first_from w from (length w.nodes + 1 - from)) refl e where
    by : (o : Option ℕ) → first_from w from (length w.nodes + 1 - from) ≡ o → or_first o (first_from w 1 (length w.nodes)) ≡ Some n → ahead (length w.nodes) from n ≤ ahead (length w.nodes) from m
    by (Some x) is f = behind (is ∙ f)
    by None is f = around is f

comes_next : (w : Plain) (from n : ℕ) → 1 ≤ from → from ≤ length w.nodes + 1 → Some n ≡ next_from w from → ComesNext w from n
comes_next w from n low top next = record { alive = next_alive w from (Some n) low next; first = λ m alive. not_behind w from n m low top alive (sym next) }

-- ---- the turns of a run

budget_is : (w : Plain) → budget_of w ≡ turns_of w
unfolding budget_of
budget_is w = mul_right_comm command_steps (length w.nodes) (length w.script.lines + length w.nodes)

-- at first they are enough
pub enough_at_first : (w : Plain) (budget : ℕ) → budget ≡ budget_of w → Good w → IsAccepted w.opening → IsEnough (budget - 0) w 1
enough_at_first w budget is good accepted =
    let e : turns_of w ≡ budget - 0 = sym (budget_is w) ∙ sym is ∙ (let z : budget ≡ budget - 0 = omega arith in z) in
    subst (λ k. IsEnough k w 1) e (turns_are_enough w good accepted)

-- and those that are left are enough after each
pub enough_after : (budget turns : ℕ) (w : Plain) (from n : ℕ) (new : Plain) → turns < budget → 1 ≤ from → from ≤ length w.nodes + 1 → Some n ≡ next_from w from → new ≡ after_step w n
    → Good w → Good new → IsAccepted new.opening → IsEnough (budget - turns) w from → IsEnough (budget - (turns + 1)) new (n + 1)
enough_after budget turns w from n new lt low top next is good after accepted enough =
    let e : budget - turns ≡ suc (budget - (turns + 1)) = omega arith in
    subst (λ (v : Plain). IsEnough (budget - (turns + 1)) v (n + 1)) (sym is)
    (steps_take_one (budget - (turns + 1)) w from n low top good (comes_next w from n low top next) (subst Good is after) (subst (λ (v : Plain). IsAccepted v.opening) is accepted) (step_stays w n).count
    (subst (λ k. IsEnough k w from) e enough))

-- after the last every node is over
pub over_at_last : (budget turns : ℕ) (w : Plain) (from : ℕ) → budget ≤ turns → IsEnough (budget - turns) w from → AllOver w
over_at_last budget turns w from le enough = let e : budget - turns ≡ 0 = omega arith in none_is_left w from (subst (λ k. IsEnough k w from) e enough)

-- a world to which plays have led has the turns of the first
budget_stays : (old new : Plain) → Stays old new → budget_of old ≡ budget_of new
unfolding budget_of
budget_stays old new same =
    let nodes : length new.nodes ≡ length old.nodes = same.count in
    let lines : length new.script.lines ≡ length old.script.lines = ap (λ s. length s.lines) same.script in
    sym (λ i. command_steps * nodes i * (lines i + nodes i))

pub budget_played : (old mid : Plain) (ns : List ℕ) → mid ≡ played ns old → budget_of old ≡ budget_of mid
budget_played old mid ns at = subst (λ v. budget_of old ≡ budget_of v) (sym at) (budget_stays old (played ns old) (plays_stay ns old))
