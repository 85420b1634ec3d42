-- The node whose turn comes in rotation.
use Rattle.std.proofs.Common.{◌≡◌, ◌≤◌, ◌<◌, ◌+◌, ◌-◌, ℕ, zero, suc, Bool, true, false, cond, Option, Some, None, IfSome, length, refl, sym, ap, subst, ◌∙◌, inl, inr, arith}
use Rattle.std.proofs.lemmas.Bool.{cases_lt}
use Rattle.core_state.specs.Worlds.{Plain, IsOfWorld}
use Rattle.core_state.specs.Deaths.{after_step}
use Rattle.core_state.specs.Events.{is_over_in, is_over}
use Rattle.run_engine.specs.Walks.{first_from, or_first, next_from, Rotation, with_turn, after_next, rotation}
use Rattle.core_state.specs.Ends.{AllOver}
use Rattle.core_ends.proofs.Rounding.{get_past}

-- ---- a search up to the last node, one number more

passes : (w : Plain) (from k : ℕ) → is_over w from ≡ true → first_from w from (suc k) ≡ first_from w (from + 1) k
unfolding first_from
passes w from k over = ap (λ (b : Bool). cond b (first_from w (from + 1) k) (Some from)) over

finds : (w : Plain) (from k : ℕ) → is_over w from ≡ false → first_from w from (suc k) ≡ Some from
unfolding first_from
finds w from k alive = ap (λ (b : Bool). cond b (first_from w (from + 1) k) (Some from)) alive

ends : (w : Plain) (from k : ℕ) → k ≡ 0 → first_from w from k ≡ None
unfolding first_from
ends w from k e = ap (λ j. first_from w from j) e

pub search_passes : (w : Plain) (from last : ℕ) → from ≤ last → is_over w from ≡ true → first_from w from (last + 1 - from) ≡ first_from w (from + 1) (last + 1 - (from + 1))
search_passes w from last le over =
    let e : last + 1 - from ≡ suc (last + 1 - (from + 1)) = omega arith in
    ap (λ j. first_from w from j) e ∙ passes w from (last + 1 - (from + 1)) over

pub search_finds : (w : Plain) (from last : ℕ) → from ≤ last → is_over w from ≡ false → first_from w from (last + 1 - from) ≡ Some from
search_finds w from last le alive =
    let e : last + 1 - from ≡ suc (last + 1 - (from + 1)) = omega arith in
    ap (λ j. first_from w from j) e ∙ finds w from (last + 1 - (from + 1)) alive

pub search_ends : (w : Plain) (from last : ℕ) → last < from → first_from w from (last + 1 - from) ≡ None
search_ends w from last lt = ends w from (last + 1 - from) (omega arith)

-- ---- what is found

-- a node that is found is one of those tried, and not over
pub record IsFound (w : Plain) (low high n : ℕ) : Type 0 where
  pub from : low ≤ n
  pub to : n < high
  pub alive : is_over w n ≡ false

wider : (w : Plain) (from k n : ℕ) → IsFound w (from + 1) (from + 1 + k) n → IsFound w from (from + suc k) n
wider w from k n p = record { from = omega (arith, p.from); to = omega (arith, p.to); alive = p.alive }

found_step : (w : Plain) (from k n : ℕ) → (first_from w (from + 1) k ≡ Some n → IsFound w (from + 1) (from + 1 + k) n)
    → (b : Bool) → is_over w from ≡ b → cond b (first_from w (from + 1) k) (Some from) ≡ Some n → IsFound w from (from + suc k) n
found_step w from k n more true over f = wider w from k n (more f)
found_step w from k n more false alive f =
    let h : n ≡ from = cc in
    record { from = omega (arith, h); to = omega (arith, h); alive = ap (λ m. is_over w m) h ∙ alive }

pub found_within : (w : Plain) (from k n : ℕ) → first_from w from k ≡ Some n → IsFound w from (from + k) n
unfolding first_from
found_within w from zero n e = absurd (let f : None ≡ Some n = e in cc)
found_within w from (suc k) n e = found_step w from k n (found_within w (from + 1) k n) (is_over w from) refl e

none_step : (w : Plain) (from k n : ℕ) → (first_from w (from + 1) k ≡ None → from + 1 ≤ n → n < from + 1 + k → is_over w n ≡ true)
    → (b : Bool) → is_over w from ≡ b → cond b (first_from w (from + 1) k) (Some from) ≡ None → from ≤ n → n < from + suc k → is_over w n ≡ true
none_step w from k n more true over f low high =
    elim (cases_lt from n) [
      | inl lt ↦ more f (omega arith) (omega arith)
      | inr le ↦ let h : n ≡ from = omega arith in ap (λ m. is_over w m) h ∙ over
    ]
none_step w from k n more false alive f low high = absurd (let g : Some from ≡ None = f in cc)

pub none_within : (w : Plain) (from k n : ℕ) → first_from w from k ≡ None → from ≤ n → n < from + k → is_over w n ≡ true
unfolding first_from
none_within w from zero n e low high = absurd (omega arith)
none_within w from (suc k) n e low high = none_step w from k n (none_within w (from + 1) k n) (is_over w from) refl e low high

-- ---- nodes that there are not

pub past_over : (w : Plain) (n : ℕ) → length w.nodes < n → is_over w n ≡ true
past_over w zero lt = absurd (omega arith)
past_over w (suc k) lt = ap is_over_in (get_past w.nodes k (omega arith))

-- ---- the next node

pub next_found : (w : Plain) (from n : ℕ) → 1 ≤ from → next_from w from ≡ Some n → IsFound w 1 (length w.nodes + 1) n
unfolding next_from
next_found w from n low e = by (first_from w from (length w.nodes + 1 - from)) refl e where
  by : (o : Option ℕ) → first_from w from (length w.nodes + 1 - from) ≡ o → or_first o (first_from w 1 (length w.nodes)) ≡ Some n → IsFound w 1 (length w.nodes + 1) n
  by (Some m) is f =
      let h : m ≡ n = cc in
      let p = found_within w from (length w.nodes + 1 - from) n (is ∙ f) in
      record { from = omega (arith, p.from); to = omega (arith, p.from, p.to); alive = p.alive }
  by None is f =
      let p = found_within w 1 (length w.nodes) n f in
      record { from = p.from; to = omega (arith, p.to); alive = p.alive }

pub none_next : (w : Plain) (from : ℕ) → next_from w from ≡ None → AllOver w
unfolding next_from
none_next w from e = by (first_from w from (length w.nodes + 1 - from)) e where
  all : first_from w 1 (length w.nodes) ≡ None → AllOver w
  all f zero = refl
  all f (suc k) = elim (cases_lt k (length w.nodes)) [
    | inl lt ↦ none_within w 1 (length w.nodes) (suc k) f (omega arith) (omega arith)
    | inr le ↦ past_over w (suc k) (omega arith)
  ]

  by : (o : Option ℕ) → or_first o (first_from w 1 (length w.nodes)) ≡ None → AllOver w
  by (Some m) f = absurd (let g : Some m ≡ None = f in cc)
  by None f = all f

-- what a search from this number on, and then one from node 1 on, say of the next node
pub found_first : (w : Plain) (from last n : ℕ) → last ≡ length w.nodes → first_from w from (last + 1 - from) ≡ Some n → next_from w from ≡ Some n
unfolding next_from
found_first w from last n count found =
    let e : first_from w from (length w.nodes + 1 - from) ≡ Some n = subst (λ (m : ℕ). first_from w from (m + 1 - from) ≡ Some n) count found in
    ap (λ o. or_first o (first_from w 1 (length w.nodes))) e

pub found_round : (w : Plain) (from last : ℕ) → last ≡ length w.nodes → first_from w from (last + 1 - from) ≡ None → first_from w 1 (last + 1 - 1) ≡ next_from w from
unfolding next_from
found_round w from last count none =
    let e : first_from w from (length w.nodes + 1 - from) ≡ None = subst (λ (m : ℕ). first_from w from (m + 1 - from) ≡ None) count none in
    let k : last + 1 - 1 ≡ length w.nodes = omega (arith, count) in
    ap (λ j. first_from w 1 j) k ∙ sym (ap (λ o. or_first o (first_from w 1 (length w.nodes))) e)

-- ---- what is told of it

pub next_alive : (w : Plain) (from : ℕ) (o : Option ℕ) → 1 ≤ from → o ≡ next_from w from → IfSome o (λ n. is_over w n ≡ false)
next_alive w from (Some n) low e = (next_found w from n low (sym e)).alive
next_alive w from None low e = tt

pub next_of_world : (w : Plain) (from : ℕ) (o : Option ℕ) → 1 ≤ from → o ≡ next_from w from → IfSome o (λ n. IsOfWorld w n)
next_of_world w from (Some n) low e = let p = next_found w from n low (sym e) in record { from = p.from; to = omega (arith, p.to) }
next_of_world w from None low e = tt

pub next_few : (w : Plain) (from count : ℕ) (o : Option ℕ) → count ≡ length w.nodes → count ≤ 8 → 1 ≤ from → o ≡ next_from w from → IfSome o (λ n. n ≤ 8)
next_few w from count (Some n) is few low e = let p = next_found w from n low (sym e) in omega (arith, p.to, is, few)
next_few w from count None is few low e = tt

pub next_over : (w : Plain) (from : ℕ) (o : Option ℕ) → o ≡ next_from w from → o ≡ None → AllOver w
next_over w from o e none = none_next w from (sym e ∙ none)

-- ---- one turn more

pub rotation_none : (r : Rotation) → rotation 0 r ≡ r
unfolding rotation
rotation_none r = refl

one_more : (k : ℕ) (r : Rotation) (world : Plain) (from n : ℕ) → rotation k r ≡ record { world = world; from = from } → next_from world from ≡ Some n
    → rotation (suc k) r ≡ with_turn (record { world = world; from = from }) (Some n)
unfolding rotation after_next
one_more k r world from n is next = ap after_next is ∙ ap (λ o. with_turn (record { world = world; from = from }) o) next

pub rotation_more : (k : ℕ) (r : Rotation) (world : Plain) (from n : ℕ) (new : Plain) → rotation k r ≡ record { world = world; from = from } → Some n ≡ next_from world from
    → new ≡ after_step world n → rotation (k + 1) r ≡ record { world = new; from = n + 1 }
rotation_more k r world from n new is next turn =
    let e : k + 1 ≡ suc k = omega arith in
    ap (λ j. rotation j r) e ∙ (one_more k r world from n is (sym next) ∙ ap (λ (v : Plain). let x : Rotation = record { world = v; from = n + 1 } in x) (sym turn))
