-- What is left of one node, and of all.
use Rattle.std.proofs.Common.{◌≡◌, ◌≤◌, ◌<◌, ◌+◌, ◌-◌, ◌||◌, ℕ, zero, suc, false, cond, List, [], ◌∷◌, Option, Some, None, length, slice_get, slice_set, sym, ap, subst, ◌∙◌, arith}
use Rattle.plain_cat.specs.declared.script.Script.{Script}
use Rattle.plain_rules.specs.Own.{NodePast, lines_of}
use Rattle.core_state.specs.Worlds.{NodeState, Plain, node_at, set_node}
use Rattle.core_state.specs.Events.{is_out}
use Rattle.core_ends.specs.Measure.{answers_left, steps_of, rest_of, return_left, left_in, left_from, left}

pub same_some : (x s : NodeState) → ◌≡◌ {A = Option NodeState} (Some x) (Some s) → x ≡ s
same_some x s e = cc

pub none_some : (s : NodeState) → ◌≡◌ {A = Option NodeState} None (Some s) → ⊥
none_some s e = absurd (cc e)

sum_less : (script : Script) (nodes : List NodeState) (k j i : ℕ) (s t : NodeState) → slice_get nodes j ≡ Some s → k + j ≡ i → left_in script i t < left_in script i s
    → left_from script k (slice_set nodes j t) < left_from script k nodes
sum_less script [] k j i s t at here less = absurd (none_some s at)
sum_less script (x ∷ xs) k zero i s t at here less =
    let e : x ≡ s = same_some x s at in
    let m : i ≡ k = omega arith in
    let h : left_in script k t < left_in script k x = subst (λ y. left_in script k t < left_in script k y) (sym e) (subst (λ q. left_in script q t < left_in script q s) m less) in
    omega arith
sum_less script (x ∷ xs) k (suc j) i s t at here less =
    let h = sum_less script xs (suc k) j i s t at (omega arith) less in
    omega arith

-- node n, which stood as s, stands as t, and has less left
pub node_less : (w : Plain) (n : ℕ) (s t : NodeState) → node_at w.nodes n ≡ Some s → left_in w.script n t < left_in w.script n s → left_from w.script 1 (set_node w.nodes n t) < left w
node_less w zero s t at less = absurd (none_some s at)
node_less w (suc j) s t at less = sum_less w.script w.nodes 1 j (suc j) s t at (omega arith) less

-- ---- one node

pub alive_left : (script : Script) (n : ℕ) (s : NodeState) → is_out s ≡ false → left_in script n s ≡ (rest_of script n s - steps_of s) + return_left s.seen.geometry s.stock s.kept s.run
alive_left script n s on = ap (λ b. cond b 0 ((rest_of script n s - steps_of s) + return_left s.seen.geometry s.stock s.kept s.run)) on

module _ (script : Script) (n : ℕ) (s t : NodeState) (on : is_out s ≡ false) (over : t.over ≡ s.over) (past : t.past ≡ s.past) where
  abbrev back_s : ℕ
  back_s = return_left s.seen.geometry s.stock s.kept s.run

  abbrev back_t : ℕ
  back_t = return_left t.seen.geometry t.stock t.kept t.run

  abbrev rest : ℕ
  rest = rest_of script n s

  left_t : left_in script n t ≡ (rest - steps_of t) + back_t
  left_t = alive_left script n t ((λ i. over i || (past i).dead) ∙ on) ∙ ap (λ (p : NodePast). (answers_left (length (lines_of n script.lines)) p.answered - steps_of t) + back_t) past

  less_so : (rest - steps_of t) + back_t < (rest - steps_of s) + back_s → left_in script n t < left_in script n s
  less_so h = let a = alive_left script n s on in let b = left_t in omega arith

  more_done : (r a b p q : ℕ) → a < r → a < b → q ≤ p → (r - b) + q < (r - a) + p
  more_done r a b p q room more le = omega arith

  more_owed : (r a b p q : ℕ) → b ≤ r → a + q < b + p → (r - b) + q < (r - a) + p
  more_owed r a b p q room more = omega arith

  less_owed : (r a b p q : ℕ) → b ≡ a → q < p → (r - b) + q < (r - a) + p
  less_owed r a b p q same less = omega arith

  -- it has made steps, and has no more to give back
  pub steps_on : steps_of s < rest → steps_of s < steps_of t → back_t ≤ back_s → left_in script n t < left_in script n s
  steps_on room more le = less_so (more_done rest (steps_of s) (steps_of t) back_s back_t room more le)

  -- it has made more steps than it has more to give back
  pub steps_over : steps_of t ≤ rest → steps_of s + back_t < steps_of t + back_s → left_in script n t < left_in script n s
  steps_over room more = less_so (more_owed rest (steps_of s) (steps_of t) back_s back_t room more)

  -- its give-back goes on, and its command stands
  pub back_on : steps_of t ≡ steps_of s → back_t < back_s → left_in script n t < left_in script n s
  back_on same less = less_so (less_owed rest (steps_of s) (steps_of t) back_s back_t same less)
