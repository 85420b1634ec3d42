-- Each turn of a node that does not only wait leaves less to be done.
use Rattle.std.proofs.Common.{◌≡◌, ◌⊎◌, ◌≤◌, ◌<◌, ◌+◌, ◌-◌, ◌==◌, ◌&&◌, ◌||◌, not, min, nat_le, nat_lt, take, ℕ, zero, suc, Bool, true, false, cond, List, [], ◌∷◌, Option, Some, None, length, slice_get, slice_set, refl, sym, ap, subst, ◌∙◌, inl, inr, arith}
use Rattle.std.proofs.lemmas.Bool.Decides.{nat_tests}
use Rattle.std.proofs.lemmas.List.{length-take-le}
use Rattle.lock_db.specs.declared.name.LockName.TheVariants.{X}
use Rattle.plain_cat.specs.declared.command.Cmd.{Cmd}
use Rattle.plain_cat.specs.declared.script.Script.{Script}
use Rattle.plain_rules.specs.Own.{NodePast, lines_of, next_command}
use Rattle.node_locks.specs.Held.{Row, waits_at}
use Rattle.op_law.specs.declared.need.Need.{Need}
use Rattle.op_law.specs.declared.need.Need.TheVariants as need
use Rattle.op_law.specs.declared.need.Plan.{Plan}
use Rattle.op_law.specs.Events.{space_of, has_number, has_space}
use Rattle.op_law.specs.Laws.{Lawful}
use Rattle.op_law.specs.Needs.{need_of, IsNext}
use Rattle.extent_cache.specs.Takings.{holds_enough}
use Rattle.core_space.specs.declared.run.Phase.{Phase}
use Rattle.core_space.specs.declared.run.Phase.TheVariants as phase
use Rattle.core_space.specs.Rule.{space_event, is_reader}
use Rattle.core_state.specs.Worlds.{NodeState, Plain, node_at, set_node, with_node, or_next, current}
use Rattle.core_state.specs.Asks.{is_claiming}
use Rattle.core_state.specs.Stocks.{roomless}
use Rattle.core_state.specs.Searches.{wanted_by, numbered_by, IsOff, Spaces, Off, Back, Busy}
use Rattle.core_state.specs.Event.{Event, Stand}
use Rattle.core_state.specs.Event as event
use Rattle.core_state.specs.Goods.{Good}
use Rattle.core_state.specs.Events.{mode_in, space_state, is_out, by_rule, by_space, by_need, by_command, by_turn, phase_begun, may_serve, serves, space_need, gives_back_in, gives_back, stands, turned, or_use, event_of, event_now, next_event, prepared_by, serving, served_for, served_by, served, is_held_up, prepared, happens, happen_at, happen, after_turn, is_over_in}
use Rattle.core_state.proofs.Nodes.{at_here, set_node_same, set_node_twice}
use Rattle.core_state.proofs.Beginning.{begins}
use Rattle.core_state.proofs.Preparing.{rests_prepared, readied_is}
use Rattle.core_state.proofs.Turning.{may_need}
use Rattle.core_state.proofs.Turns.{prepares_keep}
use Rattle.core_state.proofs.Wants.{wants_alike}
use Rattle.core_ends.specs.Measure.{by_claim, rule_steps, answers_left, return_by, return_left, steps_of, rest_of, left_in, left_from, left, TurnsLeaveLess}
use Rattle.core_ends.proofs.Sums.{alive_left, same_some, none_some}
use Rattle.core_ends.proofs.Bounds.{without_steps}
use Rattle.core_ends.proofs.Commanding.{plan_falls, leave_falls}
use Rattle.core_ends.proofs.Spacing.{not_again, rules_fall, backs_fall}
use Rattle.core_ends.proofs.Turning.{stands_not}
use Rattle.core_state.proofs.CachedWrites.{and_first}

-- ---- a node that has prepared for its event

-- its stock is not enough for what its command needs
abbrev IsPrepared : NodeState → Type 0
IsPrepared s = (x : Cmd) (clusters : ℕ) (number : Bool) → s.cmd ≡ Some x → s.plan ≡ None → IsNext x s.seen (need.Space clusters number) → serves s clusters number ≡ false

parts : (a g b : Bool) → (a || (not g && b)) ≡ false → (a ≡ false) × (g ≡ false → b ≡ false)
parts true g b e = absurd (let f : true ≡ false = e in cc)
parts false true b e = (refl, λ f. absurd (let z : true ≡ false = f in cc))
parts false false b e = (refl, λ f. e)

module _ (w : Plain) (good : Good w) (n : ℕ) (s : NodeState) (at : node_at w.nodes n ≡ Some s) (on : is_out s ≡ false) (still : stands w n s ≡ false) where
  abbrev FallsBy : Event → Type 0
  FallsBy e = left (happens w n s e) < left w

  its : (waits_at w.locks n s.claims ≡ false) × (gives_back w n s ≡ false → waits_at w.locks n s.asked ≡ false)
  its = parts (waits_at w.locks n s.claims) (gives_back w n s) (waits_at w.locks n s.asked) still

  calmly : gives_back w n s ≡ false → s.run.phase ≡ phase.Back → ⊥
  calmly e f = absurd (let g : true ≡ false = sym (ap (gives_back_in w n s) f) ∙ e in cc)

  module _ (keeps_it : gives_back w n s ≡ false) (x : Cmd) (has : s.cmd ≡ Some x) (ready : IsPrepared s) where
    spaces : s.plan ≡ None → (clusters : ℕ) (number : Bool) → IsNext x s.seen (need.Space clusters number) → FallsBy (or_use w s (by_space s clusters number))
    spaces none clusters number is =
        let may = may_need w good n s at x has (its.1 keeps_it) (need.Space clusters number) is in
        let a : clusters ≡ wanted_by x s.seen = may.0.clusters_are in
        let b : number ≡ numbered_by x s.seen = may.0.number_is in
        let next : IsNext x s.seen (need.Space (wanted_by x s.seen) (numbered_by x s.seen)) = is ∙ (λ i. need.Space (a i) (b i)) in
        let not_served : serves s (wanted_by x s.seen) (numbered_by x s.seen) ≡ false = ready x (wanted_by x s.seen) (numbered_by x s.seen) has none next in
        subst (λ (d : Need). FallsBy (or_use w s (by_need s d))) (λ i. need.Space (sym a i) (sym b i))
        (subst (λ (t : Bool). FallsBy (or_use w s (cond t event.SpaceEnd (by_rule s (phase_begun s.run.phase) (space_need (wanted_by x s.seen) (numbered_by x s.seen)) (space_event (space_state s) (space_need (wanted_by x s.seen) (numbered_by x s.seen))))))) (sym not_served)
        (rules_fall w good n s at on x has (its.1 keeps_it) none its.0 (calmly keeps_it) next not_served))

  by_cmd : IsPrepared s → gives_back w n s ≡ false → (o : Option Cmd) → s.cmd ≡ o → FallsBy (or_use w s (by_command s o))
  by_cmd ready keeps_it None e = leave_falls w n s at on (without_steps w good n s at e)
  by_cmd ready keeps_it (Some x) e = plan_falls w good n s at on x e (calmly keeps_it) (its.1 keeps_it) (spaces keeps_it x e ready) s.plan refl

  pub turn_falls : (gives_back w n s ≡ false → IsPrepared s) → (b : Bool) → gives_back w n s ≡ b → FallsBy (or_use w s (by_turn s b))
  turn_falls ready true e = backs_fall w good n s at on its.0 e
  turn_falls ready false e = by_cmd (ready e) e s.cmd refl

-- ---- what it prepares

-- a stock is given from while no rule is begun, or one that has filled it has ended
serving_phase : (p : Phase) (claiming : Bool) → may_serve p claiming ≡ true → ((p ≡ phase.Off) ⊎ (p ≡ phase.Fill)) × (claiming ≡ false)
serving_phase phase.Off true e = absurd (let f : false ≡ true = e in cc)
serving_phase phase.Off false e = (inl refl, refl)
serving_phase phase.Fill true e = absurd (let f : false ≡ true = e in cc)
serving_phase phase.Fill false e = (inr refl, refl)
serving_phase phase.Drain claiming e = absurd (let f : false ≡ true = e in cc)
serving_phase phase.Last claiming e = absurd (let f : false ≡ true = e in cc)
serving_phase phase.Back claiming e = absurd (let f : false ≡ true = e in cc)

not_claiming : (ls : Row) → is_claiming ls ≡ false → ls ≡ []
not_claiming [] e = refl
not_claiming (l ∷ ls) e = absurd (let f : true ≡ false = e in cc)

module _ (script : Script) (n : ℕ) where
  no_more_left : (s p : NodeState) → is_out p ≡ is_out s → p.past ≡ s.past → steps_of s ≤ steps_of p → return_left p.seen.geometry p.stock p.kept p.run ≤ return_left s.seen.geometry s.stock s.kept s.run → left_in script n p ≤ left_in script n s
  no_more_left s p out past steps back = by_out (is_out s) refl where
    rest : rest_of script n p ≡ rest_of script n s
    rest = ap (λ (q : NodePast). answers_left (length (lines_of n script.lines)) q.answered) past

    by_out : (b : Bool) → is_out s ≡ b → left_in script n p ≤ left_in script n s
    by_out true e =
        let a : left_in script n p ≡ 0 = ap (λ b. cond b 0 ((rest_of script n p - steps_of p) + return_left p.seen.geometry p.stock p.kept p.run)) (out ∙ e) in
        omega arith
    by_out false e =
        let a = alive_left script n p (out ∙ e) in
        let b = alive_left script n s e in
        let c = rest in
        omega arith

  serving_left : (s : NodeState) (clusters : ℕ) (number : Bool) → serves s clusters number ≡ true → left_in script n (serving s clusters number) ≤ left_in script n s
  serving_left s clusters number e =
      let so = serving_phase s.run.phase (is_claiming s.claims) (and_first (may_serve s.run.phase (is_claiming s.claims)) (holds_enough clusters number (roomless s.stock)) e) in
      no_more_left s (serving s clusters number) refl refl (steps so.0 (not_claiming s.claims so.1)) (back so.0) where
        steps : (s.run.phase ≡ phase.Off) ⊎ (s.run.phase ≡ phase.Fill) → s.claims ≡ [] → steps_of s ≤ steps_of (serving s clusters number)
        steps which none =
            let a : by_claim s.claims 200 1 (130 + min 60 (length s.run.looked + s.run.made)) ≡ 200 = ap (λ ls. by_claim ls 200 1 (130 + min 60 (length s.run.looked + s.run.made))) none in
            elim which [
              | inl f ↦ let b : rule_steps s.seen.geometry s.stock s.claims s.run s.run.phase ≡ 0 = ap (rule_steps s.seen.geometry s.stock s.claims s.run) f in omega arith
              | inr f ↦ let b : rule_steps s.seen.geometry s.stock s.claims s.run s.run.phase ≡ by_claim s.claims 200 1 (130 + min 60 (length s.run.looked + s.run.made)) = ap (rule_steps s.seen.geometry s.stock s.claims s.run) f in omega arith
            ]

        back : (s.run.phase ≡ phase.Off) ⊎ (s.run.phase ≡ phase.Fill) → return_left (serving s clusters number).seen.geometry (serving s clusters number).stock s.kept (serving s clusters number).run ≤ return_left s.seen.geometry s.stock s.kept s.run
        back which =
            let same : return_by s.seen.geometry s.stock s.run s.run.phase ≡ 80 = elim which [
              | inl f ↦ ap (return_by s.seen.geometry s.stock s.run) f
              | inr f ↦ ap (return_by s.seen.geometry s.stock s.run) f
            ] in
            let is : return_left s.seen.geometry s.stock s.kept s.run ≡ cond (is_reader (mode_in X s.kept)) 80 0 = ap (λ k. cond (is_reader (mode_in X s.kept)) k 0) same in
            omega arith

-- what is given from the stock, or nothing
data IsServed (q : NodeState) : Type 0 where
  Same : served q ≡ q → IsPrepared q → IsServed q
  Gives : (y : Cmd) (k : ℕ) (b : Bool) → q.cmd ≡ Some y → IsNext y q.seen (need.Space k b) → serves q k b ≡ true → served q ≡ serving q k b → IsServed q

served_is : (q : NodeState) → IsServed q
served_is q = by_cmd q.cmd refl q.plan refl where
  one : (x y : Cmd) → Some x ≡ Some y → x ≡ y
  one x y e = cc

  by_next : (y : Cmd) → q.cmd ≡ Some y → q.plan ≡ None → (d : Need) → need_of y q.seen ≡ d → IsServed q
  by_next y cmd plan d is = by_need_of d is (ap (served_for q) is) where
    to : served q ≡ served_for q (need_of y q.seen)
    to = λ i. served_by q (cmd i) (plan i)

    -- it needs no space
    none : ((k : ℕ) (b : Bool) → need_of y q.seen ≡ need.Space k b → ⊥) → IsPrepared q
    none never x k b f g next = absurd (never k b (ap (λ (z : Cmd). need_of z q.seen) (one y x (sym cmd ∙ f)) ∙ next))

    by_need_of : (d : Need) → need_of y q.seen ≡ d → served_for q (need_of y q.seen) ≡ served_for q d → IsServed q
    by_need_of (need.Lock name mode) e f = Same (to ∙ f) (none (λ k b g. absurd (let z : need.Lock name mode ≡ need.Space k b = sym e ∙ g in cc)))
    by_need_of (need.Block name lbn) e f = Same (to ∙ f) (none (λ k b g. absurd (let z : need.Block name lbn ≡ need.Space k b = sym e ∙ g in cc)))
    by_need_of (need.Bare lbn) e f = Same (to ∙ f) (none (λ k b g. absurd (let z : need.Bare lbn ≡ need.Space k b = sym e ∙ g in cc)))
    by_need_of (need.Ready p) e f = Same (to ∙ f) (none (λ k b g. absurd (let z : need.Ready p ≡ need.Space k b = sym e ∙ g in cc)))
    by_need_of (need.Space k b) e f = by_test (serves q k b) refl where
      by_test : (t : Bool) → serves q k b ≡ t → IsServed q
      by_test true g = Gives y k b cmd e g (to ∙ f ∙ ap (λ t. cond t (serving q k b) q) g)
      by_test false g = Same (to ∙ f ∙ ap (λ t. cond t (serving q k b) q) g) (λ x c d h i next.
          let z : need.Space k b ≡ need.Space c d = sym e ∙ ap (λ (y : Cmd). need_of y q.seen) (one y x (sym cmd ∙ h)) ∙ next in
          let u : k ≡ c = cc in
          let v : b ≡ d = cc in
          (λ j. serves q (sym u j) (sym v j)) ∙ g)

  by_cmd : (o : Option Cmd) → q.cmd ≡ o → (p : Option Plan) → q.plan ≡ p → IsServed q
  by_cmd None c p d = Same (ap (λ o. served_by q o q.plan) c) (λ x k b f. absurd (let z : None ≡ Some x = sym c ∙ f in cc))
  by_cmd (Some y) c (Some p) d = Same (λ i. served_by q (c i) (d i)) (λ x k b f g. absurd (let z : Some p ≡ None = sym d ∙ g in cc))
  by_cmd (Some y) c None d = by_next y c d (need_of y q.seen) refl

-- what a stock gives is what was wanted
gives_all : (q : NodeState) (k : ℕ) (b : Bool) → serves q k b ≡ true → has_space k b (space_of (serving q k b).seen) ≡ true
gives_all q k b e = (λ i. (length_so i == k) && has_number b (cond b (slice_get q.stock.numbers 0) None)) ∙ ap (λ t. t && has_number b (cond b (slice_get q.stock.numbers 0) None)) (same_is k) ∙ number_so b q.stock.numbers tests.1 where
  second : (c d : Bool) → (c && d) ≡ true → d ≡ true
  second true d f = f
  second false d f = absurd (let z : false ≡ true = f in cc)

  tests : (nat_le k (length q.stock.clusters) ≡ true) × ((not b || nat_lt 0 (length q.stock.numbers)) ≡ true)
  tests =
      let h = second (may_serve q.run.phase (is_claiming q.claims)) (holds_enough k b (roomless q.stock)) e in
      (and_first (nat_le k (length q.stock.clusters)) (not b || nat_lt 0 (length q.stock.numbers)) h, second (nat_le k (length q.stock.clusters)) (not b || nat_lt 0 (length q.stock.numbers)) h)

  is_le : (a c : ℕ) → nat_le a c ≡ true → a ≤ c
  is_le a c f = grind (arith, nat_tests)

  same_is : (a : ℕ) → (a == a) ≡ true
  same_is a = grind (arith, nat_tests)

  length_so : length (take k q.stock.clusters) ≡ k
  length_so = length-take-le k q.stock.clusters (is_le k (length q.stock.clusters) tests.0)

  number_so : (c : Bool) (ns : List ℕ) → (not c || nat_lt 0 (length ns)) ≡ true → has_number c (cond c (slice_get ns 0) None) ≡ true
  number_so true [] f = absurd (let z : false ≡ true = f in cc)
  number_so true (m ∷ ns) f = refl
  number_so false ns f = refl

-- so it does not need space again
settled : (w : Plain) (n : ℕ) (q : NodeState) → Good (with_node w n q) → node_at (set_node w.nodes n q) n ≡ Some q → Good (with_node w n (served q)) → node_at (set_node w.nodes n (served q)) n ≡ Some (served q)
    → is_out (served q) ≡ false → waits_at w.locks n q.asked ≡ false → IsPrepared (served q)
settled w n q good there after there_then on free = by_case (served_is q) where
  by_case : IsServed q → IsPrepared (served q)
  by_case (Same e r) = subst IsPrepared (sym e) r
  by_case (Gives y k b cmd is does e) = subst IsPrepared (sym e) (λ x c d f g next. absurd (again x c d f next)) where
    r : NodeState
    r = serving q k b

    good_r : Good (with_node w n r)
    good_r = subst (λ (t : NodeState). Good (with_node w n t)) e after

    there_r : node_at (set_node w.nodes n r) n ≡ Some r
    there_r = subst (λ (t : NodeState). node_at (set_node w.nodes n t) n ≡ Some t) e there_then

    on_r : is_out r ≡ false
    on_r = subst (λ (t : NodeState). is_out t ≡ false) e on

    again : (x : Cmd) (c : ℕ) (d : Bool) → r.cmd ≡ Some x → IsNext x r.seen (need.Space c d) → ⊥
    again x c d f next =
        let may = may_need (with_node w n r) good_r n r there_r x f free (need.Space c d) next in
        let u : c ≡ wanted_by x r.seen = may.0.clusters_are in
        let v : d ≡ numbered_by x r.seen = may.0.number_is in
        let had = may_need (with_node w n q) good n q there y cmd free (need.Space k b) is in
        let z : Some x ≡ Some y = sym f ∙ cmd in
        let same : x ≡ y = cc in
        let k_is : k ≡ wanted_by x r.seen = had.0.clusters_are ∙ ap (λ (t : Cmd). wanted_by t q.seen) (sym same) in
        let b_is : b ≡ numbered_by x r.seen = had.0.number_is ∙ ap (λ (t : Cmd). numbered_by t q.seen) (sym same) ∙ wants_alike x q.seen r.seen refl refl in
        not_again (with_node w n r) good_r n r there_r on_r x f free (next ∙ (λ i. need.Space (u i) (v i))) ((λ i. has_space (sym k_is i) (sym b_is i) (space_of r.seen)) ∙ gives_all q k b does)

served_less : (script : Script) (n : ℕ) (q : NodeState) → left_in script n (served q) ≤ left_in script n q
served_less script n q = by_case (served_is q) where
  by_case : IsServed q → left_in script n (served q) ≤ left_in script n q
  by_case (Same e r) = let a = ap (left_in script n) e in omega arith
  by_case (Gives y k b cmd is does e) = let a = ap (left_in script n) e in let h = serving_left script n q k b does in omega arith

-- ---- the sum

sum_most : (script : Script) (nodes : List NodeState) (k j i : ℕ) (s t : NodeState) → slice_get nodes j ≡ Some s → k + j ≡ i → left_in script i t ≤ left_in script i s → left_from script k (slice_set nodes j t) ≤ left_from script k nodes
sum_most script [] k j i s t at here le = absurd (none_some s at)
sum_most script (x ∷ xs) k zero i s t at here le =
    let e : x ≡ s = same_some x s at in
    let m : i ≡ k = omega arith in
    let h : left_in script k t ≤ left_in script k x = subst (λ y. left_in script k t ≤ left_in script k y) (sym e) (subst (λ q. left_in script q t ≤ left_in script q s) m le) in
    omega arith
sum_most script (x ∷ xs) k (suc j) i s t at here le =
    let h = sum_most script xs (suc k) j i s t at (omega arith) le in
    omega arith

pub node_most : (w : Plain) (n : ℕ) (s t : NodeState) → node_at w.nodes n ≡ Some s → left_in w.script n t ≤ left_in w.script n s → left_from w.script 1 (set_node w.nodes n t) ≤ left w
node_most w zero s t at le = absurd (none_some s at)
node_most w (suc j) s t at le = sum_most w.script w.nodes 1 j (suc j) s t at (omega arith) le

-- ---- a node of a world

module _ (w : Plain) (good : Good w) (n : ℕ) (s : NodeState) (at : node_at w.nodes n ≡ Some s) (on : is_out s ≡ false) (lawful : (x : Cmd) → is_held_up w n s ≡ false → current w n s ≡ Some x → Lawful x) where
  abbrev q : NodeState
  q = prepared_by s s.cmd (next_command w.script n w.history)

  abbrev p : NodeState
  p = prepared w n s

  abbrev v : Plain
  v = with_node w n p

  good_v : Good v
  good_v = prepares_keep w good n s at lawful

  there : node_at v.nodes n ≡ Some p
  there = at_here w.nodes n p s at

  -- what it begins leaves what it has
  record LeftSo (o next : Option Cmd) : Type 0 where
    asked : (prepared_by s o next).asked ≡ s.asked
    out : is_out (prepared_by s o next) ≡ is_out s
    left_same : left_in w.script n (prepared_by s o next) ≡ left_in w.script n s

  begun_so : (o next : Option Cmd) → LeftSo o next
  begun_so (Some x) next = record { asked = refl; out = refl; left_same = refl }
  begun_so None None = record { asked = refl; out = refl; left_same = refl }
  begun_so None (Some x) = record { asked = refl; out = refl; left_same = refl }

  served_out : is_out (served q) ≡ is_out q
  served_out = by_case (served_is q) where
    by_case : IsServed q → is_out (served q) ≡ is_out q
    by_case (Same e r) = ap is_out e
    by_case (Gives y k b cmd is does e) = ap is_out e

  p_out : is_out p ≡ false
  p_out = by_held (is_held_up w n s) where
    by_held : (b : Bool) → is_out (cond b s (served q)) ≡ false
    by_held true = on
    by_held false = served_out ∙ (begun_so s.cmd (next_command w.script n w.history)).out ∙ on

  p_less : left_in w.script n p ≤ left_in w.script n s
  p_less = by_held (is_held_up w n s) where
    by_held : (b : Bool) → left_in w.script n (cond b s (served q)) ≤ left_in w.script n s
    by_held true = omega arith
    by_held false = let a = served_less w.script n q in let b = (begun_so s.cmd (next_command w.script n w.history)).left_same in omega arith

  not_held : (a b c : Bool) → (a || (b || c)) ≡ false → (a ≡ false) × (b ≡ false) × (c ≡ false)
  not_held true b c e = absurd (let f : true ≡ false = e in cc)
  not_held false true c e = absurd (let f : true ≡ false = e in cc)
  not_held false false c e = (refl, refl, e)

  p_prepared : stands w n s ≡ false → gives_back v n p ≡ false → IsPrepared p
  p_prepared still keeps_it = by_held (is_held_up w n s) refl where
    by_held : (b : Bool) → is_held_up w n s ≡ b → IsPrepared p
    by_held true e = absurd (
        let is : p ≡ s = rests_prepared w n s e in
        let same : gives_back w n s ≡ false = ap (gives_back w n) (sym is) ∙ keeps_it in
        let z : true ≡ false = sym e ∙ (λ i. on i || (same i || still i)) in
        cc)
    by_held false e =
        let its = not_held (is_out s) (gives_back w n s) (stands w n s) e in
        let free : waits_at w.locks n s.asked ≡ false = (parts (waits_at w.locks n s.claims) (gives_back w n s) (waits_at w.locks n s.asked) still).1 its.1 in
        let is : p ≡ served q = ap (λ t. cond t s (served q)) e in
        subst IsPrepared (sym is)
        (settled w n q (good_q e) (at_here w.nodes n q s at) (subst (λ (t : NodeState). Good (with_node w n t)) is good_v) (at_here w.nodes n (served q) s at) (ap is_out (sym is) ∙ p_out)
        (ap (waits_at w.locks n) (begun_so s.cmd (next_command w.script n w.history)).asked ∙ free)) where
          same_world : Good (with_node w n s)
          same_world = subst (λ (ns : List NodeState). Good (record w { nodes = ns })) (sym (set_node_same w.nodes n s at)) good

          good_q : is_held_up w n s ≡ false → Good (with_node w n q)
          good_q f = by_cmd s.cmd refl (next_command w.script n w.history) refl where
            its : (is_out s ≡ false) × (gives_back w n s ≡ false) × (stands w n s ≡ false)
            its = not_held (is_out s) (gives_back w n s) (stands w n s) f

            rests : s.cmd ≡ None → IsOff s.claims s.run s.seen
            rests none = by_space (good.nodes n s at).space where
              by_space : Spaces s.cmd s.kept s.claims s.run s.stock s.seen → IsOff s.claims s.run s.seen
              by_space (Off h) = h
              by_space (Back h) = absurd (let z : true ≡ false = sym (ap (gives_back_in w n s) h.back) ∙ its.1 in cc)
              by_space (Busy x g r) = absurd (let z : Some x ≡ None = sym g ∙ none in cc)

            by_cmd : (o : Option Cmd) → s.cmd ≡ o → (next : Option Cmd) → next_command w.script n w.history ≡ next → Good (with_node w n (prepared_by s o next))
            by_cmd (Some x) g next h = same_world
            by_cmd None g None h = same_world
            by_cmd None g (Some x) h = begins w good n s at x g on (rests g) h (lawful x f (λ i. or_next (g i) (h i)))

  pub node_falls : stands w n s ≡ false → left (happens v n p (event_of v n (Some p))) < left w
  node_falls still =
      let less : left v ≤ left w = node_most w n s p at p_less in
      let stays : stands v n p ≡ false = stands_not w n s still in
      let h = turn_falls v good_v n p there p_out stays (p_prepared still) (gives_back v n p) refl in
      let e : event_of v n (Some p) ≡ or_use v p (by_turn p (gives_back v n p)) = (λ i. cond (p_out i) event.Rest (cond (stands v n p) event.Stand (or_use v p (by_turn p (gives_back v n p))))) ∙ ap (λ t. cond t event.Stand (or_use v p (by_turn p (gives_back v n p)))) stays in
      let same : left (happens v n p (event_of v n (Some p))) ≡ left (happens v n p (or_use v p (by_turn p (gives_back v n p)))) = ap (λ (x : Event). left (happens v n p x)) e in
      omega arith

-- a node that only waits has no other event
waits_on : (w : Plain) (n : ℕ) (s : NodeState) → node_at w.nodes n ≡ Some s → is_out s ≡ false → stands w n s ≡ true → next_event w n ≡ Stand
waits_on w n s at on e =
    let held : is_held_up w n s ≡ true = (λ i. on i || (gives_back w n s || e i)) ∙ or_true (gives_back w n s) in
    let is : prepared w n s ≡ s = rests_prepared w n s held in
    ap (λ v. event_now v n) (readied_is w n s s at is) ∙ ap (event_of (with_node w n s) n) (at_here w.nodes n s s at) ∙ (λ i. cond (on i) event.Rest (cond (e i) event.Stand (or_use (with_node w n s) s (by_turn s (gives_back w n s))))) where
      or_true : (b : Bool) → (b || true) ≡ true
      or_true true = refl
      or_true false = refl

-- and its turn changes its count alone
pub stands_still : (w : Plain) (n : ℕ) (s : NodeState) → node_at w.nodes n ≡ Some s → is_out s ≡ false → stands w n s ≡ true → after_turn w n ≡ with_node w n (turned s)
stands_still w n s at on e =
    let held : is_held_up w n s ≡ true = (λ i. on i || (gives_back w n s || e i)) ∙ or_true (gives_back w n s) in
    let is : prepared w n s ≡ s = rests_prepared w n s held in
    let v : Plain = with_node w n s in
    ap (λ u. happen u n (event_now u n)) (readied_is w n s s at is)
    ∙ (ap (λ o. happen_at v n o (event_of v n o)) (at_here w.nodes n s s at)
    ∙ ((λ i. happens v n s (cond (on i) event.Rest (cond (e i) event.Stand (or_use v s (by_turn s (gives_back w n s))))))
    ∙ ap (λ ns. record w { nodes = ns }) (set_node_twice w.nodes n s (turned s)))) where
      or_true : (b : Bool) → (b || true) ≡ true
      or_true true = refl
      or_true false = refl

pub turns_leave_less : TurnsLeaveLess
turns_leave_less w n good lawful alive moves = by_node (node_at w.nodes n) refl alive where
  by_node : (o : Option NodeState) → node_at w.nodes n ≡ o → is_over_in o ≡ false → left (after_turn w n) < left w
  by_node None at f = absurd (let z : true ≡ false = f in cc)
  by_node (Some s) at on = by_stands (stands w n s) refl where
    p : NodeState
    p = prepared w n s

    turned_so : after_turn w n ≡ happens (with_node w n p) n p (event_of (with_node w n p) n (Some p))
    turned_so = ap (λ u. happen u n (event_now u n)) (readied_is w n s p at refl) ∙ ap (λ o. happen_at (with_node w n p) n o (event_of (with_node w n p) n o)) (at_here w.nodes n p s at)

    by_stands : (b : Bool) → stands w n s ≡ b → left (after_turn w n) < left w
    by_stands true e = absurd (moves (waits_on w n s at on e))
    by_stands false e =
        let h = node_falls w good n s at on (λ x calm c. lawful s x at calm c) e in
        let same = ap left turned_so in
        omega arith
