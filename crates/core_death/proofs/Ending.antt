-- A world of which a node dies is one.
use Rattle.std.proofs.Common.{◌≡◌, ◌≤◌, ◌<◌, ◌+◌, ◌-◌, ◌++◌, ℕ, Bool, true, false, cond, List, [], ◌∷◌, Option, Some, None, length, map, slice_set, refl, sym, ap, subst, ◌∙◌, arith}
use Rattle.std.specs.Prelude.{slice_index_or, is_some}
use Rattle.plain_cat.specs.declared.command.Cmd.{Cmd}
use Rattle.plain_cat.specs.declared.history.Entry.{Entry}
use Rattle.lock_db.specs.Tables.{dropped}
use Rattle.op_law.specs.declared.need.Plan.{Plan}
use Rattle.core_state.specs.Worlds.{NodeState, Plain, node_at, set_node, shown}
use Rattle.core_state.specs.Asks.{writes_by}
use Rattle.core_state.specs.Events.{is_out, is_over}
use Rattle.core_state.specs.Fallen.{living, fallen}
use Rattle.core_state.specs.Goods.{Good, decided, HasRoom, HasLists, HasOnly, HasCommand, IsAtPlan, IsAccepted, IsWorld}
use Rattle.core_state.specs.Deaths.{stage_now, numbers_of, outside_now, death_of, gone, died_by, died_at, died}
use Rattle.core_state.proofs.Nodes.{told_at, told_set, length_node}
use Rattle.core_state.proofs.Falling.{fewer_fallen, death_left}
use Rattle.core_state.proofs.Dying.{few_lost, alive_by, in_script, dies_keep}
use Rattle.core_step.proofs.Ready.{decided_set}
use Rattle.core_death.specs.Lasts.{CanDie}
use Rattle.core_death.proofs.Telling.{HasDone, clusters_is, death_is}

-- ---- a node of a world can die

module _ (w : Plain) (good : Good w) (n : ℕ) (s : NodeState) (at : node_at w.nodes n ≡ Some s) (on : is_out s ≡ false) where
  has_done : HasDone s.tried s.done s.plan
  has_done p e = by_cmd s.cmd (good.nodes n s at).command where
    of_plan : (x : Cmd) (o : Option Plan) → o ≡ Some p → (b : Bool) → IsAtPlan x b s.seen s.done s.tried o → s.done ≤ length (writes_by p.ask s.tried p.writes)
    of_plan x None f b is = absurd (let h : None ≡ Some p = f in cc)
    of_plan x (Some q) f b is = let h : q ≡ p = cc in subst (λ (r : Plan). s.done ≤ length (writes_by r.ask s.tried r.writes)) h is.2

    by_cmd : (o : Option Cmd) → HasCommand w n s o → s.done ≤ length (writes_by p.ask s.tried p.writes)
    by_cmd None idle = absurd (let h : None ≡ Some p = sym idle.plan ∙ e in cc)
    by_cmd (Some x) i = of_plan x s.plan e _ i.plan

  pub may_die : CanDie n s
  may_die = record {
    told = death_is s has_done n;
    few = subst (λ (k : ℕ). k < 4294967296) (clusters_is s has_done) (few_lost w good n s at on);
  }

  -- it is one of those that live
  pub one_lives : 1 ≤ living w.history w.script.nodes
  one_lives =
      let within = in_script w good n s at on in
      let lt = fewer_fallen w.history n w.script.nodes (alive_by w good n s at on) within.0 within.1 in omega arith

  one_fewer : living (w.history ++ death_of n s ∷ []) w.script.nodes + 1 ≡ living w.history w.script.nodes
  one_fewer =
      let within = in_script w good n s at on in
      let lt = fewer_fallen w.history n w.script.nodes (alive_by w good n s at on) within.0 within.1 in
      let is = death_left w.history n (stage_now s) (length (outside_now s).clusters) (record { items = numbers_of (outside_now s); room = 0 }) w.script.nodes (alive_by w good n s at on) within.0 within.1 in
      fewer_by (fallen w.history w.script.nodes) (fallen (w.history ++ death_of n s ∷ []) w.script.nodes) w.script.nodes lt is where
        fewer_by : (a b m : ℕ) → a < m → b ≡ a + 1 → (m - b) + 1 ≡ m - a
        fewer_by a b m lt e = omega arith

  -- ---- its death leaves a world

  room_died : (spare spare' : ℕ) → HasRoom w spare → spare' + 1 ≡ spare → HasRoom (died_by w n s) spare'
  room_died spare spare' room is = record {
    few = subst (λ (k : ℕ). k ≤ 8) (sym (length_node w.nodes n (gone s))) room.few;
    lines = room.lines;
    places = places_left (decided (set_node w.nodes n (gone s))) (cond (is_some s.plan) 1 0) (decided w.nodes) (living w.history w.script.nodes) (living (w.history ++ death_of n s ∷ []) w.script.nodes) spare spare' (decided_set w.nodes n s (gone s) at) one_fewer room.places is;
  } where
    places_left : (after mine all live left spare spare' : ℕ) → after + mine ≡ all + 0 → left + 1 ≡ live → all + live ≤ spare → spare' + 1 ≡ spare → after + left ≤ spare'
    places_left after mine all live left spare spare' a b c d = omega arith

  lists_died : (lists lists' : ℕ) → HasLists w lists → lists' + 1 ≡ lists → HasLists (died_by w n s) lists'
  lists_died lists lists' has is = let fewer = one_fewer in omega arith

-- the node that lives
abbrev over_in : Option NodeState → Bool
over_in None = true
over_in (Some s) = is_out s

module _ (w : Plain) (good : Good w) (n : ℕ) (on : is_over w n ≡ false) where
  pub living_state : (s : NodeState) → node_at w.nodes n ≡ Some s → is_out s ≡ false
  living_state s e = sym (ap over_in e) ∙ on

  pub dies_so : (s : NodeState) → node_at w.nodes n ≡ Some s → CanDie n s
  dies_so s e = may_die w good n s e (living_state s e)

  pub has_one : 1 ≤ living w.history w.script.nodes
  has_one = by_node (node_at w.nodes n) refl where
    by_node : (o : Option NodeState) → node_at w.nodes n ≡ o → 1 ≤ living w.history w.script.nodes
    by_node None e = absurd (let f : true ≡ false = sym (ap over_in e) ∙ on in cc)
    by_node (Some s) e = one_lives w good n s e (living_state s e)

  pub has_place : (spare : ℕ) → HasRoom w spare → 0 < spare
  has_place spare room = let one = has_one in let places = room.places in omega arith

  pub has_list : (lists : ℕ) → HasLists w lists → 0 < lists
  has_list lists has = let one = has_one in omega arith

  room_left : (spare spare' : ℕ) → HasRoom w spare → spare' + 1 ≡ spare → HasRoom (died w n) spare'
  room_left spare spare' room is = by_node (node_at w.nodes n) refl where
    by_node : (o : Option NodeState) → node_at w.nodes n ≡ o → HasRoom (died_at w n o) spare'
    by_node None e = absurd (let f : true ≡ false = sym (ap over_in e) ∙ on in cc)
    by_node (Some s) e = room_died w good n s e (living_state s e) spare spare' room is

  lists_left : (lists lists' : ℕ) → HasLists w lists → lists' + 1 ≡ lists → HasLists (died w n) lists'
  lists_left lists lists' has is = by_node (node_at w.nodes n) refl where
    by_node : (o : Option NodeState) → node_at w.nodes n ≡ o → HasLists (died_at w n o) lists'
    by_node None e = absurd (let f : true ≡ false = sym (ap over_in e) ∙ on in cc)
    by_node (Some s) e = lists_died w good n s e (living_state s e) lists lists' has is

  script_left : (died w n).script ≡ w.script
  script_left = by_node (node_at w.nodes n) where
    by_node : (o : Option NodeState) → (died_at w n o).script ≡ w.script
    by_node None = refl
    by_node (Some s) = refl

  opening_left : (died w n).opening ≡ w.opening
  opening_left = by_node (node_at w.nodes n) where
    by_node : (o : Option NodeState) → (died_at w n o).opening ≡ w.opening
    by_node None = refl
    by_node (Some s) = refl

  pub world_died : (takes : Cmd → Type 0) (new : Plain) (spare spare' : ℕ) → IsWorld takes w spare → new ≡ died w n → spare' + 1 ≡ spare → IsWorld takes new spare'
  world_died takes new spare spare' is moved room = subst (λ (v : Plain). IsWorld takes v spare') (sym moved) (record {
    good = dies_keep w good n on;
    accepted = subst IsAccepted (sym opening_left) is.accepted;
    room = room_left spare spare' is.room room;
    taken = subst (HasOnly takes) (sym script_left) is.taken;
  })

  pub fewer_lists : (new : Plain) (lists lists' : ℕ) → HasLists w lists → new ≡ died w n → lists' + 1 ≡ lists → HasLists new lists'
  fewer_lists new lists lists' has moved left = subst (λ (v : Plain). HasLists v lists') (sym moved) (lists_left lists lists' has left)

-- ---- what the fields of a world are after it

pub same_state : (a b : NodeState) → Some a ≡ Some b → a ≡ b
same_state a b e = cc

-- one entry more
shown_more : (h : List Entry) (e : Entry) → map shown (h ++ e ∷ []) ≡ map shown h ++ shown e ∷ []
shown_more [] e = refl
shown_more (x ∷ h) e = ap (λ es. shown x ∷ es) (shown_more h e)

-- item d of the list xs, which is told as node n of the world w, is d' now
module _ {A : Type 0} (f : A → NodeState) (xs : List A) (w : Plain) (n : ℕ) (d d' : A) (from : 1 ≤ n) (to : n ≤ length (map f xs)) (is : d ≡ slice_index_or xs (n - 1) d) (told : w.nodes ≡ map f xs) where
  pub here : node_at w.nodes n ≡ Some (f d)
  here = ap (λ ns. node_at ns n) told ∙ told_at f xs n d from to is

  pub died_so : (h : List Entry) (e : Entry) → w.history ≡ map shown h → shown e ≡ death_of n (f d) → f d' ≡ gone (f d) → record w { history = map shown (h ++ e ∷ []); locks = dropped n w.locks; nodes = map f (slice_set xs (n - 1) d') } ≡ died w n
  died_so h e before entry now =
      (λ i. record w { history = (shown_more h e ∙ ap (λ es. es ++ shown e ∷ []) (sym before) ∙ ap (λ y. w.history ++ y ∷ []) entry) i; locks = dropped n w.locks; nodes = (told_set f xs n d' from ∙ ap (set_node (map f xs) n) now ∙ ap (λ ns. set_node ns n (gone (f d))) (sym told)) i })
      ∙ sym (ap (died_at w n) here)
