-- The sequences stay small over each kind of event, and so none comes to the last value of 64 bits.
use Rattle.std.proofs.Common.{◌≡◌, ◌≤◌, ◌+◌, ◌*◌, ◌++◌, ℕ, zero, suc, Bool, true, false, cond, List, [], ◌∷◌, Option, Some, None, IsSome, is_some, length, refl, sym, ap, ◌∙◌, inl, inr, arith}
use Rattle.std.specs.Prelude.{replicate}
use Rattle.std.specs.List.{sum_by, count_by, range_with_len}
use Rattle.std.proofs.lemmas.Bool.Decides.{nat_tests}
use Rattle.std.proofs.lemmas.List.FromFn.{length-range_with_len}
use Rattle.std.proofs.lemmas.List.Sums.{sum_by-cons, count_by-le-length}
use Rattle.base_words.specs.Fields.{Block}
use Rattle.lock_db.specs.declared.name.LockName.{LockName}
use Rattle.lock_db.specs.declared.name.LockName.TheVariants.{X}
use Rattle.lock_db.specs.declared.name.Owner.{Owner}
use Rattle.lock_db.specs.Queues.{lock_of}
use Rattle.lock_db.specs.declared.resource.Resource.{Resource}
use Rattle.lock_db.specs.Resources.{fresh}
use Rattle.lock_db.specs.Tables.{resource_at}
use Rattle.plain_cat.specs.declared.mode.Mode.{Mode}
use Rattle.plain_cat.specs.declared.command.Cmd.{Cmd}
use Rattle.plain_cat.specs.declared.reply.Reply.{Reply}
use Rattle.plain_cat.specs.declared.history.Entry.{Entry}
use Rattle.plain_cat.specs.declared.history.Entry.TheVariants.{Done}
use Rattle.plain_cat.specs.declared.script.Script.{Script}
use Rattle.plain_cat.specs.declared.cat.Cat.{Cat}
use Rattle.vol_parts.specs.declared.geometry.Geometry.{Geometry}
use Rattle.node_locks.specs.Held.{has_lock, system_of}
use Rattle.node_locks.specs.Taking.{taken, MayTake}
use Rattle.node_locks.proofs.Taking.{no-lock}
use Rattle.node_locks.specs.Sequences.{first_sequence, second_sequence}
use Rattle.op_law.specs.declared.seen.Chan.{Chan}
use Rattle.plain_rules.specs.Own.{past}
use Rattle.core_state.specs.Worlds.{NodeState, Plain, node_at, set_node}
use Rattle.core_space.specs.declared.run.Phase.{Phase}
use Rattle.core_space.specs.declared.run.Phase.TheVariants as phase
use Rattle.core_state.specs.Asks.{has_asked, is_claiming}
use Rattle.core_state.specs.Fallen.{falls, fallen}
use Rattle.core_state.specs.Small.{is_begun, has_command, begun_count, lent, owed_in, owed, AreSmall, GoesOn, AllGoOn}
use Rattle.core_state.specs.Channels.{closed_off}
use Rattle.core_state.specs.Goods.{Good}
use Rattle.core_state.specs.Mounting.{at_rest, mounted}
use Rattle.core_state.proofs.Keeping.{altered}
use Rattle.core_state.proofs.SmallTables.{is_first, is_second, taken_same, closed_off_little}
use Rattle.core_state.proofs.SmallCounts.{sum_set, sum_more}
use Rattle.core_state.proofs.SmallBegun.{few_so, few_begun}

-- ---- what is owed

abbrev one : Bool → ℕ
one b = cond b 1 0

-- what a node owes that has a command is three at least; and one that has none owes one at most
lent_most : (s : NodeState) → lent s ≤ 1
lent_most s = by_test (has_asked X s.kept) where
  by_test : (b : Bool) → cond b 1 0 ≤ 1
  by_test true = omega arith
  by_test false = omega arith

pub owed_idle : (s : NodeState) → s.cmd ≡ None → owed s ≤ 1
owed_idle s none =
    let e : owed s ≡ lent s = ap (λ (o : Option Cmd). cond (is_some o) (owed_in s.run.phase (is_claiming s.claims) (lent s)) (lent s)) none in
    let le = lent_most s in
    omega arith

owed_least : (p : Phase) (b : Bool) (more : ℕ) → 3 ≤ owed_in p b more
owed_least phase.Off b more = omega arith
owed_least phase.Fill true more = omega arith
owed_least phase.Fill false more = omega arith
owed_least phase.Drain true more = omega arith
owed_least phase.Drain false more = omega arith
owed_least phase.Last b more = omega arith
owed_least phase.Back b more = omega arith

pub owed_busy : (s : NodeState) (x : Cmd) → s.cmd ≡ Some x → 3 ≤ owed s
owed_busy s x has =
    let e : owed s ≡ owed_in s.run.phase (is_claiming s.claims) (lent s) = ap (λ (o : Option Cmd). cond (is_some o) (owed_in s.run.phase (is_claiming s.claims) (lent s)) (lent s)) has in
    let le = owed_least s.run.phase (is_claiming s.claims) (lent s) in
    omega arith

-- a sum over nodes of which one changes
sum_node : (f : NodeState → ℕ) (nodes : List NodeState) (n : ℕ) (s r : NodeState) → node_at nodes n ≡ Some s → sum_by f (set_node nodes n r) + f s ≡ sum_by f nodes + f r
sum_node f nodes zero s r at = absurd (let e : None ≡ Some s = at in cc)
sum_node f nodes (suc k) s r at = sum_set f nodes k s r at

-- ---- an event of node n, which stood as s and stands as r

-- Each sequence grows by so much at most, so many commands end, and what the node owes falls by what the sequences grow.
pub small_event : (w : Plain) → AreSmall w → (n : ℕ) (s r : NodeState) → node_at w.nodes n ≡ Some s → (t : List Resource) (bs : List Block) (h : List Entry) (more ended : ℕ)
    → ((name : LockName) → first_sequence (resource_at name t).value ≤ first_sequence (resource_at name w.locks).value + more)
    → ((name : LockName) → second_sequence (resource_at name t).value ≤ second_sequence (resource_at name w.locks).value + more)
    → count_by is_begun h ≡ count_by is_begun w.history + ended → more + (owed r + 4 * one (has_command s)) ≤ owed s + 4 * (ended + one (has_command r))
    → AreSmall (altered w t bs (set_node w.nodes n r) h)
small_event w small n s r at t bs h more ended first second counted within = record {
  first = λ name. let a = first name in let b = small.first name in by_sums (first_sequence (resource_at name t).value) (first_sequence (resource_at name w.locks).value) a b;
  second = λ name. let a = second name in let b = small.second name in by_sums (second_sequence (resource_at name t).value) (second_sequence (resource_at name w.locks).value) a b;
} where
  by_sums : (new old : ℕ) → new ≤ old + more → old + sum_by owed w.nodes ≤ 4 * begun_count w → new + sum_by owed (set_node w.nodes n r) ≤ 4 * (count_by is_begun h + count_by has_command (set_node w.nodes n r))
  by_sums new old le was =
      let a : sum_by owed (set_node w.nodes n r) + owed s ≡ sum_by owed w.nodes + owed r = sum_node owed w.nodes n s r at in
      let b : count_by has_command (set_node w.nodes n r) + one (has_command s) ≡ count_by has_command w.nodes + one (has_command r) = sum_node (λ y. one (has_command y)) w.nodes n s r at in
      let c : count_by is_begun h ≡ count_by is_begun w.history + ended = counted in
      let d : more + (owed r + 4 * one (has_command s)) ≤ owed s + 4 * (ended + one (has_command r)) = within in
      omega arith

-- A node owes no more than it owed, or four for a command that it has begun.
abbrev pub OwesLess : NodeState → NodeState → Type 0
OwesLess s r = owed r + 4 * one (has_command s) ≤ owed s + 4 * one (has_command r)

-- as where it owes the same
pub owes_same : (s r : NodeState) → owed r ≡ owed s → has_command r ≡ has_command s → OwesLess s r
owes_same s r e f = let a : 4 * one (has_command r) ≡ 4 * one (has_command s) = ap (λ b. 4 * one b) f in omega arith

pub owes_so : (s r : NodeState) → r.cmd ≡ s.cmd → r.run ≡ s.run → r.claims ≡ s.claims → has_asked X r.kept ≡ has_asked X s.kept → OwesLess s r
owes_so s r c run claims kept = owes_same s r (λ i. cond (is_some (c i)) (owed_in (run i).phase (is_claiming (claims i)) (cond (kept i) 1 0)) (cond (kept i) 1 0)) (ap is_some c)

-- a lock that may be taken, where it is there, is one of which no conversion waits
pub lock_there : (t : List Resource) (n : ℕ) (name : LockName) → MayTake name (system_of n) t → has_lock name (system_of n) t ≡ true → IsSome (lock_of (system_of n) (resource_at name t).askers)
lock_there t n name (inl none) has = absurd (let f : true ≡ false = sym has ∙ no-lock name (system_of n) t none in cc)
lock_there t n name (inr lock) has = ap is_some lock

-- the node alone changes, or a block
pub small_set : (w : Plain) → AreSmall w → (n : ℕ) (s r : NodeState) → node_at w.nodes n ≡ Some s → (bs : List Block) → OwesLess s r → AreSmall (altered w w.locks bs (set_node w.nodes n r) w.history)
small_set w small n s r at bs owes = small_event w small n s r at w.locks bs w.history 0 0 (λ name. omega arith) (λ name. omega arith) (omega arith) (omega (arith, owes))

-- a part of it takes a lock, of which no conversion waits where it has one
pub small_taken : (w : Plain) → AreSmall w → (n : ℕ) (s r : NodeState) → node_at w.nodes n ≡ Some s → (name : LockName) (owner : Owner) (mode : Mode) (bs : List Block)
    → (has_lock name owner w.locks ≡ true → IsSome (lock_of owner (resource_at name w.locks).askers)) → OwesLess s r → AreSmall (altered w (taken name owner mode w.locks) bs (set_node w.nodes n r) w.history)
small_taken w small n s r at name owner mode bs some owes = small_event w small n s r at (taken name owner mode w.locks) bs w.history 0 0
    (λ other. let e = taken_same first_sequence is_first name other owner mode w.locks some in omega arith)
    (λ other. let e = taken_same second_sequence is_second name other owner mode w.locks some in omega arith)
    (omega arith) (omega (arith, owes))

-- it answers, and puts back its locks, which raises no sequence by more than two, and then that of its channel
pub small_answered : (w : Plain) → AreSmall w → (n : ℕ) (s r : NodeState) → node_at w.nodes n ≡ Some s → (mid : List Resource)
    → ((name : LockName) → first_sequence (resource_at name mid).value ≤ first_sequence (resource_at name w.locks).value + 2) → ((name : LockName) → second_sequence (resource_at name mid).value ≤ second_sequence (resource_at name w.locks).value + 2)
    → (had : Option Chan) (x : Cmd) (reply : Reply) (bs : List Block) → s.cmd ≡ Some x → r.cmd ≡ None → AreSmall (altered w (closed_off n had x reply mid) bs (set_node w.nodes n r) (w.history ++ Done n x reply ∷ []))
small_answered w small n s r at mid first second had x reply bs has none = small_event w small n s r at (closed_off n had x reply mid) bs (w.history ++ Done n x reply ∷ []) 2 1
    (λ other. let a = closed_off_little first_sequence is_first n had x reply other mid in let b = first other in omega arith) (λ other. let a = closed_off_little second_sequence is_second n had x reply other mid in let b = second other in omega arith)
    (sum_more (λ e. one (is_begun e)) w.history (Done n x reply))
    (let a = owed_busy s x has in let b = owed_idle r none in let c : one (has_command s) ≡ 1 = ap (λ (o : Option Cmd). one (is_some o)) has in let d : one (has_command r) ≡ 0 = ap (λ (o : Option Cmd). one (is_some o)) none in omega arith)

-- A node without a command gives back locks under which it has written nothing.
pub small_left : (w : Plain) → AreSmall w → (n : ℕ) (s r : NodeState) → node_at w.nodes n ≡ Some s → (t : List Resource) (bs : List Block)
    → ((name : LockName) → first_sequence (resource_at name t).value ≤ first_sequence (resource_at name w.locks).value + 0) → ((name : LockName) → second_sequence (resource_at name t).value ≤ second_sequence (resource_at name w.locks).value + 0)
    → OwesLess s r → AreSmall (altered w t bs (set_node w.nodes n r) w.history)
small_left w small n s r at t bs first second owes = small_event w small n s r at t bs w.history 0 0 (λ name. first name) (λ name. second name) (omega arith) (omega (arith, owes))

-- It lowers V, which raises a sequence by one at most, and what comes behind that raises none; and it owes one less then.
pub small_lowered : (w : Plain) → AreSmall w → (n : ℕ) (s r : NodeState) → node_at w.nodes n ≡ Some s → (t mid : List Resource) (bs : List Block)
    → ((name : LockName) → first_sequence (resource_at name mid).value ≤ first_sequence (resource_at name w.locks).value + 1) → ((name : LockName) → second_sequence (resource_at name mid).value ≤ second_sequence (resource_at name w.locks).value + 1)
    → ((name : LockName) → first_sequence (resource_at name t).value ≤ first_sequence (resource_at name mid).value + 0) → ((name : LockName) → second_sequence (resource_at name t).value ≤ second_sequence (resource_at name mid).value + 0)
    → has_command r ≡ has_command s → owed r + 1 ≤ owed s → AreSmall (altered w t bs (set_node w.nodes n r) w.history)
small_lowered w small n s r at t mid bs first second first_on second_on same owes = small_event w small n s r at t bs w.history 1 0
    (λ name. let a = first name in let b = first_on name in omega arith) (λ name. let a = second name in let b = second_on name in omega arith) (omega arith)
    (let a : 4 * one (has_command r) ≡ 4 * one (has_command s) = ap (λ b. 4 * one b) same in omega (arith, owes))

-- ---- a mounted world

none_owed : (k : ℕ) (s : NodeState) → s.cmd ≡ None → s.kept ≡ [] → sum_by owed (replicate k s) ≡ 0
none_owed zero s none bare = refl
none_owed (suc k) s none bare =
    let rest = none_owed k s none bare in
    let a : sum_by owed (s ∷ replicate k s) ≡ owed s + sum_by owed (replicate k s) = sum_by-cons owed s (replicate k s) in
    let b : owed s ≡ 0 = ap (λ (o : Option Cmd). cond (is_some o) (owed_in s.run.phase (is_claiming s.claims) (lent s)) (lent s)) none ∙ ap (λ (ls : List (LockName × Mode)). cond (has_asked X ls) 1 0) bare in
    omega arith

pub small_mounted : (bs : List Block) (s : Script) (c : Cat) (g : Geometry) → AreSmall (mounted bs s c g)
small_mounted bs s c g = record {
  first = λ name. let a = none_owed s.nodes (at_rest g) refl refl in let b : first_sequence (fresh name).value ≡ 0 = is_first.zeros in omega arith;
  second = λ name. let a = none_owed s.nodes (at_rest g) refl refl in let b : second_sequence (fresh name).value ≡ 0 = is_second.zeros in omega arith;
}

-- ---- no sequence stops

goes_by : (sequence : ℕ) → sequence ≤ 4 * (4096 * 4105 + 16) → GoesOn sequence
goes_by sequence few true by le = omega arith
goes_by sequence few false by le = omega arith

pub all_go_on : (w : Plain) → Good w → length w.nodes ≤ 8 → length w.script.lines ≤ 4096 → AllGoOn w
all_go_on w good few lines = record {
  first = λ name. goes_by (first_sequence (resource_at name w.locks).value) (let a = good.small.first name in let b = begun in omega arith);
  second = λ name. goes_by (second_sequence (resource_at name w.locks).value) (let a = good.small.second name in let b = begun in omega arith);
} where
  few_dead : falls w.history ≤ 8
  few_dead =
      let same = good.running.fell in
      let some : fallen w.history w.script.nodes ≤ length (range_with_len 1 w.script.nodes) = count_by-le-length (λ n. (past n w.history).dead) (range_with_len 1 w.script.nodes) in
      let count = length-range_with_len 1 w.script.nodes in
      let nodes : w.script.nodes ≤ 8 = few_nodes in
      omega arith where
        few_nodes : w.script.nodes ≤ 8
        few_nodes = let is = good.form.nodes in grind (arith, nat_tests)

  begun : begun_count w ≤ 4096 * 4105 + 16
  begun =
      let d = few_dead in
      let a = few_begun w.script w.history w.opening good.running.cat good.own good.running.replayed lines (λ n. few_so w.script n (past n w.history) (good.few n)) in
      let b : count_by has_command w.nodes ≤ length w.nodes = count_by-le-length has_command w.nodes in
      omega arith
