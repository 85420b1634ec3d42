-- What a world is after one of its nodes has changed.
use Rattle.std.proofs.Common.{◌≡◌, ◌≤◌, ◌-◌, ◌++◌, ◌∷◌, [], ℕ, Bool, true, false, cond, List, Option, Some, None, Result, Ok, Err, length, map, slice_get, slice_set, refl, sym, ap, subst, ◌∙◌, arith}
use Rattle.std.specs.Prelude.{◌==◌, not, filter, slice_index_or, option_map, IsSome, OnOk, OnErr}
use Rattle.std.proofs.lemmas.Bool.Decides.{nat_tests}
use Rattle.std.proofs.lemmas.Option.{get_or_from_slice_get}
use Rattle.base_words.specs.Fields.{Block}
use Rattle.lock_db.specs.declared.name.LockName.{LockName}
use Rattle.lock_db.specs.declared.name.LockName.TheVariants as lock_name
use Rattle.core_space.specs.declared.run.Phase.{Phase}
use Rattle.plain_cat.specs.declared.mode.Mode.{Mode}
use Rattle.plain_cat.specs.declared.command.Cmd.{Cmd}
use Rattle.node_locks.specs.Held.{system_of}
use Rattle.lock_db.specs.declared.resource.Resource.{Resource}
use Rattle.plain_cat.specs.declared.history.Entry.{Entry}
use Rattle.plain_cat.specs.declared.history.Entry.TheVariants.{Done}
use Rattle.op_law.specs.declared.need.Plan.{Plan}
use Rattle.op_law.specs.declared.need.Ask.{Ask as PlanAsk}
use Rattle.core_state.specs.Worlds.{NodeState, Plain, node_at, set_node}
use Rattle.core_state.specs.Asks.{has_asked, reply_by, asker_of, own_of, with_ask}
use Rattle.core_state.specs.Channels.{channel_seen, closed_off}
use Rattle.node_locks.specs.Taking.{taken}
use Rattle.core_state.specs.Caches.{put_back_all}
use Rattle.core_state.specs.Event.{Event}
use Rattle.core_state.specs.Event as event
use Rattle.core_state.specs.Events.{would_go, asked_by, happens, happen_at, happen, given_back, left_alone, v_lowered, x_lowered, x_returned, all_writes, going, used_locks, all_put_back, turned, leaving, locking, claiming, lowering, lowering_both, returning, looking, planning, asking, answering, command_in, command_at, plan_in, plan_at, tried_in, tried_at}
use Rattle.vol_parts.specs.declared.geometry.Geometry.{Geometry}
use Rattle.core_step.specs.Giving.{MayCloseOff}
use Rattle.core_step.specs.Asks.{noted, unnoted}
use Rattle.core_step.proofs.Lists.{removed}
use Rattle.plain_cat.specs.declared.reply.Reply.{Reply}
use Rattle.op_law.specs.declared.seen.Chan.{Chan}
use Rattle.lock_db.specs.Names.{is_same}
use Rattle.core_state.proofs.Nodes.{told_at, told_set, set_node_same}

-- where something holds of an Ok, what follows from it holds
pub on_ok : {A E : Type 0} (r : Result A E) (P Q : Type 0) → (P → Q) → OnOk r P → OnOk r Q
on_ok (Ok a) P Q go p = go p
on_ok (Err e) P Q go p = tt

pub on_err : {A E : Type 0} (r : Result A E) (P Q : Type 0) → (P → Q) → OnErr r P → OnErr r Q
on_err (Ok a) P Q go p = tt
on_err (Err e) P Q go p = go p

-- an event of a node that stands so
pub happen_here : (w : Plain) (n : ℕ) (s : NodeState) (e : Event) → node_at w.nodes n ≡ Some s → happens w n s e ≡ happen w n e
happen_here w n s e at = sym (ap (λ o. happen_at w n o e) at)

-- ---- item d of the list xs, which is told as node n of the world w, is d' now

module _ {A : Type 0} (f : A → NodeState) (xs : List A) (w : Plain) (n : ℕ) (d d' : A) (from : 1 ≤ n) (to : n ≤ length (map f xs)) (is : d ≡ slice_index_or xs (n - 1) d) (told : w.nodes ≡ map f xs) where
  abbrev after : List NodeState
  after = map f (slice_set xs (n - 1) d')

  at : node_at w.nodes n ≡ Some (f d)
  at = ap (λ ns. node_at ns n) told ∙ told_at f xs n d from to is

  now : (s : NodeState) → f d' ≡ s → after ≡ set_node w.nodes n s
  now s e = told_set f xs n d' from ∙ ap (set_node (map f xs) n) e ∙ ap (λ ns. set_node ns n s) (sym told)

  pub stood : f d' ≡ turned (f d) → record w { nodes = after } ≡ happen w n event.Stand
  stood e = ap (λ ns. record w { nodes = ns }) (now (turned (f d)) e) ∙ happen_here w n (f d) event.Stand at

  -- the node changes with the lock table, and that is what the event makes of them
  changed_so : (q : NodeState) (k : Event) (t u : List Resource) → happens w n (f d) k ≡ record w { locks = t; nodes = set_node w.nodes n q } → f d' ≡ q → u ≡ t → record w { locks = u; nodes = after } ≡ happen w n k
  changed_so q k t u makes e locks = (λ i. record w { locks = locks i; nodes = now q e i }) ∙ sym makes ∙ happen_here w n (f d) k at

  pub left : (u : List Resource) → u ≡ left_alone n (f d).kept w.locks → f d' ≡ turned (leaving (f d)) → record w { locks = u; nodes = after } ≡ happen w n event.Leave
  left u locks e = changed_so (turned (leaving (f d))) event.Leave (left_alone n (f d).kept w.locks) u refl e locks

  pub locked_so : (name : LockName) (mode : Mode) (u : List Resource) → u ≡ taken name (system_of n) mode w.locks → f d' ≡ turned (locking (f d) name mode) → record w { locks = u; nodes = after } ≡ happen w n (event.Lock name mode)
  locked_so name mode u locks e = changed_so (turned (locking (f d) name mode)) (event.Lock name mode) (taken name (system_of n) mode w.locks) u refl e locks

  pub claimed_so : (p : Phase) (name : LockName) (mode : Mode) (u : List Resource) → u ≡ taken name (system_of n) mode w.locks → f d' ≡ turned (claiming (f d) p name mode) → record w { locks = u; nodes = after } ≡ happen w n (event.Claim p name mode)
  claimed_so p name mode u locks e = changed_so (turned (claiming (f d) p name mode)) (event.Claim p name mode) (taken name (system_of n) mode w.locks) u refl e locks

  pub lowered_so : (u : List Resource) → u ≡ v_lowered w n (f d) → f d' ≡ turned (lowering (f d)) → record w { locks = u; nodes = after } ≡ happen w n event.LowerV
  lowered_so u locks e = changed_so (turned (lowering (f d))) event.LowerV (v_lowered w n (f d)) u refl e locks

  pub drained_so : (u : List Resource) → u ≡ x_lowered n (v_lowered w n (f d)) → f d' ≡ turned (lowering_both (f d)) → record w { locks = u; nodes = after } ≡ happen w n event.LowerX
  drained_so u locks e = changed_so (turned (lowering_both (f d))) event.LowerX (x_lowered n (v_lowered w n (f d))) u refl e locks

  pub returned_so : (u : List Resource) → u ≡ x_returned n (v_lowered w n (f d)) → f d' ≡ turned (returning (f d)) → record w { locks = u; nodes = after } ≡ happen w n event.Return
  returned_so u locks e = changed_so (turned (returning (f d))) event.Return (x_returned n (v_lowered w n (f d))) u refl e locks

  -- the node with the block of an LBN
  seen_now : (lbn : ℕ) (b : Block) → slice_get w.blocks lbn ≡ Some b → f d' ≡ turned (looking (f d) lbn b) → after ≡ set_node w.nodes n (turned (looking (f d) lbn (slice_index_or w.blocks lbn [])))
  seen_now lbn b there e = now (turned (looking (f d) lbn (slice_index_or w.blocks lbn []))) (e ∙ ap (λ y. turned (looking (f d) lbn y)) (sym (get_or_from_slice_get w.blocks lbn b [] there)))

  pub fetched_so : (lbn : ℕ) (b : Block) → slice_get w.blocks lbn ≡ Some b → f d' ≡ turned (looking (f d) lbn b) → record w { nodes = after } ≡ happen w n (event.Fetch lbn)
  fetched_so lbn b there e = ap (λ ns. record w { nodes = ns }) (seen_now lbn b there e) ∙ happen_here w n (f d) (event.Fetch lbn) at

  pub planned_so : (p : Plan) → f d' ≡ turned (planning (f d) p) → record w { nodes = after } ≡ happen w n (event.Plan p)
  planned_so p e = ap (λ ns. record w { nodes = ns }) (now (turned (planning (f d) p)) e) ∙ happen_here w n (f d) (event.Plan p) at

  pub asked_so : (x : Cmd) (a : PlanAsk) → would_go w.locks n a ≡ true → f d' ≡ turned (asking (f d) a) → record w { locks = taken (lock_name.A a.file) (asker_of n a) a.mode w.locks; nodes = after } ≡ happen w n (event.Ask x a)
  asked_so x a goes e =
      ap (λ ns. record w { locks = taken (lock_name.A a.file) (asker_of n a) a.mode w.locks; nodes = ns }) (now (turned (asking (f d) a)) e) ∙ sym (ap (asked_by w n (f d) x a) goes) ∙ happen_here w n (f d) (event.Ask x a) at

  pub answered_so : (x : Cmd) (p : Plan) → command_at w n ≡ Some x → plan_at w n ≡ Some p → (cmd : Cmd) (plan : Plan) (b : Bool) → (f d).cmd ≡ Some cmd → (f d).plan ≡ Some plan → b ≡ (f d).tried
      → f d' ≡ turned (answering (f d) cmd (reply_by plan.ask b plan.reply)) → (t : List Resource) (h : List Entry) → t ≡ closed_off n (channel_seen (f d).opens cmd) cmd (reply_by plan.ask b plan.reply) (all_put_back w n (f d))
      → h ≡ w.history ++ Done n cmd (reply_by plan.ask b plan.reply) ∷ [] → record w { locks = t; nodes = after; history = h } ≡ happen w n (event.Answer x (reply_by p.ask (tried_at w n) p.reply))
  answered_so x p c q cmd plan b mine made tried e t h locks history =
      let first : Some cmd ≡ Some x = sym mine ∙ sym (ap command_in at) ∙ c in
      let same_cmd : cmd ≡ x = cc in
      let second : Some plan ≡ Some p = sym made ∙ sym (ap plan_in at) ∙ q in
      let same_plan : plan ≡ p = cc in
      let same_tried : b ≡ tried_at w n = tried ∙ sym (ap tried_in at) in
      (λ i. record w { locks = locks i; nodes = now (turned (answering (f d) cmd (reply_by plan.ask b plan.reply))) e i; history = history i })
      ∙ happen_here w n (f d) (event.Answer cmd (reply_by plan.ask b plan.reply)) at ∙ (λ i. happen w n (event.Answer (same_cmd i) (reply_by (same_plan i).ask (same_tried i) (same_plan i).reply)))

-- a node that is set to what tells the same
pub kept : {A : Type 0} (f : A → NodeState) (xs : List A) (w : Plain) (n : ℕ) (d d' : A) → 1 ≤ n → n ≤ length (map f xs) → d ≡ slice_index_or xs (n - 1) d → w.nodes ≡ map f xs → f d' ≡ f d
    → record w { nodes = map f (slice_set xs (n - 1) d') } ≡ w
kept f xs w n d d' from to is told e =
    ap (λ ns. record w { nodes = ns }) (told_set f xs n d' from ∙ ap (set_node (map f xs) n) e ∙ set_node_same (map f xs) n (f d) (told_at f xs n d from to is) ∙ sym told)

-- what is there after it was told is there
pub is_there : {A B : Type 0} (f : A → B) (o : Option A) → IsSome (option_map f o) → IsSome o
is_there f None i = i
is_there f (Some a) i = refl

-- ---- the locks that go back

-- the locks after those of its command are put back, and those that it kept and that do not stay
abbrev last_back : Geometry → ℕ → NodeState → List Resource → List Resource
last_back g n s t = given_back g n (all_writes s) (going s) (put_back_all g n (all_writes s) s.cache (used_locks s) t)

-- and then that of the channel, whatever ended
pub may_close_now : (n : ℕ) (g : Geometry) (s : NodeState) (t u : List Resource) (x : Cmd) (p : Plan) (b : Bool) (had : Option Chan) (r : Reply) → s.cmd ≡ Some x → s.plan ≡ Some p → b ≡ s.tried → had ≡ channel_seen s.opens x → r ≡ reply_by p.ask b p.reply
    → u ≡ last_back g n s t
    → ((y : Cmd) (q : Plan) → s.cmd ≡ Some y → s.plan ≡ Some q → MayCloseOff n (channel_seen s.opens y) y (reply_by q.ask s.tried q.reply) (last_back g n s t)) → MayCloseOff n had x r u
may_close_now n g s t u x p b had r cmd plan done channel reply table may =
    let now = may x p cmd plan in
    let replies : reply_by p.ask s.tried p.reply ≡ r = sym (reply ∙ ap (λ k. reply_by p.ask k p.reply) done) in
    subst (λ (ks : List Resource). MayCloseOff n had x r ks) (sym table) (subst (λ (k : Reply). MayCloseOff n had x k (last_back g n s t)) replies
    (subst (λ (o : Option Chan). MayCloseOff n o x (reply_by p.ask s.tried p.reply) (last_back g n s t)) (sym channel) now))

-- the locks with that of an ask of the file system
pub noted_so : (ls : List (LockName × Mode)) (a : PlanAsk) → noted ls a.chan (lock_name.A a.file) a.mode ≡ with_ask ls (own_of (Some a))
noted_so ls a = by_test (a.chan == 0) where
  by_test : (b : Bool) → cond b (ls ++ (lock_name.A a.file, a.mode) ∷ []) ls ≡ with_ask ls (cond b (Some a) None)
  by_test true = refl
  by_test false = refl

-- what was noted and taken back
pub unnoted_so : (ls : List (LockName × Mode)) (chan : ℕ) (name : LockName) (mode : Mode) → (chan ≡ 0 → has_asked name ls ≡ false) → unnoted (noted ls chan name mode) chan name ≡ ls
unnoted_so ls chan name mode none = by_test (chan == 0) refl where
  is_zero : (chan == 0) ≡ true → chan ≡ 0
  is_zero e = grind (arith, nat_tests)

  by_test : (b : Bool) → (chan == 0) ≡ b → cond b (filter (λ l. not (is_same l.0 name)) (cond b (ls ++ (name, mode) ∷ []) ls)) (cond b (ls ++ (name, mode) ∷ []) ls) ≡ ls
  by_test true e = removed ls name mode (none (is_zero e))
  by_test false e = refl
