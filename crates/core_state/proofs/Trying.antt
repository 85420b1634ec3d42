-- A plan that is at its ask, or at its end: the ask goes exactly where its mode goes with all other opens, whether it is by a channel
-- or by the file system, and each way on keeps the invariant.
use Rattle.std.proofs.Common.{◌≡◌, ◌≢◌, ◌≤◌, ◌&&◌, ◌⊎◌, ◌==◌, not, ℕ, zero, suc, Bool, true, false, cond, List, [], ◌∷◌, Option, Some, None, IsSome, is_some, length, map, take, slice_get, nat_lt, refl, sym, ap, subst, ◌∙◌, inl, inr, arith, ◌++◌}
use Rattle.std.proofs.lemmas.Bool.{and_parts}
use Rattle.std.proofs.lemmas.Bool.Decides.{nat_tests}
use Rattle.lock_db.specs.declared.name.LockName.{LockName}
use Rattle.lock_db.specs.declared.name.LockName.TheVariants.{S, A, X, V}
use Rattle.lock_db.specs.declared.name.Owner.{Owner}
use Rattle.lock_db.specs.declared.askers.Standing.TheVariants.{Granted}
use Rattle.lock_db.specs.declared.resource.Resource.{Resource}
use Rattle.lock_db.specs.Names.{same_owner}
use Rattle.lock_db.specs.Queues.{is_upward, lock_of}
use Rattle.lock_db.specs.Resources.{goes_at_once}
use Rattle.lock_db.specs.Tables.{resource_at, asked, converts_now, converted}
use Rattle.lock_db.specs.Laws.{stands_at}
use Rattle.lock_db.proofs.Owners.{same_owner-refl}
use Rattle.base_words.specs.Fields.{Block}
use Rattle.plain_cat.specs.Modes.{rank}
use Rattle.plain_cat.specs.InForm.{is_eighth}
use Rattle.plain_cat.specs.declared.mode.Mode.{Mode}
use Rattle.plain_cat.specs.declared.mode.Mode.TheVariants.{NL, CR, CW, PR, PW, EX}
use Rattle.plain_cat.specs.declared.command.Cmd.{Cmd}
use Rattle.plain_cat.specs.declared.command.Cmd.TheVariants as cmd
use Rattle.plain_cat.specs.declared.cat.Cat.{Cat}
use Rattle.plain_cat.specs.declared.cat.Open.{Open}
use Rattle.plain_rules.specs.Lookups.{channel_at}
use Rattle.node_locks.specs.Held.{has_lock, system_of, Row, joined, names_of, HoldsItsLocks, AreHeld, waits_at, all_held, without, with_rows}
use Rattle.node_locks.specs.HeldLaws.{StandsStill, GoesOn as RowGoesOn}
use Rattle.node_locks.specs.Taking.{taken, taken_now}
use Rattle.node_locks.specs.Channels.{AllStill}
use Rattle.node_locks.proofs.Channels.{channels_ask, channels_convert}
use Rattle.node_locks.proofs.Keeping.{held_are_granted, rows_stand_still}
use Rattle.base_words.specs.Lists.{Has}
use Rattle.base_words.proofs.Listing.{same_or_not}
use Rattle.base_words.proofs.ListWrites.{stands_joined}
use Rattle.vol_under.specs.Guards.{guard_of}
use Rattle.vol_under.specs.UnderWay.{UnderWay, changed}
use Rattle.core_state.specs.Committed.{IsUnderOn}
use Rattle.vol_under.proofs.Guarding.{wider_write}
use Rattle.op_law.specs.declared.need.Ask.{Ask as PlanAsk}
use Rattle.op_law.specs.declared.need.Plan.{Plan}
use Rattle.op_law.specs.declared.need.PlanWrite.{PlanWrite}
use Rattle.op_law.specs.declared.seen.Seen.{Seen}
use Rattle.op_law.specs.declared.seen.Chan.{Chan}
use Rattle.op_law.specs.Knows.{channel_of, asking_part, has_channel, knows, is_granted}
use Rattle.op_law.specs.Laws.{held_in, planned, under_way, IsAsk, IsPlan}
use Rattle.core_space.specs.declared.run.Phase.TheVariants as phase
use Rattle.core_state.specs.Worlds.{NodeState, Plain, node_at, set_node, rows_of, rows_in, rows_at}
use Rattle.core_state.specs.Asks.{writes_by, writes_now, granted_by, granted_ask, asker_of, own_of, own_ask, lock_of_ask, with_ask, known_with, knows_now}
use Rattle.core_state.specs.Opens.{is_channel, open_of, open_asked, open_with, asked_in, asked_at, open_now, open_stands, AreOpensLocked}
use Rattle.node_locks.specs.Sequences.{guards_blocks}
use Rattle.core_state.specs.Stores.{AreKept, hold_writes}
use Rattle.core_state.specs.Channels.{names_in_form, channel_seen, channel_now, HasOpens}
use Rattle.core_state.specs.Stocks.{stock_now, looked_now}
use Rattle.core_state.specs.Goods.{under_with, nodes_under, IsAtPlan, IsAt, HasCommand, Good, held_by}
use Rattle.core_state.specs.Events.{turned, asking, would_go, asked_by, by_end, happens}
use Rattle.core_state.proofs.StockSizes.{few_ready}
use Rattle.core_state.proofs.Nodes.{at_here, at_else, all_set}
use Rattle.core_state.proofs.Holding.{held_grows, strong_grows}
use Rattle.core_state.proofs.Naming.{named_by, without_none}
use Rattle.core_state.proofs.Opens.{opens_asked, IsPart, OthersStand, granted_goes, goes_exactly, asks_new, asks_up, HasNoOther, Taken, takes_new, takes_up, locked, no_lock, has_its, stands_there, none_elsewhere}
use Rattle.core_state.proofs.Channels.{closed_at, open_at, channel_from, channel_known, IsNodeNumber}
use Rattle.core_state.proofs.Ends.{HasShape, shape, AsksAs, EndsSo, ends_whole, ends_refused, AsksToOpen, AsksToClose, asks_by_channel}
use Rattle.core_state.proofs.Switching.{AsksAlike, own_with, with_else, with_here, channel_test, far_part}
use Rattle.core_state.proofs.Driving.{law_grows}
use Rattle.core_state.proofs.Running.{all_asked, at_locks, under_here, under_now, are_sole}
use Rattle.core_state.proofs.CachedTakes.{taken_stays, taken_elsewhere, IsTakenIn, taken_writes, taken_cached}
use Rattle.core_state.proofs.Taking.{replans_wider}
use Rattle.core_state.proofs.SmallWorlds.{owes_so, small_taken, lock_there as system_lock}
use Rattle.core_state.proofs.Keeping.{altered, still_driven, IsDriven, rebuilt, held_set, held_same, row_of_name, kept_named}
use Rattle.core_state.proofs.Rows.{IsAskedLast, asks_last}
use Rattle.core_state.proofs.Beginning.{stays_stocked}
use Rattle.core_state.proofs.Standing.{locks_within, IsAskOf, asks_open, asked_last, claims_are}
use Rattle.core_state.proofs.Turning.{my_sole, under_command, here, drive, back, known, is_node, writes_more, made_of, space_now, stocked_now, taken_first, taken_first_of, within_first, guarding_of}
use Rattle.core_state.proofs.Answering.{node_number, answers_keep}
use Rattle.node_locks.proofs.Standing.{goes-still}
use Rattle.core_state.proofs.Lasting.{still_lasting}

pub both : (a b : Bool) → a ≡ true → b ≡ true → (a && b) ≡ true
both a b e f = ap (λ k. k && b) e ∙ f

-- a granted ask is one of a plan
record IsAskedBy (tried : Bool) (plan : Option Plan) (a : PlanAsk) : Type 0 where
  by : Plan
  is : plan ≡ Some by
  ask : by.ask ≡ Some a
  made : tried ≡ true

made_by : (tried : Bool) (plan : Option Plan) (a : PlanAsk) → granted_ask tried plan ≡ Some a → IsAskedBy tried plan a
made_by tried None a e = absurd (let f : None ≡ Some a = e in cc)
made_by true (Some p) a e = record { by = p; is = refl; ask = e; made = refl }
made_by false (Some p) a e = absurd (let f : None ≡ Some a = e in cc)

-- the law of an ask
law_of : (n : ℕ) (x : Cmd) (seen : Seen) (p : Plan) (a : PlanAsk) → IsPlan n x seen p p.ask → p.ask ≡ Some a → IsPlan n x seen p (Some a)
law_of n x seen p a law ask = subst (IsPlan n x seen p) ask law

-- so an ask is by the part that its command says
asks_as : (n : ℕ) (x : Cmd) (seen : Seen) (p : Plan) → IsPlan n x seen p p.ask → AsksAs x p.ask
asks_as n x seen p law a e = let l = (law_of n x seen p a law e).0 in (l.may, l.by)

-- an ask of the file system
record IsOwn (o : Option PlanAsk) (a : PlanAsk) : Type 0 where
  is : o ≡ Some a
  zero_part : a.chan ≡ 0

own_is : (o : Option PlanAsk) (a : PlanAsk) → own_of o ≡ Some a → IsOwn o a
own_is None a e = absurd (let f : None ≡ Some a = e in cc)
own_is (Some b) a e = by_test (b.chan == 0) refl e where
  zero_is : (k : ℕ) → (k == 0) ≡ true → k ≡ 0
  zero_is k e = grind (arith, nat_tests)

  by_test : (t : Bool) → (b.chan == 0) ≡ t → cond t (Some b) None ≡ Some a → IsOwn (Some b) a
  by_test true z f = let g : b ≡ a = cc in record { is = ap Some g; zero_part = ap (λ (k : PlanAsk). k.chan) (sym g) ∙ zero_is b.chan z }
  by_test false z f = absurd (let g : None ≡ Some a = f in cc)

own_here : (a : PlanAsk) → a.chan ≡ 0 → own_of (Some a) ≡ Some a
own_here a e = ap (λ b. cond b (Some a) None) (is_zero a.chan e) where
  is_zero : (k : ℕ) → k ≡ 0 → (k == 0) ≡ true
  is_zero k e = grind (arith, nat_tests)

own_else : (a : PlanAsk) → a.chan ≢ 0 → own_of (Some a) ≡ None
own_else a ne = ap (λ b. cond b (Some a) None) (no_zero a.chan ne) where
  no_zero : (k : ℕ) → k ≢ 0 → (k == 0) ≡ false
  no_zero k ne = grind (arith, nat_tests)

zero_or_not : (k : ℕ) → (k ≡ 0) ⊎ (k ≢ 0)
zero_or_not zero = inl refl
zero_or_not (suc k) = inr (λ e. absurd (let f : suc k ≡ 0 = e in omega arith))

from_one : (k : ℕ) → k ≢ 0 → 1 ≤ k
from_one zero ne = absurd (ne refl)
from_one (suc k) ne = omega arith

-- the part that a command asks by is the file system or one of the channels
small_part : (x : Cmd) → names_in_form x ≡ true → asking_part (channel_of x) ≤ 8
small_part (cmd.OpenFile chan file mode) form = (channel_from chan (and_parts (is_eighth chan) _ form).0).1
small_part (cmd.CloseFile chan) form = (channel_from chan form).1
small_part (cmd.ReadBlock chan vbn) form = (channel_from chan form).1
small_part (cmd.WriteBlock chan vbn text) form = (channel_from chan form).1
small_part other form = omega arith

-- a node whose ask was granted
record IsAsker (w : Plain) (m : ℕ) (q : NodeState) (b : PlanAsk) : Type 0 where
  cmd : Cmd
  form : names_in_form cmd ≡ true
  plan : Plan
  ask : plan.ask ≡ Some b
  made : q.tried ≡ true
  shape_is : HasShape cmd q.seen.channel plan
  asks : AsksAs cmd plan.ask
  channel : q.seen.channel ≡ channel_seen q.opens cmd
  writes : Has (nodes_under w.locks w.nodes m).write (S b.file)

module _ (w : Plain) (good : Good w) where
  -- it writes under the lock of the ask's file
  asker : (m : ℕ) (q : NodeState) (b : PlanAsk) → node_at w.nodes m ≡ Some q → granted_ask q.tried q.plan ≡ Some b → IsAsker w m q b
  asker m q b at asked_so = by_cmd q.cmd refl (good.nodes m q at).command where
    by_cmd : (o : Option Cmd) → q.cmd ≡ o → HasCommand w m q o → IsAsker w m q b
    by_cmd None cmd idle = absurd (let f : None ≡ Some b = sym (ap (granted_ask q.tried) idle.plan) ∙ asked_so in cc)
    by_cmd (Some y) cmd now =
        let by = made_by q.tried q.plan b asked_so in
        let made : IsAtPlan y (waits_at w.locks m q.asked) q.seen q.done q.tried (Some by.by) = subst (IsAtPlan y (waits_at w.locks m q.asked) q.seen q.done q.tried) by.is now.plan in
        let whole : IsPlan m y q.seen by.by by.by.ask = now.lawful.plans m q.seen by.by now.seen made.0 in
        let law : IsAsk y q.seen by.by b = (law_of m y q.seen by.by b whole by.ask).0 in
        let more : Has (held_in PW (held_by w.locks m q)) (S b.file)
        = held_grows PW q.seen.locks (held_by w.locks m q) (S b.file) (λ l h. all_asked w.locks m q l made.1 (locks_within (own_ask q.tried q.plan) q.asked q.seen now.same l h)) law.held in
        let is : under_with w.locks m q (Some y) ≡ nodes_under w.locks w.nodes m = ap (under_with w.locks m q) (sym cmd) ∙ sym (under_here w.locks w.nodes m q at) in
        record {
          cmd = y;
          form = now.form;
          plan = by.by;
          ask = by.ask;
          made = by.made;
          shape_is = shape y q.seen by.by made.0;
          asks = asks_as m y q.seen by.by whole;
          channel = (good.nodes m q at).channel ∙ ap (channel_now q.opens) cmd;
          writes = subst (λ (u : UnderWay). Has u.write (S b.file)) is more;
        }

  -- what the catalogue has of a channel that asks: nothing, or the file of the ask
  asker_open : (m : ℕ) (q : NodeState) (b : PlanAsk) → node_at w.nodes m ≡ Some q → IsAsker w m q b → b.chan ≢ 0 → HasNoOther (channel_at good.running.cat m b.chan) b.file
  asker_open m q b at i ne = by_shape (asks_by_channel i.cmd q.seen.channel i.plan b i.shape_is i.asks i.ask) where
    c : Cat
    c = good.running.cat

    part_is : b.chan ≡ asking_part (channel_of i.cmd)
    part_is = (i.asks b i.ask).1

    known : has_channel c m (channel_of i.cmd) q.seen.channel ≡ true
    known = ap (has_channel c m (channel_of i.cmd)) i.channel ∙ channel_known c m q.opens i.cmd i.form (good.running.opened m q at)

    its : (o : Option ℕ) → channel_of i.cmd ≡ o → channel_of i.cmd ≡ Some b.chan
    its None e = absurd (ne (part_is ∙ ap asking_part e))
    its (Some k) e = e ∙ ap Some (sym (part_is ∙ ap asking_part e))

    there : has_channel c m (Some b.chan) q.seen.channel ≡ true
    there = subst (λ (o : Option ℕ). has_channel c m o q.seen.channel ≡ true) (its (channel_of i.cmd) refl) known

    by_shape : (b.chan ≡ 0) ⊎ (AsksToOpen q.seen.channel b ⊎ AsksToClose q.seen.channel b) → HasNoOther (channel_at c m b.chan) b.file
    by_shape (inl z) = absurd (ne z)
    by_shape (inr (inl o)) = subst (λ (k : Option Open). HasNoOther k b.file) (sym (closed_at c m b.chan (subst (λ (p : Option Chan). has_channel c m (Some b.chan) p ≡ true) o.none there))) tt
    by_shape (inr (inr o)) =
        let at_it = open_at c m b.chan o.had (subst (λ (p : Option Chan). has_channel c m (Some b.chan) p ≡ true) o.has there) in
        subst (λ (k : Option Open). HasNoOther k b.file) (sym at_it.at) (at_it.file ∙ o.file)

  -- an owner that asked has by the catalogue nothing else open
  asker_has : (owner : Owner) (q : NodeState) (b : PlanAsk) → node_at w.nodes owner.node ≡ Some q → IsAsker w owner.node q b → b.chan ≡ owner.part → 1 ≤ owner.part → HasNoOther (open_of good.running.cat owner) b.file
  asker_has owner q b at i e low = by_channel (is_channel owner) where
    here : HasNoOther (channel_at good.running.cat owner.node owner.part) b.file
    here = subst (λ (k : ℕ). HasNoOther (channel_at good.running.cat owner.node k) b.file) e (asker_open owner.node q b at i (λ z. absurd (let f : owner.part ≡ 0 = sym e ∙ z in omega arith)))

    by_channel : (t : Bool) → HasNoOther (cond t (channel_at good.running.cat owner.node owner.part) None) b.file
    by_channel true = here
    by_channel false = tt

  -- the file that the catalogue has open at the channel of a granted ask is that of the ask
  pub asker_has_file : (m : ℕ) (q : NodeState) (b : PlanAsk) → node_at w.nodes m ≡ Some q → granted_ask q.tried q.plan ≡ Some b → (chan : ℕ) → b.chan ≡ chan → 1 ≤ chan → (o : Open) → channel_at good.running.cat m chan ≡ Some o → o.file ≡ b.file
  asker_has_file m q b at asked_so chan e low o there =
      subst (λ (k : Option Open). HasNoOther k b.file) (ap (channel_at good.running.cat m) e ∙ there) (asker_open m q b at (asker m q b at asked_so) (λ z. absurd (let f : chan ≡ 0 = sym e ∙ z in omega arith)))

-- ---- a node whose command has decided on a plan with an ask

module _ (w : Plain) (good : Good w) (n : ℕ) (s : NodeState) (at : node_at w.nodes n ≡ Some s) (x : Cmd) (cmd : s.cmd ≡ Some x) (free : waits_at w.locks n s.asked ≡ false) (p : Plan) (plan : s.plan ≡ Some p) (a : PlanAsk) (ask : p.ask ≡ Some a) where
  abbrev cat : Cat
  cat = good.running.cat

  abbrev me : Owner
  me = asker_of n a

  now : IsAt w n s x
  now = under_command w good n s at x cmd free

  made : IsAtPlan x (waits_at w.locks n s.asked) s.seen s.done s.tried (Some p)
  made = made_of w good n s at x cmd free p plan

  whole_law : IsPlan n x s.seen p p.ask
  whole_law = now.lawful.plans n s.seen p now.seen made.0

  law : IsPlan n x s.seen p (Some a)
  law = law_of n x s.seen p a whole_law ask

  shape_is : HasShape x s.seen.channel p
  shape_is = shape x s.seen p made.0

  asks : AsksAs x p.ask
  asks = asks_as n x s.seen p whole_law

  holds_file : Has (nodes_under w.locks w.nodes n).write (S a.file)
  holds_file = subst (λ (u : UnderWay). Has u.write (S a.file)) (sym (here w good n s at x cmd free)) (writes_more w good n s at x cmd free (S a.file) law.0.held)

  number : IsNodeNumber n
  number = node_number w good n s at

  part : IsPart n a.chan
  part = record { from = number.from; to = subst (λ (k : ℕ). k ≤ 8) (sym law.0.by) (small_part x now.form) }

  -- who else has asked for the file is this node
  sole_asker : (m : ℕ) (q : NodeState) (b : PlanAsk) → node_at w.nodes m ≡ Some q → granted_ask q.tried q.plan ≡ Some b → b.file ≡ a.file → m ≡ n
  sole_asker m q b there asked_so e =
      (my_sole w good n s at x cmd free).writers m n (S a.file) (subst (λ (k : ℕ). Has (nodes_under w.locks w.nodes m).write (S k)) e (asker w good m q b there asked_so).writes) holds_file

  -- and its ask is this one
  same_ask : (b : PlanAsk) → granted_ask s.tried s.plan ≡ Some b → b ≡ a
  same_ask b e =
      let by = made_by s.tried s.plan b e in
      let one : Some by.by ≡ Some p = sym by.is ∙ plan in
      let same : by.by ≡ p = cc in
      let two : Some b ≡ Some a = sym by.ask ∙ ap (λ (k : Plan). k.ask) same ∙ ask in
      cc

  -- no other file system has asked for it
  rows_free : (m : ℕ) → same_owner (system_of m) me ≡ false ⊎ (s.tried ≡ false) → Has (names_of (joined (rows_at w.nodes m))) (A a.file) → ⊥
  rows_free m far has = by_node (node_at w.nodes m) refl has where
    by_own : (q : NodeState) → node_at w.nodes m ≡ Some q → IsAskOf (own_ask q.tried q.plan) a.file → ⊥
    by_own q e its =
        let own = own_is (granted_ask q.tried q.plan) its.made its.is in
        let same : m ≡ n = sole_asker m q its.made e own.is its.file in
        let one : Some q ≡ Some s = sym e ∙ ap (node_at w.nodes) same ∙ at in
        let is : q ≡ s = cc in
        let granted : granted_ask s.tried s.plan ≡ Some its.made = ap (λ (z : NodeState). granted_ask z.tried z.plan) (sym is) ∙ own.is in
        let its_ask : its.made ≡ a = same_ask its.made granted in
        let zero_chan : a.chan ≡ 0 = ap (λ (k : PlanAsk). k.chan) (sym its_ask) ∙ own.zero_part in
        elim far [
          | inl off ↦
              let me_is : system_of m ≡ me = λ i. record { node = same i; part = sym zero_chan i } in
              let yes : same_owner (system_of m) me ≡ true = ap (λ o. same_owner o me) me_is ∙ same_owner-refl me in
              absurd (let g : true ≡ false = sym yes ∙ off in cc)
          | inr not_yet ↦ absurd (let by = made_by s.tried s.plan its.made granted in let g : true ≡ false = sym by.made ∙ not_yet in cc)
        ]

    by_cmd : (q : NodeState) → node_at w.nodes m ≡ Some q → Has (names_of q.asked) (A a.file) → (o : Option Cmd) → q.cmd ≡ o → HasCommand w m q o → ⊥
    by_cmd q e h None c i = absurd (subst (λ (ls : List (LockName × Mode)). Has (names_of ls) (A a.file)) i.asked h)
    by_cmd q e h (Some y) c i = by_own q e (asks_open y (own_ask q.tried q.plan) q.asked q.seen i.same i.own a.file h)

    by_node : (o : Option NodeState) → node_at w.nodes m ≡ o → Has (names_of (joined (rows_in o))) (A a.file) → ⊥
    by_node None e h = absurd h
    by_node (Some q) e h = elim (row_of_name q (A a.file) h) [
      | inl k ↦ not_kept q (good.nodes m q e).store.kept k
      | inr k ↦ elim k [
        | inl i ↦ by_cmd q e i q.cmd refl (good.nodes m q e).command
        | inr i ↦ not_claimed q e i
      ]
    ] where
      not_kept : (q : NodeState) → AreKept q.run.phase q.kept → Has (names_of q.kept) (A a.file) → ⊥
      not_kept q keeps k =
          let l = named_by q.kept (A a.file) k in
          elim (keeps (A a.file, l.0) l.1) [ inl f ↦ absurd (let z : false ≡ true = f.0 in cc) | inr f ↦ absurd (let z : A a.file ≡ X = f.0 in cc) ]

      not_claimed : (q : NodeState) → node_at w.nodes m ≡ Some q → Has (names_of q.claims) (A a.file) → ⊥
      not_claimed q e k =
          let l = named_by q.claims (A a.file) k in
          elim (claims_are q.cmd q.kept q.claims q.run q.stock q.seen (good.nodes m q e).space (A a.file, l.0) l.1) [ inl f ↦ absurd (let z : A a.file ≡ X = f in cc) | inr f ↦ absurd (let z : A a.file ≡ V = f in cc) ]

  pub nobody_asks : s.tried ≡ false → (m : ℕ) → stands_at (A a.file) (system_of m) w.locks ≡ None
  nobody_asks not_yet m = let h : HoldsItsLocks w.locks m (rows_at w.nodes m) = good.locked.1 m in h.no_other (A a.file) (rows_free m (inr not_yet))

  -- at the file's lock the others stand as the catalogue says
  others_stand : OthersStand w.locks cat me a.file
  others_stand = record {
    opens = λ owner low far. good.running.opens (A a.file) owner low ∙ by_ask owner low far (node_at w.nodes owner.node) refl;
    free = λ m far. let h : HoldsItsLocks w.locks m (rows_at w.nodes m) = good.locked.1 m in h.no_other (A a.file) (rows_free m (inl far));
  } where
    by_granted : (owner : Owner) → 1 ≤ owner.part → same_owner owner me ≡ false → (q : NodeState) → node_at w.nodes owner.node ≡ Some q → (o : Option PlanAsk) → granted_ask q.tried q.plan ≡ o
        → open_stands (A a.file) (open_with owner.part o (open_of cat owner)) ≡ open_stands (A a.file) (open_of cat owner)
    by_granted owner low far q e None granted = refl
    by_granted owner low far q e (Some b) granted = elim (same_or_not b.chan owner.part) [
      | inl here ↦ elim (same_or_not b.file a.file) [
        | inl file ↦
            let same : owner.node ≡ n = sole_asker owner.node q b e granted file in
            let one : Some q ≡ Some s = sym e ∙ ap (node_at w.nodes) same ∙ at in
            let is : q ≡ s = cc in
            let its : b ≡ a = same_ask b (ap (λ (z : NodeState). granted_ask z.tried z.plan) (sym is) ∙ granted) in
            let me_is : owner ≡ me = λ i. record { node = same i; part = (sym here ∙ ap (λ (k : PlanAsk). k.chan) its) i } in
            let yes : same_owner owner me ≡ true = ap (λ o. same_owner o me) me_is ∙ same_owner-refl me in
            absurd (let g : true ≡ false = sym yes ∙ far in cc)
        | inr other ↦
            let apart_name : A a.file ≢ A b.file = λ k. other (same_file b.file a.file (sym k)) in
            ap (open_stands (A a.file)) (with_here b owner.part (open_of cat owner) here) ∙ none_elsewhere (A a.file) b.file (Some (open_asked b)) refl apart_name
            ∙ sym (none_elsewhere (A a.file) b.file (open_of cat owner) (asker_has w good owner q b e (asker w good owner.node q b e granted) here low) apart_name)
      ]
      | inr elsewhere ↦ ap (open_stands (A a.file)) (with_else owner.part (Some b) (open_of cat owner) (λ k i z. let g : Some b ≡ Some k = i in let h : b ≡ k = cc in elsewhere (ap (λ (y : PlanAsk). y.chan) h ∙ z)))
    ] where
      same_file : (k j : ℕ) → A k ≡ A j → k ≡ j
      same_file k j e = cc

    by_ask : (owner : Owner) → 1 ≤ owner.part → same_owner owner me ≡ false → (o : Option NodeState) → node_at w.nodes owner.node ≡ o → open_stands (A a.file) (open_now cat w.nodes owner) ≡ open_stands (A a.file) (open_of cat owner)
    by_ask owner low far None e = ap (λ o. open_stands (A a.file) (open_with owner.part (asked_in o) (open_of cat owner))) e
    by_ask owner low far (Some q) e = ap (λ o. open_stands (A a.file) (open_with owner.part (asked_in o) (open_of cat owner))) e ∙ by_granted owner low far q e (granted_ask q.tried q.plan) refl

  -- how it stands there itself before it has asked: it has nothing, or a lock that it asks to convert to EX
  abbrev pub StandsSo : Type 0
  StandsSo = (stands_at (A a.file) me w.locks ≡ None) ⊎ ((old : Mode) × (stands_at (A a.file) me w.locks ≡ Some (Granted old)) × (is_upward old a.mode ≡ true) × (a.mode ≡ EX))

  channel_there : a.chan ≢ 0 → has_channel cat n (Some a.chan) s.seen.channel ≡ true
  channel_there ne = subst (λ (o : Option ℕ). has_channel cat n o s.seen.channel ≡ true) (its (channel_of x) refl) known_channel where
    part_is : a.chan ≡ asking_part (channel_of x)
    part_is = law.0.by

    its : (o : Option ℕ) → channel_of x ≡ o → channel_of x ≡ Some a.chan
    its None e = absurd (ne (part_is ∙ ap asking_part e))
    its (Some k) e = e ∙ ap Some (sym (part_is ∙ ap asking_part e))

    known_channel : has_channel cat n (channel_of x) s.seen.channel ≡ true
    known_channel = ap (has_channel cat n (channel_of x)) ((good.nodes n s at).channel ∙ ap (channel_now s.opens) cmd) ∙ channel_known cat n s.opens x now.form (good.running.opened n s at)

  not_asked : s.tried ≡ false → asked_at w.nodes n ≡ None
  not_asked not_yet = ap asked_in at ∙ (λ i. granted_ask (not_yet i) (plan i))

  pub stands_so : s.tried ≡ false → StandsSo
  stands_so not_yet = elim (zero_or_not a.chan) [ inl z ↦ inl (ap (λ k. stands_at (A a.file) (record { node = n; part = k }) w.locks) z ∙ nobody_asks not_yet n) | inr ne ↦ by_channel ne (asks_by_channel x s.seen.channel p a shape_is asks ask) ] where
    low : a.chan ≢ 0 → 1 ≤ a.chan
    low ne = from_one a.chan ne

    stands : (ne : a.chan ≢ 0) → stands_at (A a.file) me w.locks ≡ open_stands (A a.file) (open_of cat me)
    stands ne = good.running.opens (A a.file) me (low ne) ∙ ap (λ o. open_stands (A a.file) (open_with a.chan o (open_of cat me))) (not_asked not_yet)

    of_me : (ne : a.chan ≢ 0) → open_of cat me ≡ channel_at cat n a.chan
    of_me ne = ap (λ b. cond b (channel_at cat n a.chan) None) (channel_test n a.chan number.from (low ne) part.to)

    by_channel : (ne : a.chan ≢ 0) → (a.chan ≡ 0) ⊎ (AsksToOpen s.seen.channel a ⊎ AsksToClose s.seen.channel a) → StandsSo
    by_channel ne (inl z) = absurd (ne z)
    by_channel ne (inr (inl o)) =
        inl (stands ne ∙ ap (open_stands (A a.file)) (of_me ne ∙ closed_at cat n a.chan (subst (λ (k : Option Chan). has_channel cat n (Some a.chan) k ≡ true) o.none (channel_there ne))))
    by_channel ne (inr (inr o)) =
        let at_it = open_at cat n a.chan o.had (subst (λ (k : Option Chan). has_channel cat n (Some a.chan) k ≡ true) o.has (channel_there ne)) in
        let is_file : at_it.open_is ≡ record { file = a.file; mode = at_it.open_is.mode } = λ i. record { file = (at_it.file ∙ o.file) i; mode = at_it.open_is.mode } in
        let has : stands_at (A a.file) me w.locks ≡ Some (Granted at_it.open_is.mode) = stands ne ∙ ap (open_stands (A a.file)) (of_me ne ∙ at_it.at ∙ ap Some is_file) ∙ stands_there a.file at_it.open_is.mode in
        inr (at_it.open_is.mode, has, (λ i. nat_lt (at_it.mode i) (rank (o.mode i))) ∙ o.up, o.mode)

  -- nobody waits there, so a conversion goes where a request would
  pub goes_as_request : s.tried ≡ false → goes_at_once me a.mode (resource_at (A a.file) w.locks).askers ≡ would_go w.locks n a
  goes_as_request not_yet = by_stand (stands_so not_yet) where
    by_stand : StandsSo → goes_at_once me a.mode (resource_at (A a.file) w.locks).askers ≡ would_go w.locks n a
    by_stand (inl none) = sym (asks_new w.locks cat n a.chan a.file a.mode part good.locked.0 others_stand none)
    by_stand (inr k) = sym (asks_up w.locks cat n a.chan a.file a.mode part good.locked.0 others_stand k.0 k.1 k.2)

  -- the ask goes exactly where its mode goes with all other opens
  asks_exactly : s.tried ≡ false → would_go w.locks n a ≡ is_granted n a cat
  asks_exactly not_yet = sym (goes_as_request not_yet) ∙ by_stand (stands_so not_yet) where
    by_stand : StandsSo → goes_at_once me a.mode (resource_at (A a.file) w.locks).askers ≡ is_granted n a cat
    by_stand (inl none) = goes_exactly w.locks cat n a.chan a.file a.mode part good.locked.0 others_stand (inl none)
    by_stand (inr k) = goes_exactly w.locks cat n a.chan a.file a.mode part good.locked.0 others_stand (inr (k.0, k.1))

  -- and where it was granted its mode goes with them still
  pub still_granted : s.tried ≡ true → is_granted n a cat ≡ true
  still_granted done = granted_goes w.locks cat n a.chan a.file a.mode part good.locked.0 others_stand (elim (zero_or_not a.chan) [ inl z ↦ by_system z | inr ne ↦ by_channel ne ]) where
    granted : granted_ask s.tried s.plan ≡ Some a
    granted = (λ i. granted_ask (done i) (plan i)) ∙ ask

    by_system : a.chan ≡ 0 → stands_at (A a.file) me w.locks ≡ Some (Granted a.mode)
    by_system z =
        let is : own_ask s.tried s.plan ≡ Some a = ap own_of granted ∙ own_here a z in
        let has : Has s.asked (lock_of_ask a) = asked_last (own_ask s.tried s.plan) s.asked s.seen now.same a is in
        let h : HoldsItsLocks w.locks n (rows_of s) = subst (λ (rs : List Row). HoldsItsLocks w.locks n rs) (ap rows_in at) (good.locked.1 n) in
        ap (λ k. stands_at (A a.file) (record { node = n; part = k }) w.locks) z ∙ (held_are_granted w.locks n (lock_of_ask a) (rows_of s) h).0 (all_asked w.locks n s (lock_of_ask a) free has)

    by_channel : a.chan ≢ 0 → stands_at (A a.file) me w.locks ≡ Some (Granted a.mode)
    by_channel ne =
        good.running.opens (A a.file) me (from_one a.chan ne)
        ∙ ap (open_stands (A a.file)) (ap (λ o. open_with a.chan o (open_of cat me)) (ap asked_in at ∙ granted) ∙ with_here a a.chan (open_of cat me) refl) ∙ stands_there a.file a.mode

  -- ---- it is granted

  abbrev know : Cat → Bool
  know c = knows n x s.seen c && is_granted n a c

  abbrev left : List (ℕ × Block)
  left = looked_now s.run

  -- the writes so far are the first of all
  first_writes : s.tried ≡ false → writes_now s.tried s.plan ≡ take a.at p.writes
  first_writes not_yet = (λ i. writes_now (not_yet i) (plan i)) ∙ ap (λ o. writes_by o false p.writes) ask

  first_part : s.tried ≡ false → s.done ≤ length (take a.at p.writes)
  first_part not_yet = subst (λ (ws : List PlanWrite). s.done ≤ length ws) ((λ i. writes_by p.ask (not_yet i) p.writes) ∙ ap (λ o. writes_by o false p.writes) ask) made.2

  all_writes_then : p.writes ≡ writes_now true s.plan
  all_writes_then = sym (ap (writes_now true) plan ∙ ap (λ o. writes_by o true p.writes) ask)

  all_known_then : (c : Cat) → know c ≡ knows_now n x s.seen true s.plan c
  all_known_then c = sym (ap (λ (o : Option Plan). known_with n (knows n x s.seen) (granted_ask true o) c) plan ∙ ap (λ o. known_with n (knows n x s.seen) o c) ask)

  granted_then : granted_ask true s.plan ≡ Some a
  granted_then = ap (granted_ask true) plan ∙ ask

  all_made : s.tried ≡ false → s.done ≤ length (writes_by p.ask true p.writes)
  all_made not_yet = subst (λ (o : Option PlanAsk). s.done ≤ length (writes_by o true p.writes)) (sym ask) (whole s.done a.at p.writes (first_part not_yet)) where
    whole : (k m : ℕ) (ws : List PlanWrite) → k ≤ length (take m ws) → k ≤ length ws
    whole k m ws le = let l = shorter m ws in omega arith where
      shorter : (m : ℕ) (ws : List PlanWrite) → length (take m ws) ≤ length ws
      shorter zero ws = omega arith
      shorter (suc m) [] = omega arith
      shorter (suc m) (y ∷ ws) = let l = shorter m ws in omega arith

  no_own_yet : s.tried ≡ false → own_ask s.tried s.plan ≡ None
  no_own_yet not_yet = (λ i. own_ask (not_yet i) (plan i))

  -- it has written what it had written
  wrote : s.tried ≡ false → take s.run.made s.run.writes ++ take s.done (writes_now true s.plan) ≡ hold_writes s
  wrote not_yet = ap (λ (zs : List PlanWrite). take s.run.made s.run.writes ++ zs)
      (ap (λ (zs : List PlanWrite). take s.done zs) (sym all_writes_then) ∙ taken_first_of s.done a.at p.writes (first_part not_yet) ∙ ap (λ (zs : List PlanWrite). take s.done zs) (sym (first_writes not_yet)))

  -- the drive with the whole plan, whatever more the node holds then
  module _ (t : List Resource) (more_asked : List (LockName × Mode)) where
    abbrev r : NodeState
    r = turned (record s { asked = more_asked; tried = true })

    wider_drive : s.tried ≡ false → is_granted n a cat ≡ true → ((l : LockName × Mode) → rank CR ≤ rank l.1 → Has (held_by w.locks n s) l → Has (held_by t n r) l)
        → IsUnderOn w.geometry cat good.running.drive.base good.running.drive.own (changed (nodes_under w.locks w.nodes) n (under_with t n r r.cmd)) w.blocks
    wider_drive not_yet granted grows =
        let u : UnderWay = at_locks n s x (held_by w.locks n s) in
        let ls : Row = held_by t n r in
        let stock = stock_now s.stock s.run in
        let v = replans_wider s.seen.geometry cat (nodes_under w.locks w.nodes) w.blocks n u (here w good n s at x cmd free) (drive w good n s at x cmd free) know (map planned p.writes) (held_in PR ls) (held_in PW ls)
        (λ name h. strong_grows PR (held_by w.locks n s) ls name (omega arith) grows h) (λ name h. strong_grows PW (held_by w.locks n s) ls name (omega arith) grows h)
        (taken_first s.done a.at p.writes (first_part not_yet) ∙ ap (λ (ws : List PlanWrite). take s.done (map planned ws)) (sym (first_writes not_yet)))
        (within_first s.done a.at p.writes (first_part not_yet))
        (law_grows s.seen.geometry n (under_way x s.seen p.writes know) (held_in PR (held_by w.locks n s)) (held_in PW (held_by w.locks n s)) left s.done stock (writes_more w good n s at x cmd free) law.1.lawful)
        (λ base own spelt stands outs l h. wider_write n (held_in PW s.seen.locks) (held_in PW (held_by w.locks n s)) (writes_more w good n s at x cmd free) (guard_of s.seen.geometry own l)
        (law.1.guarded base own cat stock spelt (both (knows n x s.seen cat) _ (known w good n s at x cmd free) granted) ((stands_joined base left s.seen.blocks).0 stands).1 outs l h)) in
        let there : record u { knows = know; plan = map planned p.writes; read = held_in PR ls; write = held_in PW ls } ≡ under_with t n r r.cmd
        = (λ i. record (at_locks n r x ls) { knows = λ c. all_known_then c i; plan = map planned (all_writes_then i) }) ∙ ap (under_with t n r) (sym cmd) in
        subst (λ (z : UnderWay). IsUnderOn w.geometry cat good.running.drive.base good.running.drive.own (changed (nodes_under w.locks w.nodes) n z) w.blocks) there
        (back w good n s at x cmd free (record u { knows = know; plan = map planned p.writes; read = held_in PR ls; write = held_in PW ls }) w.blocks v)

  -- ---- by the file system: its lock is the last of the command's

  not_mine : s.tried ≡ false → Has (names_of (joined (rows_of s))) (A a.file) → ⊥
  not_mine not_yet h = rows_free n (inr not_yet) (subst (λ (rs : List Row). Has (names_of (joined rs)) (A a.file)) (sym (ap rows_in at)) h)

  -- with it its locks are those of its command, and that of its ask
  asked_so : s.tried ≡ false → s.asked ≡ s.seen.locks
  asked_so not_yet = now.same ∙ ap (with_ask s.seen.locks) (no_own_yet not_yet)

  system_keeps : s.tried ≡ false → a.chan ≡ 0 → would_go w.locks n a ≡ true → Good (altered w (taken (A a.file) me a.mode w.locks) w.blocks (set_node w.nodes n (turned (asking s a))) w.history)
  system_keeps not_yet zero_chan goes = subst (λ (u : List Resource). Good (altered w u w.blocks (set_node w.nodes n (turned (asking s a))) w.history)) (sym table)
      (subst (λ (y : NodeState). Good (altered w t w.blocks (set_node w.nodes n y) w.history)) (sym node_is) all) where
        t : List Resource
        t = taken (A a.file) (system_of n) a.mode w.locks

        more : List (LockName × Mode)
        more = s.asked ++ lock_of_ask a ∷ []

        q : NodeState
        q = turned (record s { asked = more; tried = true })

        new : Has (names_of (joined (rows_of s))) (A a.file) → ⊥
        new = not_mine not_yet

        bare : without (A a.file) s.kept ≡ s.kept
        bare = without_none s.kept (A a.file) (λ h. new (kept_named s (A a.file) h))

        it : IsAskedLast w.locks n (A a.file) a.mode (rows_at w.nodes) s.kept s.asked s.claims good.locked.0 good.locked.1 (ap rows_in at) (good.nodes n s at).rests (inl new)
        it = asks_last w.locks n (A a.file) a.mode (rows_at w.nodes) s.kept s.asked s.claims good.locked.0 good.locked.1 (ap rows_in at) (good.nodes n s at).rests (inl new) free

        me_is : me ≡ system_of n
        me_is = λ i. record { node = n; part = zero_chan i }

        table : taken (A a.file) me a.mode w.locks ≡ t
        table = ap (λ o. taken (A a.file) o a.mode w.locks) me_is

        asks_it : t ≡ asked (A a.file) (system_of n) a.mode w.locks
        asks_it = ap (λ b. cond b (converted (A a.file) (system_of n) a.mode (resource_at (A a.file) w.locks).value w.locks) (asked (A a.file) (system_of n) a.mode w.locks))
            (no_lock (system_of n) (resource_at (A a.file) w.locks).askers (nobody_asks not_yet n))

        go_now : taken_now (A a.file) (system_of n) a.mode w.locks ≡ true
        go_now = ap (λ o. taken_now (A a.file) o a.mode w.locks) (sym me_is) ∙ goes

        node_is : turned (asking s a) ≡ q
        node_is = ap (λ o. turned (record s { asked = with_ask s.asked o; tried = true })) (own_here a zero_chan)

        own_then : own_ask true s.plan ≡ Some a
        own_then = ap own_of granted_then ∙ own_here a zero_chan

        alike : AsksAlike (granted_ask s.tried s.plan) (granted_ask true s.plan)
        alike = λ k o low. ap (λ y. open_with k y o) granted_then ∙ own_with a k o zero_chan low ∙ sym (λ i. open_with k (granted_ask (not_yet i) (plan i)) o)

        rows_then : Row → List Row
        rows_then ls = ls ∷ (more ∷ (s.claims ∷ []))

        free_then : waits_at t n more ≡ false
        free_then = it.waits ∙ ap not go_now

        takes : IsTakenIn w n s q t
        takes = record {
          at = at;
          strong = λ l le h. subst (λ (ls : Row). Has (all_held t n (rows_then ls)) l) bare (it.took.strong l le h);
          others = λ m y off e. rows_stand_still w.locks t m (rows_of y) (λ ls i. it.took.others m ls off);
          stays = λ other guards. taken_stays n (A a.file) other a.mode w.locks it.took.may;
          lasting = it.took.lasting;
          same = wrote not_yet;
          cache = refl;
        }

        held_then : AreHeld t (rows_at (set_node w.nodes n q))
        held_then = held_set t w.nodes n s q at (subst (λ (ls : Row). AreHeld t (with_rows (rows_at w.nodes) n (rows_then ls))) bare it.took.held)

        under_then : IsUnderOn w.geometry cat good.running.drive.base good.running.drive.own (changed (nodes_under w.locks w.nodes) n (under_with t n q q.cmd)) w.blocks
        under_then = wider_drive t more not_yet (sym (asks_exactly not_yet) ∙ goes) (λ l le h. subst (λ (ls : Row). Has (all_held t n (rows_then ls)) l) bare (it.took.strong l le h))

        all : Good (altered w t w.blocks (set_node w.nodes n q) w.history)
        all = rebuilt w good n s q at t w.blocks w.history
            (still_driven w good n s q at t w.blocks alike refl good.running.drive.base good.running.drive.own good.running.blank
            (under_now w.geometry cat good.running.drive.base good.running.drive.own w.locks t w.nodes n s q w.blocks at (λ m y ne e. rows_stand_still w.locks t m (rows_of y) (λ ls i. it.took.others m ls ne)) under_then)
            (subst (λ (u : List Resource). AreOpensLocked u (open_now cat w.nodes)) (sym asks_it) (opens_asked (A a.file) n a.mode w.locks (open_now cat w.nodes) good.running.opens))
            (taken_cached w (my_sole w good n s at x cmd free) good.writers n s q t takes (are_sole t (set_node w.nodes n q) it.took.table held_then) (guarding_of w good) good.running.drive.own cat good.running.cached))
            (it.took.table, held_then) good.own
            (small_taken w good.small n s q at (A a.file) (system_of n) a.mode w.blocks (system_lock w.locks n (A a.file) it.took.may) (owes_so s q refl refl refl refl)) (good.few n) (λ m ne. refl)
            (λ m y ne e ls i. goes-still w.locks t m ls (it.took.others m ls ne))
            (stays_stocked s q refl refl (λ h. h) (λ f. inl (few_ready s x cmd p made.0 f)) (stocked_now w good n s at x cmd free))
            (taken_writes w (my_sole w good n s at x cmd free) good.writers n s q t takes)
            (is_node w good n s at x cmd free t w.blocks q refl refl refl refl (good.nodes n s at).store (subst (λ (ls : Row). waits_at t n ls ≡ false) bare it.rests_then) now.seen now.own
            (subst (IsAtPlan x (waits_at t n q.asked) s.seen s.done true) (sym plan) (made.0, free_then, all_made not_yet))
            (ap (λ (ls : Row). ls ++ lock_of_ask a ∷ []) (asked_so not_yet) ∙ sym (ap (with_ask s.seen.locks) own_then))
            (space_now w good n s at x cmd free)
            (λ e. absurd (let g : true ≡ false = sym e ∙ free_then in cc)))

  -- ---- by a channel: its lock is none of the command's

  channel_keeps : s.tried ≡ false → a.chan ≢ 0 → would_go w.locks n a ≡ true → Good (altered w (taken (A a.file) me a.mode w.locks) w.blocks (set_node w.nodes n (turned (asking s a))) w.history)
  channel_keeps not_yet ne goes = subst (λ (y : NodeState). Good (altered w t w.blocks (set_node w.nodes n y) w.history)) (sym node_is) all where
    t : List Resource
    t = taken (A a.file) me a.mode w.locks

    q : NodeState
    q = turned (record s { asked = s.asked; tried = true })

    node_is : turned (asking s a) ≡ q
    node_is = ap (λ o. turned (record s { asked = with_ask s.asked o; tried = true })) (own_else a ne)

    low : 1 ≤ a.chan
    low = from_one a.chan ne

    -- the rows of all nodes stand as they stood
    still : AllStill w.locks t (rows_at w.nodes)
    still = by_stand (stands_so not_yet) where
      by_stand : StandsSo → AllStill w.locks t (rows_at w.nodes)
      by_stand (inl none) =
          let no : has_lock (A a.file) me w.locks ≡ false = no_lock me (resource_at (A a.file) w.locks).askers none in
          subst (λ (u : List Resource). AllStill w.locks u (rows_at w.nodes)) (sym (ap (λ b. cond b (converted (A a.file) me a.mode (resource_at (A a.file) w.locks).value w.locks) (asked (A a.file) me a.mode w.locks)) no))
          (channels_ask w.locks me (A a.file) a.mode (rows_at w.nodes) ne good.locked.1)
      by_stand (inr k) =
          let yes : has_lock (A a.file) me w.locks ≡ true = has_its me (resource_at (A a.file) w.locks).askers k.0 k.1 in
          let now_goes : converts_now (A a.file) me a.mode w.locks ≡ true = sym (ap (λ b. cond b (converts_now (A a.file) me a.mode w.locks) (goes_at_once me a.mode (resource_at (A a.file) w.locks).askers)) yes) ∙ goes in
          subst (λ (u : List Resource). AllStill w.locks u (rows_at w.nodes)) (sym (ap (λ b. cond b (converted (A a.file) me a.mode (resource_at (A a.file) w.locks).value w.locks) (asked (A a.file) me a.mode w.locks)) yes))
          (subst (λ (m : Mode). AllStill w.locks (converted (A a.file) me m (resource_at (A a.file) w.locks).value w.locks) (rows_at w.nodes)) (sym k.3)
          (channels_convert w.locks me (A a.file) (resource_at (A a.file) w.locks).value (rows_at w.nodes) ne good.locked.0 good.locked.1 (ap is_some (locked me (resource_at (A a.file) w.locks).askers k.0 k.1))
          (subst (λ (m : Mode). converts_now (A a.file) me m w.locks ≡ true) k.3 now_goes)))

    only : HasNoOther (open_now cat w.nodes me) a.file
    only = by_stand (asks_by_channel x s.seen.channel p a shape_is asks ask) where
      of_me : open_now cat w.nodes me ≡ channel_at cat n a.chan
      of_me = ap (λ o. open_with a.chan o (open_of cat me)) (not_asked not_yet) ∙ ap (λ b. cond b (channel_at cat n a.chan) None) (channel_test n a.chan number.from low part.to)

      by_stand : (a.chan ≡ 0) ⊎ (AsksToOpen s.seen.channel a ⊎ AsksToClose s.seen.channel a) → HasNoOther (open_now cat w.nodes me) a.file
      by_stand (inl z) = absurd (ne z)
      by_stand (inr (inl o)) = subst (λ (k : Option Open). HasNoOther k a.file) (sym (of_me ∙ closed_at cat n a.chan (subst (λ (k : Option Chan). has_channel cat n (Some a.chan) k ≡ true) o.none (channel_there ne)))) tt
      by_stand (inr (inr o)) =
          let at_it = open_at cat n a.chan o.had (subst (λ (k : Option Chan). has_channel cat n (Some a.chan) k ≡ true) o.has (channel_there ne)) in
          subst (λ (k : Option Open). HasNoOther k a.file) (sym (of_me ∙ at_it.at)) (at_it.file ∙ o.file)

    took : Taken w.locks me a.file a.mode (open_now cat w.nodes)
    took = by_stand (stands_so not_yet) where
      by_stand : StandsSo → Taken w.locks me a.file a.mode (open_now cat w.nodes)
      by_stand (inl none) = takes_new w.locks me a.file a.mode (open_now cat w.nodes) good.locked.0 good.running.opens only none goes
      by_stand (inr k) = takes_up w.locks me a.file k.0 a.mode (open_now cat w.nodes) good.locked.0 good.running.opens only k.1 (λ e. absurd (let g : EX ≡ CW = sym k.3 ∙ e in cc)) goes

    lock_there : has_lock (A a.file) me w.locks ≡ true → IsSome (lock_of me (resource_at (A a.file) w.locks).askers)
    lock_there has = by_stand (stands_so not_yet) where
      by_stand : StandsSo → IsSome (lock_of me (resource_at (A a.file) w.locks).askers)
      by_stand (inl none) = absurd (let g : true ≡ false = sym has ∙ no_lock me (resource_at (A a.file) w.locks).askers none in cc)
      by_stand (inr k) = ap is_some (locked me (resource_at (A a.file) w.locks).askers k.0 k.1)

    -- what the owners have open then
    mine_then : open_now cat (set_node w.nodes n q) me ≡ Some (record { file = a.file; mode = a.mode })
    mine_then = ap (λ o. open_with a.chan o (open_of cat me)) (ap asked_in (at_here w.nodes n q s at) ∙ granted_then) ∙ with_here a a.chan (open_of cat me) refl

    others_then : (owner : Owner) → same_owner me owner ≡ false → open_now cat (set_node w.nodes n q) owner ≡ open_now cat w.nodes owner
    others_then owner far = elim (same_or_not owner.node n) [ inl e ↦ own e | inr off ↦ ap (λ o. open_with owner.part (asked_in o) (open_of cat owner)) (at_else w.nodes n owner.node q off) ] where
      own : owner.node ≡ n → open_now cat (set_node w.nodes n q) owner ≡ open_now cat w.nodes owner
      own e =
          ap (λ o. open_with owner.part o (open_of cat owner)) (ap (asked_at (set_node w.nodes n q)) e ∙ ap asked_in (at_here w.nodes n q s at) ∙ granted_then)
          ∙ with_else owner.part (Some a) (open_of cat owner) (λ b i z. let g : Some a ≡ Some b = i in let h : a ≡ b = cc in far_part n a.chan owner far e (ap (λ (y : PlanAsk). y.chan) h ∙ z))
          ∙ sym (ap (λ o. open_with owner.part o (open_of cat owner)) (ap (asked_at w.nodes) e ∙ not_asked not_yet))

    holds_same : held_by t n s ≡ held_by w.locks n s
    holds_same = rows_stand_still w.locks t n (rows_of s) (λ ls i. still.still n ls)

    mine_still : (ls : Row) → StandsStill w.locks t n ls
    mine_still ls = still.still n ls

    takes : IsTakenIn w n s q t
    takes = record {
      at = at;
      strong = λ l le h. subst (λ (ls : Row). Has ls l) (sym holds_same) h;
      others = λ m y off e. rows_stand_still w.locks t m (rows_of y) (λ ls i. still.still m ls);
      stays = λ other guards. taken_elsewhere me (A a.file) other a.mode w.locks (λ e. absurd (let f : true ≡ false = sym guards ∙ ap guards_blocks e in cc));
      lasting = λ m other h. still_lasting w.locks t m other (still.still m ((other, NL) ∷ [])) h;
      same = wrote not_yet;
      cache = refl;
    }

    under_then : IsUnderOn w.geometry cat good.running.drive.base good.running.drive.own (changed (nodes_under w.locks w.nodes) n (under_with t n q q.cmd)) w.blocks
    under_then = wider_drive t s.asked not_yet (sym (asks_exactly not_yet) ∙ goes) (λ l le h. subst (λ (ls : Row). Has ls l) (sym holds_same) h)

    held_q : AreHeld t (rows_at (set_node w.nodes n q))
    held_q = held_same t w.nodes n s q at refl still.held

    goes_still : (m : ℕ) (ls : Row) → RowGoesOn w.locks t m ls
    goes_still m ls = goes-still w.locks t m ls (still.still m ls)

    driven : IsDriven w t w.blocks (set_node w.nodes n q) w.history
    driven = record {
      cat = cat;
      replayed = good.running.replayed;
      base = good.running.drive.base;
      own = good.running.drive.own;
      drive = under_now w.geometry cat good.running.drive.base good.running.drive.own w.locks t w.nodes n s q w.blocks at (λ m y off e. rows_stand_still w.locks t m (rows_of y) (λ ls i. still.still m ls)) under_then;
      cached = taken_cached w (my_sole w good n s at x cmd free) good.writers n s q t takes (are_sole t (set_node w.nodes n q) took.table held_q) (guarding_of w good) good.running.drive.own cat good.running.cached;
      blank = good.running.blank;
      accounted = good.running.accounted;
      near = good.running.near;
      sized = good.running.sized;
      fell = good.running.fell;
      system = good.running.system;
      named = good.running.named;
      opens = took.opens (open_now cat (set_node w.nodes n q)) mine_then others_then;
      opened = all_set w.nodes n s q at (λ m y. HasOpens cat m y.opens) (good.running.opened n s at) (λ m y off e. good.running.opened m y e);
    }

    waits_same : waits_at t n s.asked ≡ false
    waits_same = (mine_still s.asked).waits ∙ free

    own_then : own_ask true s.plan ≡ None
    own_then = ap own_of granted_then ∙ own_else a ne

    all : Good (altered w t w.blocks (set_node w.nodes n q) w.history)
    all = rebuilt w good n s q at t w.blocks w.history driven (took.table, held_q) good.own (small_taken w good.small n s q at (A a.file) me a.mode w.blocks lock_there (owes_so s q refl refl refl refl)) (good.few n) (λ m off. refl) (λ m y off e ls i. goes_still m ls)
        (stays_stocked s q refl refl (λ h. h) (λ f. inl (few_ready s x cmd p made.0 f)) (stocked_now w good n s at x cmd free))
        (taken_writes w (my_sole w good n s at x cmd free) good.writers n s q t takes)
        (is_node w good n s at x cmd free t w.blocks q refl refl refl refl (good.nodes n s at).store ((mine_still s.kept).waits ∙ (good.nodes n s at).rests) now.seen now.own
        (subst (IsAtPlan x (waits_at t n s.asked) s.seen s.done true) (sym plan) (made.0, waits_same, all_made not_yet))
        (asked_so not_yet ∙ sym (ap (with_ask s.seen.locks) own_then))
        (space_now w good n s at x cmd free)
        (λ e. absurd (let g : true ≡ false = sym e ∙ waits_same in cc)))

  asks_keep : s.tried ≡ false → would_go w.locks n a ≡ true → Good (altered w (taken (A a.file) me a.mode w.locks) w.blocks (set_node w.nodes n (turned (asking s a))) w.history)
  asks_keep not_yet goes = elim (zero_or_not a.chan) [ inl z ↦ system_keeps not_yet z goes | inr ne ↦ channel_keeps not_yet ne goes ]

  -- ---- it asks

  no_grant_yet : s.tried ≡ false → granted_ask s.tried s.plan ≡ None
  no_grant_yet not_yet = λ i. granted_ask (not_yet i) (plan i)

  pub ask_keeps : waits_at w.locks n s.claims ≡ false → (s.run.phase ≡ phase.Back → ⊥) → s.tried ≡ false → slice_get (take a.at p.writes) s.done ≡ None → Good (asked_by w n s x a (would_go w.locks n a))
  ask_keeps granted_claims calmly not_yet last = by_goes (would_go w.locks n a) refl where
    by_goes : (b : Bool) → would_go w.locks n a ≡ b → Good (asked_by w n s x a b)
    by_goes true goes = asks_keep not_yet goes
    by_goes false refused =
        answers_keep w good n s at x cmd free granted_claims calmly p made.0 (take a.at p.writes) (first_writes not_yet) last (first_part not_yet) a.refused (λ c. knows n x s.seen c && not (is_granted n a c)) law.2
        (both (knows n x s.seen cat) _ (known w good n s at x cmd free) (ap not (sym (asks_exactly not_yet) ∙ refused)))
        (subst (λ (o : Option PlanAsk). EndsSo x s.seen.channel o a.refused) (sym (no_grant_yet not_yet)) (ends_refused x s.seen.channel p a shape_is ask))

  pub granted_keeps : waits_at w.locks n s.claims ≡ false → (s.run.phase ≡ phase.Back → ⊥) → s.tried ≡ true → slice_get p.writes s.done ≡ None → Good (happens w n s (by_end x p.reply true (Some a)))
  granted_keeps granted_claims calmly done last =
      let all : writes_by p.ask s.tried p.writes ≡ p.writes = (λ i. writes_by (ask i) (done i) p.writes) in
      answers_keep w good n s at x cmd free granted_claims calmly p made.0 p.writes (ap (writes_now s.tried) plan ∙ all) last (subst (λ (ws : List PlanWrite). s.done ≤ length ws) all made.2) p.reply know law.1
      (both (knows n x s.seen cat) _ (known w good n s at x cmd free) (still_granted done))
      (subst (λ (o : Option PlanAsk). EndsSo x s.seen.channel o p.reply) (sym (λ i. granted_ask (done i) (plan i))) (ends_whole x s.seen.channel p shape_is asks))

-- ---- what comes behind the writes of a plan keeps the invariant

module _ (w : Plain) (good : Good w) (n : ℕ) (s : NodeState) (at : node_at w.nodes n ≡ Some s) (x : Cmd) (cmd : s.cmd ≡ Some x) (free : waits_at w.locks n s.asked ≡ false) (granted_claims : waits_at w.locks n s.claims ≡ false) (calmly : s.run.phase ≡ phase.Back → ⊥)
    (p : Plan) (plan : s.plan ≡ Some p) where
  plain_keeps : p.ask ≡ None → slice_get p.writes s.done ≡ None → Good (happens w n s (by_end x p.reply s.tried None))
  plain_keeps ask last =
      let now : IsAt w n s x = under_command w good n s at x cmd free in
      let made : IsAtPlan x (waits_at w.locks n s.asked) s.seen s.done s.tried (Some p) = made_of w good n s at x cmd free p plan in
      let all : writes_by p.ask s.tried p.writes ≡ p.writes = ap (λ o. writes_by o s.tried p.writes) ask in
      let law : IsPlan n x s.seen p p.ask = now.lawful.plans n s.seen p now.seen made.0 in
      answers_keep w good n s at x cmd free granted_claims calmly p made.0 p.writes (ap (writes_now s.tried) plan ∙ all) last (subst (λ (ws : List PlanWrite). s.done ≤ length ws) all made.2) p.reply (knows n x s.seen)
      (subst (IsPlan n x s.seen p) ask law) (known w good n s at x cmd free)
      (subst (λ (o : Option PlanAsk). EndsSo x s.seen.channel o p.reply) (ask ∙ sym (none_granted s.tried) ∙ sym (ap (granted_ask s.tried) plan)) (ends_whole x s.seen.channel p (shape x s.seen p made.0) (asks_as n x s.seen p law))) where
        none_granted : (b : Bool) → granted_by b p.ask ≡ None
        none_granted true = ask
        none_granted false = refl

  pub ends_keep : slice_get (writes_by p.ask s.tried p.writes) s.done ≡ None → Good (happens w n s (by_end x p.reply s.tried p.ask))
  ends_keep last = by_ask p.ask s.tried refl refl last where
    by_ask : (o : Option PlanAsk) (b : Bool) → p.ask ≡ o → s.tried ≡ b → slice_get (writes_by o b p.writes) s.done ≡ None → Good (happens w n s (by_end x p.reply b o))
    by_ask None b ask tried last = plain_keeps ask last
    by_ask (Some a) true ask tried last = granted_keeps w good n s at x cmd free p plan a ask granted_claims calmly tried last
    by_ask (Some a) false ask tried last = ask_keeps w good n s at x cmd free p plan a ask granted_claims calmly tried last
