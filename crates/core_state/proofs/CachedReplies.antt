-- The cached blocks of all nodes after an answer: the writes of the command are committed, and the node's locks are put back.
use Rattle.std.proofs.Common.{◌≡◌, ◌≢◌, ◌⊎◌, ◌≤◌, ℕ, true, false, List, Some, refl, sym, ap, subst, ◌∙◌, inl, inr, arith}
use Rattle.std.proofs.lemmas.Bool.Decides.{nat_tests}
use Rattle.lock_db.specs.declared.name.LockName.{LockName}
use Rattle.lock_db.specs.declared.resource.Resource.{Resource}
use Rattle.lock_db.specs.Tables.{IsTable, resource_at}
use Rattle.lock_db.specs.Laws.{BlockIs, BlockStays}
use Rattle.plain_cat.specs.declared.mode.Mode.TheVariants.{PW}
use Rattle.plain_cat.specs.declared.command.Cmd.{Cmd}
use Rattle.plain_cat.specs.declared.reply.Reply.{Reply}
use Rattle.plain_cat.specs.declared.cat.Cat.{Cat}
use Rattle.plain_cat.specs.declared.history.Entry.{Entry}
use Rattle.base_words.specs.Lists.{Has}
use Rattle.vol_spell.specs.Owners.{Owners}
use Rattle.base_words.proofs.Listing.{same_or_not}
use Rattle.vol_under.specs.UnderWay.{AreSole}
use Rattle.node_locks.specs.Held.{Row, HoldsItsLocks, AreHeld, waits_at}
use Rattle.node_locks.specs.Sequences.{raised_block, guards_blocks}
use Rattle.node_locks.proofs.Keeping.{rows_go_on}
use Rattle.node_cache.specs.Cached.{Cached}
use Rattle.op_law.specs.declared.need.PlanWrite.{PlanWrite}
use Rattle.core_state.specs.Staying.{IsGuarded, IsFreedBy}
use Rattle.core_state.specs.Worlds.{NodeState, Plain, node_at, set_node, rows_of, rows_in, rows_at}
use Rattle.core_state.specs.Raises.{raise_of}
use Rattle.core_state.specs.Small.{AllGoOn}
use Rattle.core_state.specs.Channels.{channel_seen}
use Rattle.core_state.specs.Stores.{hold_writes, IsWriter, IsTrue, AreCached, AreHeldWrites}
use Rattle.core_state.specs.Goods.{held_by, nodes_under, Good}
use Rattle.core_state.specs.Events.{all_writes, turned, answering, all_put_back, locks_after}
use Rattle.core_state.proofs.Nodes.{at_here, at_else}
use Rattle.core_state.proofs.Holding.{held_grows}
use Rattle.core_state.proofs.Running.{are_sole}
use Rattle.core_state.proofs.Keeping.{altered, LosesNothing}
use Rattle.core_state.proofs.SmallTables.{IsSmallRaise, little_raise}
use Rattle.core_state.proofs.SmallWorlds.{all_go_on}
use Rattle.core_state.proofs.Cached.{same_state, written_by, Goes, IsEventOf, own_stays}
use Rattle.core_state.proofs.CachedWrites.{raises_under}
use Rattle.core_state.proofs.CachedEvents.{all_cached}
use Rattle.core_state.proofs.CachedUses.{sole_writer}
use Rattle.core_state.proofs.CachedAnswers.{none_raised, BlockGoes, Raised, Unraised, back_goes}
use Rattle.core_state.proofs.CachedTruth.{committed_truth}
use Rattle.core_state.proofs.CachedOthers.{somebody_there}
use Rattle.core_state.proofs.PutBacks.{entry_under}
use Rattle.core_state.proofs.CachedBacks.{closed_leaves, IsWatched, block_goes}
use Rattle.core_state.proofs.KeptReplies.{kept_then, entry_kept}
use Rattle.core_state.proofs.Lasting.{free_lasting, lock_named, goes_lasting}

module _ (w : Plain) (good : Good w) (n : ℕ) (s : NodeState) (at : node_at w.nodes n ≡ Some s) (free : waits_at w.locks n s.asked ≡ false) (granted : waits_at w.locks n s.claims ≡ false) (x : Cmd) (reply : Reply) (h : List Entry)
    (made : hold_writes s ≡ all_writes s) (table : IsTable (locks_after w n s x reply)) (held : AreHeld (locks_after w n s x reply) (rows_at (set_node w.nodes n (turned (answering s x reply))))) (rests : waits_at (locks_after w n s x reply) n (kept_then s) ≡ false)
    (loses : (m : ℕ) (q : NodeState) → m ≢ n → node_at w.nodes m ≡ Some q → LosesNothing w.locks (locks_after w n s x reply) m q) where
  abbrev r : NodeState
  r = turned (answering s x reply)

  abbrev after : List Resource
  after = locks_after w n s x reply

  abbrev v : Plain
  v = altered w after w.blocks (set_node w.nodes n r) h

  abbrev own : Owners
  own = good.running.drive.own

  abbrev cat : Cat
  cat = good.running.cat

  -- ---- the event

  sole : AreSole (nodes_under w.locks w.nodes)
  sole = are_sole w.locks w.nodes good.locked.0 good.locked.1

  sole_then : AreSole (nodes_under after (set_node w.nodes n r))
  sole_then = are_sole after (set_node w.nodes n r) table held

  -- the others hold what they held
  writer_on : (m : ℕ) (q : NodeState) (name : LockName) → m ≢ n → node_at w.nodes m ≡ Some q → IsWriter w m q name → IsWriter v m q name
  writer_on m q name ne e i = held_grows PW (held_by w.locks m q) (held_by after m q) name (λ k j. rows_go_on w.locks after m (rows_of q) k (loses m q ne e) j) i

  -- and the node has written nothing yet under a lock that it holds then
  pub writes_then : AreHeldWrites v
  writes_then m q y there has = elim (same_or_not m n) [
    | inl is ↦
        let here : q ≡ r = same_state q r (sym there ∙ ap (node_at v.nodes) is ∙ at_here w.nodes n r s at) in
        absurd (subst (λ (z : NodeState). Has (hold_writes z) y) here has)
    | inr ne ↦
        let was : node_at w.nodes m ≡ Some q = sym (at_else w.nodes n m r ne) ∙ there in
        writer_on m q y.lock ne was (good.writers m q y was has)
  ]

  raised_writer : (e : Cached) → 1 ≤ written_by w s e → IsWriter w n s e.lock
  raised_writer e some = let k = raises_under w.geometry e.lock e.lbn (hold_writes s) some in subst (IsWriter w n s) k.2 (good.writers n s k.0 at k.1)

  none_then : (e : Cached) → written_by v r e ≡ 0
  none_then e = none_raised w.geometry e.lock e.lbn

  holds_of : (m : ℕ) (q : NodeState) → node_at w.nodes m ≡ Some q → HoldsItsLocks w.locks m (rows_of q)
  holds_of m q there = subst (λ (rs : List Row). HoldsItsLocks w.locks m rs) (ap rows_in there) (good.locked.1 m)

  holds_then : HoldsItsLocks after n (rows_of r)
  holds_then = subst (λ (rs : List Row). HoldsItsLocks after n rs) (ap rows_in (at_here w.nodes n r s at)) (held n)

  reply_event : IsEventOf w v n s r
  reply_event = record {
    at = at;
    here = at_here w.nodes n r s at;
    others = λ m ne. at_else w.nodes n m r ne;
    geometry = refl;
    holders = λ m q name ne there i. writer_on m q name ne there i;
    lasting = λ m q name ne there i. goes_lasting w.locks after m q name (holds_of m q there) (loses m q ne there) i;
    sole = λ m q name there a b. sole_writer w sole good.writers n m s q name at there a b;
    sole_then = λ m q name there a b. sole_writer v sole_then writes_then n m r q name (at_here w.nodes n r s at) there a b;
    held_writes = raised_writer;
    held_then = λ e some. absurd (let z = none_then e in omega (arith, z, some));
  }

  -- ---- the value blocks

  go_on : AllGoOn w
  go_on = all_go_on w good (let few : w.script.nodes ≤ 8 = few_nodes in let c = good.counted in omega (arith, few, c)) good.form.lines_fit where
    few_nodes : w.script.nodes ≤ 8
    few_nodes = let is = good.form.nodes in grind (arith, nat_tests)

  -- the lock of the channel is none of those
  on_channel : (name : LockName) → guards_blocks name ≡ true → BlockGoes w n s (all_writes s) name (all_put_back w n s) → BlockGoes w n s (all_writes s) name after
  on_channel name guards (Raised writer is) =
      Raised writer (subst (BlockIs (raised_block name (raise_of w.geometry name (all_writes s)) (resource_at name w.locks)) true) (sym (closed_leaves n (channel_seen s.opens x) x reply (all_put_back w n s) name guards)) is)
  on_channel name guards (Unraised not stays) = Unraised not (subst (BlockStays (resource_at name w.locks)) (sym (closed_leaves n (channel_seen s.opens x) x reply (all_put_back w n s) name guards)) stays)

  entry_goes : (e : Cached) → guards_blocks e.lock ≡ true → IsWatched w good n s at free granted e.lock → Goes w v n s r e
  entry_goes e guards watched =
      let small : IsSmallRaise (raise_of w.geometry e.lock (hold_writes s)) = little_raise w.geometry e.lock (hold_writes s) in
      back_goes w n s r after w.blocks (set_node w.nodes n r) h e (go_on.first e.lock) (go_on.second e.lock) small.first small.second (raised_writer e) guards (none_then e)
      (subst (λ (ws : List PlanWrite). BlockGoes w n s ws e.lock after) (sym made) (on_channel e.lock guards (block_goes w good n s at free granted e.lock guards watched)))

  -- ---- the entries

  -- by the catalogue and the owners that the writes of the command make
  module _ (d : Cat) (other : Owners) (ws : List PlanWrite) (in_all : (y : PlanWrite) → Has ws y → Has (hold_writes s) y)
      (guarded : (name : LockName) (l : ℕ) → IsGuarded w.geometry own cat name l → IsGuarded w.geometry other d name l ⊎ IsFreedBy w.geometry ws name) where
    -- an entry whose part the command has raised by one at most is true on
    truth : (e : Cached) → written_by w s e ≤ 1 → IsTrue w own cat e → IsTrue v other d e
    truth e few t = committed_truth w v own other cat d s ws e refl refl in_all few (guarded e.lock e.lbn) t

    raised_little : (e : Cached) → (1 ≤ written_by v r e) ⊎ (written_by w s e ≤ 1) → written_by w s e ≤ 1
    raised_little e (inl some) = absurd (let z = none_then e in omega (arith, z, some))
    raised_little e (inr few) = few

    pub cached_then : AreCached v other d
    cached_then = all_cached w v n s r reply_event own other cat d good.running.cached
        (λ m q e ne there has. record {
          goes = inl (entry_goes e ((good.nodes m q there).store.guarding e has)
              (inr (somebody_there w.locks n m (rows_of q) e.lock ne (holds_of m q there) (lock_named w.locks m (rows_of q) e.lock (holds_of m q there) (good.running.cached m q e there has).held))));
          truth = λ none none_after t. truth e (let z : written_by w s e ≡ 0 = none in omega (arith, z)) t;
        })
        (λ e has.
        let old = good.running.cached n s e at has in
        own_stays w v n s r reply_event e own other cat d old (free_lasting after n (rows_of r) (kept_then s) e.lock holds_then (inl refl) rests (entry_kept s (good.nodes n s at).store e has (lock_named w.locks n (rows_of s) e.lock (holds_of n s at) old.held))) (λ either few t. truth e (raised_little e few) t)
        (entry_goes e ((good.nodes n s at).store.guarding e has) (inl (entry_under s.cache e has))))
