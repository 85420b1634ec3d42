-- The cached blocks of all nodes over kinds of events: those that leave the locks and the drive, and those that take a lock.
use Rattle.std.proofs.Common.{◌≡◌, ◌≤◌, ◌∙◌, ◌⊎◌, ℕ, List, Some, refl, sym, ap, subst, inl, inr, arith}
use Rattle.lock_db.specs.declared.name.LockName.{LockName}
use Rattle.plain_cat.specs.declared.mode.Mode.TheVariants.{PW}
use Rattle.plain_cat.specs.declared.cat.Cat.{Cat}
use Rattle.base_words.specs.Lists.{Has}
use Rattle.vol_spell.specs.Owners.{Owners}
use Rattle.base_words.proofs.Listing.{same_or_not}
use Rattle.vol_under.specs.UnderWay.{AreSole}
use Rattle.node_locks.specs.Held.{Row, all_held}
use Rattle.node_cache.specs.Cached.{Cached}
use Rattle.op_law.specs.declared.need.PlanWrite.{PlanWrite}
use Rattle.op_law.specs.Laws.{held_in}
use Rattle.core_state.specs.Worlds.{NodeState, Plain, node_at, with_node, rows_of}
use Rattle.core_state.specs.Goods.{nodes_under}
use Rattle.core_state.specs.Stores.{hold_writes, part_raise, IsWriter, IsTrue, IsCachedAt, AreCached, AreHeldWrites}
use Rattle.core_state.proofs.Nodes.{at_here, at_else}
use Rattle.core_state.proofs.Cached.{same_state, written_by, Goes, Stays, IsEventOf, own_stays}
use Rattle.core_state.proofs.CachedWrites.{raises_under}
use Rattle.core_state.proofs.CachedEvents.{all_cached}
use Rattle.core_state.proofs.CachedUses.{sole_writer}

-- ---- an event that leaves the locks, the drive, and what its node has written

module _ (w : Plain) (sole : AreSole (nodes_under w.locks w.nodes)) (writes : AreHeldWrites w) (n : ℕ) (s r : NodeState) (at : node_at w.nodes n ≡ Some s) (rows : rows_of r ≡ rows_of s) (same : hold_writes r ≡ hold_writes s) where
  abbrev v : Plain
  v = with_node w n r

  writer_back : (name : LockName) → IsWriter v n r name → IsWriter w n s name
  writer_back name h = subst (λ (rs : List Row). Has (held_in PW (all_held w.locks n rs)) name) rows h

  writer_on : (name : LockName) → IsWriter w n s name → IsWriter v n r name
  writer_on name h = subst (λ (rs : List Row). Has (held_in PW (all_held w.locks n rs)) name) (sym rows) h

  raised_writer : (e : Cached) → 1 ≤ written_by w s e → IsWriter w n s e.lock
  raised_writer e some = let k = raises_under w.geometry e.lock e.lbn (hold_writes s) some in subst (IsWriter w n s) k.2 (writes n s k.0 at k.1)

  same_raised : (e : Cached) → written_by v r e ≡ written_by w s e
  same_raised e = ap (part_raise w.geometry e.lock e.lbn) same

  sole_then : (m : ℕ) (q : NodeState) (name : LockName) → node_at v.nodes m ≡ Some q → IsWriter v n r name → IsWriter v m q name → m ≡ n
  sole_then m q name there a b = elim (same_or_not m n) [
    | inl is ↦ is
    | inr ne ↦ sole_writer w sole writes n m s q name at (sym (at_else w.nodes n m r ne) ∙ there) (writer_back name a) b
  ]

  quiet_event : IsEventOf w v n s r
  quiet_event = record {
    at = at;
    here = at_here w.nodes n r s at;
    others = λ m ne. at_else w.nodes n m r ne;
    geometry = refl;
    holders = λ m q name ne there h. h;
    lasting = λ m q name ne there h. h;
    sole = λ m q name there a b. sole_writer w sole writes n m s q name at there a b;
    sole_then = sole_then;
    held_writes = raised_writer;
    held_then = λ e some. writer_on e.lock (raised_writer e (subst (λ k. 1 ≤ k) (same_raised e) some));
  }

  quiet_goes : (e : Cached) → Goes w v n s r e
  quiet_goes e = Stays refl refl (let f = same_raised e in omega (arith, f)) (writer_on e.lock)

  -- an entry that is true is true on
  quiet_truth : (own : Owners) (c : Cat) (e : Cached) → IsTrue w own c e → IsTrue v own c e
  quiet_truth own c e t = record { block = t.block; guard = t.guard; kind = t.kind }

  -- an entry that the node has had
  pub quiet_mine : (own : Owners) (c : Cat) (e : Cached) → IsCachedAt w own c n s e → IsCachedAt v own c n r e
  quiet_mine own c e old = own_stays w v n s r quiet_event e own own c c old old.held (λ is few t. quiet_truth own c e t) (quiet_goes e)

  -- where all entries of the node are ones that it has had, or are in order
  pub quiet_cached : (own : Owners) (c : Cat) → AreCached w own c → ((e : Cached) → Has r.cache e → Has s.cache e ⊎ IsCachedAt v own c n r e) → AreCached v own c
  quiet_cached own c all mine = all_cached w v n s r quiet_event own own c c all
      (λ m q e ne there has. record { goes = inl (quiet_goes e); truth = λ none none_then t. quiet_truth own c e t })
      (λ e has. elim (mine e has) [ inl old ↦ quiet_mine own c e (all n s e at old) | inr h ↦ h ])

  -- its writes are under locks that it holds still
  pub quiet_writes : AreHeldWrites v
  quiet_writes m q x there has = elim (same_or_not m n) [
    | inl is ↦
        let here : q ≡ r = same_state q r (sym there ∙ ap (node_at v.nodes) is ∙ at_here w.nodes n r s at) in
        let old : Has (hold_writes s) x = subst (λ (ws : List PlanWrite). Has ws x) same (subst (λ (y : NodeState). Has (hold_writes y) x) here has) in
        subst (λ (k : ℕ). IsWriter v k q x.lock) (sym is) (subst (λ (y : NodeState). IsWriter v n y x.lock) (sym here) (writer_on x.lock (writes n s x at old)))
    | inr ne ↦ writes m q x (sym (at_else w.nodes n m r ne) ∙ there) has
  ]
