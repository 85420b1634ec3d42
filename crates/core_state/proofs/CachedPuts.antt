-- The cached blocks of all nodes over a write.
use Rattle.std.proofs.Common.{◌≡◌, ◌≢◌, ◌≤◌, ◌<◌, ◌+◌, ◌||◌, ◌∙◌, ◌⊎◌, ℕ, Bool, true, false, cond, List, [], ◌∷◌, Some, length, slice_set, refl, sym, ap, subst, inl, inr, arith}
use Rattle.std.specs.Prelude.{nat_le}
use Rattle.std.specs.List.{list_any}
use Rattle.lock_db.specs.declared.name.LockName.{LockName}
use Rattle.lock_db.specs.Tables.{resource_at}
use Rattle.lock_db.specs.Names.{is_same}
use Rattle.lock_db.proofs.Names.{is_same-refl, is_same-same}
use Rattle.plain_cat.specs.declared.mode.Mode.TheVariants.{PR, PW}
use Rattle.plain_cat.specs.declared.cat.Cat.{Cat}
use Rattle.base_words.specs.Lists.{Has}
use Rattle.vol_spell.specs.Owners.{Owners}
use Rattle.base_words.proofs.Listing.{same_or_not}
use Rattle.base_words.proofs.ListWrites.{get-set_else, get-set_here}
use Rattle.vol_under.specs.Guards.{Lock, Stock, guard_of}
use Rattle.vol_under.specs.UnderWay.{AreSole}
use Rattle.node_locks.specs.Held.{system_of, has_lock, Row, all_held}
use Rattle.node_cache.specs.Cached.{Cached, cached, is_for, is_under, is_of, is_since, replaced}
use Rattle.op_law.specs.declared.need.PlanWrite.{PlanWrite}
use Rattle.op_law.specs.Laws.{held_in, IsCacheable}
use Rattle.core_state.specs.Worlds.{NodeState, Plain, node_at, with_node, rows_of}
use Rattle.core_state.specs.Caches.{sequence_now, next_sequence, least_sequence, rewritten}
use Rattle.core_state.specs.Goods.{held_by, nodes_under}
use Rattle.core_state.specs.Stores.{hold_writes, part_raise, IsWriter, IsUnwritten, IsTrue, now_of, IsCurrent, IsAhead, IsCachedAt, AreCached, AreHeldWrites}
use Rattle.core_state.proofs.Holding.{held_weaker}
use Rattle.core_state.proofs.Nodes.{at_here, at_else}
use Rattle.core_state.proofs.Cached.{same_state, written_by, valid_at, Goes, Stays, IsEventOf, own_stays}
use Rattle.core_state.proofs.CachedWrites.{raises_under, write_raises, part_raise_more, both_true}
use Rattle.core_state.proofs.CachedEvents.{all_cached, has_replaced, written_anew, since_is_true}
use Rattle.core_state.proofs.CachedUses.{unwritten_read, sole_writer, same_nat}
use Rattle.core_state.proofs.Heads.{guard_lock, no_stock}
use Rattle.core_space.proofs.Ways.{is_at_most}
use Rattle.base_words.proofs.Booleans.{nat_same, at_most}
use Rattle.op_law.proofs.Asking.{parted}

-- ---- tests of entries

entry_any : (p : Cached → Bool) (es : List Cached) (e : Cached) → Has es e → p e ≡ true → list_any p es ≡ true
entry_any p [] e h t = absurd h
entry_any p (x ∷ es) e (inl is) t = ap (λ b. b || list_any p es) (subst (λ y. p y ≡ true) (sym is) t)
entry_any p (x ∷ es) e (inr h) t = or_second (p x) (list_any p es) (entry_any p es e h t) where
  or_second : (a b : Bool) → b ≡ true → (a || b) ≡ true
  or_second true b f = refl
  or_second false b f = f

any_entry : (p : Cached → Bool) (es : List Cached) → list_any p es ≡ true → (e : Cached) × Has es e × (p e ≡ true)
any_entry p [] t = absurd (let f : false ≡ true = t in cc)
any_entry p (x ∷ es) t = by_test (p x) refl (any_entry p es) t where
  by_test : (b : Bool) → p x ≡ b → (list_any p es ≡ true → (e : Cached) × Has es e × (p e ≡ true)) → (b || list_any p es) ≡ true → (e : Cached) × Has (x ∷ es) e × (p e ≡ true)
  by_test true f rest g = (x, inl refl, f)
  by_test false f rest g = let h = rest g in (h.0, inr h.1, h.2)

-- an entry of this block under this lock
of_it : (x : PlanWrite) (e : Cached) → e.lbn ≡ x.lbn → e.lock ≡ x.lock → is_of x.lbn x.lock e ≡ true
of_it x e lbn lock = both_true (is_for x.lbn e) (is_under x.lock e) (nat_same x.lbn e.lbn (sym lbn)) (subst (λ (y : LockName). is_same x.lock y ≡ true) (sym lock) (is_same-refl x.lock))

-- ---- a write of node n, under a lock that it holds in PW

-- the write x, by which node n comes from s to r
pub record IsWriteOf (w : Plain) (n : ℕ) (s r : NodeState) (own : Owners) (x : PlanWrite) : Type 0 where
  pub at : node_at w.nodes n ≡ Some s
  pub rows : rows_of r ≡ rows_of s
  pub more : (y : PlanWrite) → Has (hold_writes s) y → Has (hold_writes r) y
  pub only : (y : PlanWrite) → Has (hold_writes r) y → (x ≡ y) ⊎ Has (hold_writes s) y
  pub made : Has (hold_writes r) x
  pub holds : IsWriter w n s x.lock
  pub within : x.lbn < length w.blocks
  pub guards : (guard_of w.geometry own x.lbn ≡ Some (Lock x.lock)) ⊎ (guard_of w.geometry own x.lbn ≡ Some (Stock n))
  pub goes_on : next_sequence (sequence_now w.geometry w.locks x.lock x.lbn) ≡ sequence_now w.geometry w.locks x.lock x.lbn + 1
  pub cache : r.cache ≡ rewritten w.geometry w.locks x s.cache

module _ (w : Plain) (sole : AreSole (nodes_under w.locks w.nodes)) (writes : AreHeldWrites w) (n : ℕ) (s r : NodeState) (own other : Owners) (c d : Cat) (x : PlanWrite) (is : IsWriteOf w n s r own x)
    (stays : (name : LockName) (l : ℕ) → guard_of w.geometry own l ≡ Some (Lock name) → IsCacheable w.geometry own c l → (guard_of w.geometry other l ≡ Some (Lock name)) × IsCacheable w.geometry other d l) where
  abbrev v : Plain
  v = with_node (record w { blocks = slice_set w.blocks x.lbn x.block }) n r

  writer_back : (name : LockName) → IsWriter v n r name → IsWriter w n s name
  writer_back name h = subst (λ (rs : List Row). Has (held_in PW (all_held w.locks n rs)) name) is.rows h

  writer_on : (name : LockName) → IsWriter w n s name → IsWriter v n r name
  writer_on name h = subst (λ (rs : List Row). Has (held_in PW (all_held w.locks n rs)) name) (sym is.rows) h

  -- its writes are under locks that it holds
  writes_now : (y : PlanWrite) → Has (hold_writes r) y → IsWriter v n r y.lock
  writes_now y has = elim (is.only y has) [
    | inl e ↦ subst (λ (z : PlanWrite). IsWriter v n r z.lock) e (writer_on x.lock is.holds)
    | inr old ↦ writer_on y.lock (writes n s y is.at old)
  ]

  sole_then : (m : ℕ) (q : NodeState) (name : LockName) → node_at v.nodes m ≡ Some q → IsWriter v n r name → IsWriter v m q name → m ≡ n
  sole_then m q name there a b = elim (same_or_not m n) [
    | inl e ↦ e
    | inr ne ↦ sole_writer w sole writes n m s q name is.at (sym (at_else w.nodes n m r ne) ∙ there) (writer_back name a) b
  ]

  put_event : IsEventOf w v n s r
  put_event = record {
    at = is.at;
    here = at_here w.nodes n r s is.at;
    others = λ m ne. at_else w.nodes n m r ne;
    geometry = refl;
    holders = λ m q name ne there h. h;
    lasting = λ m q name ne there h. h;
    sole = λ m q name there a b. sole_writer w sole writes n m s q name is.at there a b;
    sole_then = sole_then;
    held_writes = λ e some. let k = raises_under w.geometry e.lock e.lbn (hold_writes s) some in subst (IsWriter w n s) k.2 (writes n s k.0 is.at k.1);
    held_then = λ e some. let k = raises_under w.geometry e.lock e.lbn (hold_writes r) some in subst (IsWriter v n r) k.2 (writes_now k.0 k.1);
  }

  put_goes : (e : Cached) → Goes w v n s r e
  put_goes e = Stays refl refl (part_raise_more w.geometry e.lock e.lbn (hold_writes s) (hold_writes r) is.more) (writer_on e.lock)

  -- a true entry of the block is under the lock of the write
  under_it : (e : Cached) → IsTrue w own c e → e.lbn ≡ x.lbn → e.lock ≡ x.lock
  under_it e t lbn =
      let guard : guard_of w.geometry own x.lbn ≡ Some (Lock e.lock) = subst (λ (l : ℕ). guard_of w.geometry own l ≡ Some (Lock e.lock)) lbn t.guard in
      elim is.guards [
        | inl g ↦ guard_lock e.lock x.lock (sym guard ∙ g)
        | inr g ↦ absurd (no_stock e.lock n (sym guard ∙ g))
      ]

  -- one of another block stays true
  elsewhere : (e : Cached) → IsTrue w own c e → e.lbn ≢ x.lbn → IsTrue v other d e
  elsewhere e t ne =
      let h = stays e.lock e.lbn t.guard t.kind in
      record { block = get-set_else w.blocks x.lbn e.lbn x.block (λ f. ne (sym f)) ∙ t.block; guard = h.0; kind = h.1 }

  -- and one of the block has been written
  rewrote : (e : Cached) → IsTrue w own c e → e.lbn ≡ x.lbn → 1 ≤ written_by v r e
  rewrote e t lbn =
      let lock = under_it e t lbn in
      subst (λ (k : LockName). 1 ≤ part_raise w.geometry k e.lbn (hold_writes r)) (sym lock) (subst (λ (l : ℕ). 1 ≤ part_raise w.geometry x.lock l (hold_writes r)) (sym lbn) (write_raises w.geometry (hold_writes r) x is.made))

  other_truth : (e : Cached) → written_by v r e ≡ 0 → IsTrue w own c e → IsTrue v other d e
  other_truth e none t = elim (same_or_not e.lbn x.lbn) [
    | inl lbn ↦ absurd (let some = rewrote e t lbn in omega (arith, none, some))
    | inr ne ↦ elsewhere e t ne
  ]

  abbrev now : ℕ
  now = sequence_now w.geometry w.locks x.lock x.lbn

  abbrev least : ℕ
  least = least_sequence (resource_at x.lock w.locks).valid now

  -- no other node has written under the lock
  sole_here : (e : Cached) → e.lock ≡ x.lock → IsUnwritten w n e
  sole_here e lock = unwritten_read w sole writes n s e is.at (subst (Has (held_in PR (held_by w.locks n s))) (sym lock) (held_weaker PW PR (held_by w.locks n s) x.lock (omega arith) is.holds))

  -- an entry that the node has had, and that is not made anew
  mine_stays : (all : AreCached w own c) (e : Cached) → Has s.cache e → (e.lbn ≡ x.lbn → e.lock ≡ x.lock → least ≤ e.seq → ⊥) → IsCachedAt v other d n r e
  mine_stays all e has old_one =
      let old = all n s e is.at has in
      own_stays w v n s r put_event e own other c d old old.held
      (λ either few t. elim (same_or_not e.lbn x.lbn) [
        | inl lbn ↦ absurd (let lock = under_it e t lbn in old_one lbn lock (fresh e lbn lock either))
        | inr ne ↦ elsewhere e t ne
      ]) (put_goes e) where
        same_now : (e : Cached) → e.lbn ≡ x.lbn → e.lock ≡ x.lock → now_of w e ≡ now
        same_now e lbn lock = (λ i. sequence_now w.geometry w.locks (lock i) (lbn i))

        low : (b : Bool) → (b ≡ true → now ≤ e.seq) → (b ≡ false → next_sequence now ≤ e.seq) → least_sequence b now ≤ e.seq
        low true f g = f refl
        low false f g = g refl

        fresh : (e : Cached) → e.lbn ≡ x.lbn → e.lock ≡ x.lock → IsCurrent w e ⊎ IsAhead w n s e → least ≤ e.seq
        fresh e lbn lock either = by_mark (resource_at x.lock w.locks).valid refl either where
          by_mark : (b : Bool) → (resource_at x.lock w.locks).valid ≡ b → IsCurrent w e ⊎ IsAhead w n s e → least_sequence b now ≤ e.seq
          by_mark true mark (inl k) = let f : e.seq ≡ now_of w e = k.same in let g = same_now e lbn lock in omega (arith, f, g)
          by_mark true mark (inr k) = let f : e.seq ≡ now_of w e + 1 = k.seq in let g = same_now e lbn lock in omega (arith, f, g)
          by_mark false mark (inl k) = absurd (let f : true ≡ false = sym (subst (λ (y : LockName). (resource_at y w.locks).valid ≡ true) lock k.valid) ∙ mark in cc)
          by_mark false mark (inr k) = let f : e.seq ≡ now_of w e + 1 = k.seq in let g = same_now e lbn lock in let h : next_sequence now ≡ now + 1 = is.goes_on in omega (arith, f, g, h)

  -- the entry that is made anew
  abbrev anew : Cached
  anew = cached x.lbn x.lock (next_sequence now) x.block

  made_anew : (all : AreCached w own c) → list_any (is_since x.lbn x.lock least) s.cache ≡ true → IsCachedAt v other d n r anew
  made_anew all some =
      let k = any_entry (is_since x.lbn x.lock least) s.cache some in
      let e : Cached = k.0 in
      let parts = parted (is_of x.lbn x.lock e) (nat_le least e.seq) k.2 in
      let names = parted (is_for x.lbn e) (is_under x.lock e) parts.0 in
      let lbn : e.lbn ≡ x.lbn = sym (same_nat x.lbn e.lbn names.0) in
      let lock : e.lock ≡ x.lock = sym (is_same-same x.lock e.lock names.1) in
      let old = all n s e is.at k.1 in
      let now_is : now_of w e ≡ now = (λ i. sequence_now w.geometry w.locks (lock i) (lbn i)) in
      let mark_is : valid_at w e ≡ (resource_at x.lock w.locks).valid = ap (λ (y : LockName). (resource_at y w.locks).valid) lock in
      let t : IsTrue w own c e = since_is_true w own c n s e old (ap next_sequence now_is ∙ is.goes_on ∙ ap (λ j. j + 1) (sym now_is)) (sole_here e lock)
      (subst (λ (b : Bool). least_sequence b (now_of w e) ≤ e.seq) (sym mark_is) (subst (λ (j : ℕ). least_sequence (resource_at x.lock w.locks).valid j ≤ e.seq) (sym now_is) (is_at_most least e.seq parts.1))) in
      let place = stays e.lock e.lbn t.guard t.kind in
      written_anew v other d n r x (writer_on x.lock is.holds) (write_raises w.geometry (hold_writes r) x is.made) is.goes_on (subst (λ (k : LockName). has_lock k (system_of n) w.locks ≡ true) lock old.held) (record {
        block = get-set_here w.blocks x.lbn x.block is.within;
        guard = subst (λ (l : ℕ). guard_of w.geometry other l ≡ Some (Lock x.lock)) lbn (subst (λ (y : LockName). guard_of w.geometry other e.lbn ≡ Some (Lock y)) lock place.0);
        kind = subst (IsCacheable w.geometry other d) lbn place.1;
      })

  pub put_cached : AreCached w own c → AreCached v other d
  put_cached all = all_cached w v n s r put_event own other c d all (λ m q e ne there has. record { goes = inl (put_goes e); truth = λ none none_then t. other_truth e none_then t })
      (λ e has. by_any (list_any (is_since x.lbn x.lock least) s.cache) refl e (subst (λ (es : List Cached). Has es e) is.cache has)) where
        by_any : (b : Bool) → list_any (is_since x.lbn x.lock least) s.cache ≡ b → (e : Cached) → Has (cond b (replaced anew s.cache) s.cache) e → IsCachedAt v other d n r e
        by_any true some e has = elim (has_replaced anew s.cache e has) [
          | inl f ↦ subst (IsCachedAt v other d n r) f (made_anew all some)
          | inr h ↦ mine_stays all e h.0 (λ lbn lock le. absurd (let f : true ≡ false = sym (of_it x e lbn lock) ∙ h.1 in cc))
        ]
        by_any false none e has = mine_stays all e has
            (λ lbn lock le. absurd (let f : true ≡ false = sym (entry_any (is_since x.lbn x.lock least) s.cache e has (both_true (is_of x.lbn x.lock e) (nat_le least e.seq) (of_it x e lbn lock) (at_most least e.seq le))) ∙ none in cc))

  pub put_writes : AreHeldWrites v
  put_writes m q y there has = elim (same_or_not m n) [
    | inl e ↦
        let here : q ≡ r = same_state q r (sym there ∙ ap (node_at v.nodes) e ∙ at_here w.nodes n r s is.at) in
        subst (λ (k : ℕ). IsWriter v k q y.lock) (sym e) (subst (λ (z : NodeState). IsWriter v n z y.lock) (sym here) (writes_now y (subst (λ (z : NodeState). Has (hold_writes z) y) here has)))
    | inr ne ↦ writes m q y (sym (at_else w.nodes n m r ne) ∙ there) has
  ]
