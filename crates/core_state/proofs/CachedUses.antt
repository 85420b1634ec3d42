-- A cached block that is used is the drive's.
use Rattle.std.proofs.Common.{◌≡◌, ◌&&◌, ◌==◌, ◌∙◌, ℕ, Bool, true, false, cond, Some, None, slice_get, refl, sym, subst, arith}
use Rattle.std.proofs.lemmas.Bool.Decides.{nat_tests}
use Rattle.lock_db.specs.declared.name.LockName.{LockName}
use Rattle.lock_db.specs.Tables.{resource_at}
use Rattle.lock_db.proofs.Names.{is_same-same}
use Rattle.plain_cat.specs.declared.mode.Mode.TheVariants.{PR}
use Rattle.plain_cat.specs.declared.cat.Cat.{Cat}
use Rattle.base_words.specs.Lists.{Has}
use Rattle.vol_spell.specs.Owners.{Owners}
use Rattle.vol_under.specs.UnderWay.{AreSole}
use Rattle.node_cache.specs.Cached.{Cached, is_for, is_under, is_of, found}
use Rattle.op_law.specs.Laws.{held_in}
use Rattle.core_state.specs.Worlds.{NodeState, Plain, node_at}
use Rattle.core_state.specs.Caches.{sequence_now, current_entry}
use Rattle.core_state.specs.Stores.{hold_writes, IsWriter, HasWritten, IsUnwritten, IsTrue, IsCurrent, AreCached, AreHeldWrites}
use Rattle.core_state.specs.Goods.{held_by, under_by, nodes_under, Good}
use Rattle.core_state.proofs.Running.{are_sole}
use Rattle.core_state.proofs.CachedWrites.{raises_under}
use Rattle.core_state.proofs.CachedEvents.{has_found}
use Rattle.op_law.proofs.Asking.{parted}

module _ (w : Plain) (sole : AreSole (nodes_under w.locks w.nodes)) (writes : AreHeldWrites w) where
  -- a node that holds a lock, among all nodes under way
  writes_there : (n : ℕ) (s : NodeState) (name : LockName) → node_at w.nodes n ≡ Some s → IsWriter w n s name → Has (nodes_under w.locks w.nodes n).write name
  writes_there n s name at h = subst (λ o. Has (under_by w.locks n o).write name) (sym at) h

  reads_there : (n : ℕ) (s : NodeState) (name : LockName) → node_at w.nodes n ≡ Some s → Has (held_in PR (held_by w.locks n s)) name → Has (nodes_under w.locks w.nodes n).read name
  reads_there n s name at h = subst (λ o. Has (under_by w.locks n o).read name) (sym at) h

  -- who has written to a part holds its lock in PW
  pub written_writer : (m : ℕ) (e : Cached) (h : HasWritten w m e) → IsWriter w m h.state e.lock
  written_writer m e h =
      let k = raises_under w.geometry e.lock e.lbn (hold_writes h.state) h.raises in
      subst (IsWriter w m h.state) k.2 (writes m h.state k.0 h.at k.1)

  -- so where a node holds it in PR or more, no other has
  pub unwritten_read : (n : ℕ) (s : NodeState) (e : Cached) → node_at w.nodes n ≡ Some s → Has (held_in PR (held_by w.locks n s)) e.lock → IsUnwritten w n e
  unwritten_read n s e at holds m ne h = ne (sole.readers m n e.lock (writes_there m h.state e.lock h.at (written_writer m e h)) (reads_there n s e.lock at holds))

  pub sole_writer : (n m : ℕ) (s q : NodeState) (name : LockName) → node_at w.nodes n ≡ Some s → node_at w.nodes m ≡ Some q → IsWriter w n s name → IsWriter w m q name → m ≡ n
  sole_writer n m s q name at there a b = sole.writers m n name (writes_there m q name there b) (writes_there n s name at a)

-- ---- the entry that is found

-- what a current entry is
pub record IsCurrentEntry (w : Plain) (s : NodeState) (name : LockName) (lbn : ℕ) (e : Cached) : Type 0 where
  pub valid : (resource_at name w.locks).valid ≡ true
  pub has : Has s.cache e
  pub lbn_is : e.lbn ≡ lbn
  pub lock_is : e.lock ≡ name
  pub seq_is : e.seq ≡ sequence_now w.geometry w.locks name lbn

pub same_nat : (a b : ℕ) → (a == b) ≡ true → a ≡ b
same_nat a b e = grind (arith, nat_tests)

pub current_is : (w : Plain) (s : NodeState) (name : LockName) (lbn : ℕ) (e : Cached) → current_entry w.geometry w.locks name lbn s.cache ≡ Some e → IsCurrentEntry w s name lbn e
current_is w s name lbn e f = by_mark (resource_at name w.locks).valid refl f where
  seq : ℕ
  seq = sequence_now w.geometry w.locks name lbn

  by_mark : (b : Bool) → (resource_at name w.locks).valid ≡ b → cond b (found lbn name seq s.cache) None ≡ Some e → IsCurrentEntry w s name lbn e
  by_mark false mark g = absurd (let x : None ≡ Some e = g in cc)
  by_mark true mark g =
      let h = has_found (λ x. is_of lbn name x && (seq == x.seq)) s.cache e g in
      let parts = parted (is_of lbn name e) (seq == e.seq) h.1 in
      let of = parted (is_for lbn e) (is_under name e) parts.0 in
      record {
        valid = mark;
        has = h.0;
        lbn_is = sym (same_nat lbn e.lbn of.0);
        lock_is = sym (is_same-same name e.lock of.1);
        seq_is = sym (same_nat seq e.seq parts.1);
      }

-- A current entry under a lock that its node holds in PR or more is true.
pub current_is_true : (w : Plain) (own : Owners) (c : Cat) → AreSole (nodes_under w.locks w.nodes) → AreHeldWrites w → AreCached w own c → (n : ℕ) (s : NodeState) (name : LockName) (lbn : ℕ) (e : Cached) → node_at w.nodes n ≡ Some s
    → Has (held_in PR (held_by w.locks n s)) name → current_entry w.geometry w.locks name lbn s.cache ≡ Some e → IsTrue w own c e
current_is_true w own c sole writes all n s name lbn e at holds f =
    let is = current_is w s name lbn e f in
    let current : IsCurrent w e = record {
      valid = subst (λ (x : LockName). (resource_at x w.locks).valid ≡ true) (sym is.lock_is) is.valid;
      same = is.seq_is ∙ (λ i. sequence_now w.geometry w.locks (sym is.lock_is i) (sym is.lbn_is i));
    } in
    (all n s e at is.has).now current (unwritten_read w sole writes n s e at (subst (Has (held_in PR (held_by w.locks n s))) (sym is.lock_is) holds))

-- So it is the drive's block.
pub current_is_drives : (w : Plain) (n : ℕ) (s : NodeState) (name : LockName) (lbn : ℕ) (e : Cached) → Good w → node_at w.nodes n ≡ Some s → Has (held_in PR (held_by w.locks n s)) name
    → current_entry w.geometry w.locks name lbn s.cache ≡ Some e → slice_get w.blocks lbn ≡ Some e.block
current_is_drives w n s name lbn e good at holds f =
    let t = current_is_true w good.running.drive.own good.running.cat (are_sole w.locks w.nodes good.locked.0 good.locked.1) good.writers good.running.cached n s name lbn e at holds f in
    subst (λ (l : ℕ). slice_get w.blocks l ≡ Some e.block) (current_is w s name lbn e f).lbn_is t.block
