-- What an event of one node leaves of the cached blocks of all nodes, told of one entry.
use Rattle.std.proofs.Common.{◌≡◌, ◌≢◌, ◌≤◌, ◌+◌, ◌⊎◌, ◌∙◌, ℕ, zero, suc, Bool, true, false, Option, Some, None, refl, sym, ap, subst, inl, inr, arith}
use Rattle.std.specs.Prelude.{max}
use Rattle.lock_db.specs.declared.name.LockName.{LockName}
use Rattle.lock_db.specs.Tables.{resource_at}
use Rattle.plain_cat.specs.declared.cat.Cat.{Cat}
use Rattle.vol_spell.specs.Owners.{Owners}
use Rattle.node_locks.specs.Held.{system_of, has_lock}
use Rattle.node_locks.specs.Sequences.{rise}
use Rattle.node_cache.specs.Cached.{Cached}
use Rattle.base_words.proofs.Listing.{same_or_not}
use Rattle.core_state.specs.Worlds.{NodeState, Plain, node_at}
use Rattle.core_state.specs.Stores.{hold_writes, part_raise, rise_now, IsWriter, HasWritten, IsUnwritten, IsTrue, now_of, IsCurrent, IsAhead, IsCachedAt}

-- ---- rises

-- a part that does not rise was not written, and its value block is valid
no_rise : (valid : Bool) (by : ℕ) → rise valid by ≡ 0 → (valid ≡ true) × (by ≡ 0)
no_rise true by e = (refl, e)
no_rise false zero e = absurd (let f : max 0 1 ≡ 0 = e in cc)
no_rise false (suc by) e = absurd (let f : max (suc by) 1 ≡ 0 = e in grind arith)

rise_not_less : (valid : Bool) (by : ℕ) → by ≤ rise valid by
rise_not_less true by = omega arith
rise_not_less false by = grind arith

rise_grows : (valid : Bool) (less more : ℕ) → less ≤ more → rise valid less ≤ rise valid more
rise_grows true less more le = le
rise_grows false less more le = grind arith

-- a part rises where it was written
pub rises_written : (valid : Bool) (by : ℕ) → 1 ≤ by → 1 ≤ rise valid by
rises_written valid by le = let h = rise_not_less valid by in omega arith

-- ---- what an event of node n, which stood as s and stands as r, makes of the sequence of an entry

abbrev pub written_by : Plain → NodeState → Cached → ℕ
written_by w s e = part_raise w.geometry e.lock e.lbn (hold_writes s)

abbrev pub valid_at : Plain → Cached → Bool
valid_at w e = (resource_at e.lock w.locks).valid

pub data Goes (w v : Plain) (n : ℕ) (s r : NodeState) (e : Cached) : Type 0 where
  -- the sequence and the mark stay, and the node has written as much at least, under a lock that it holds on
  Stays : now_of v e ≡ now_of w e → valid_at v e ≡ valid_at w e → written_by w s e ≤ written_by v r e → (IsWriter w n s e.lock → IsWriter v n r e.lock) → Goes w v n s r e
  -- the node has lowered the lock from PW, or given it back
  Lowered : IsWriter w n s e.lock → now_of v e ≡ now_of w e + rise_now w s e.lock e.lbn → valid_at v e ≡ true → written_by v r e ≡ 0 → Goes w v n s r e

-- the node held the lock in PW, and is dead
pub record Spoils (w v : Plain) (n : ℕ) (s : NodeState) (e : Cached) : Type 0 where
  pub writer : IsWriter w n s e.lock
  pub same : now_of v e ≡ now_of w e
  pub mark : valid_at v e ≡ false

-- the event of one node
pub record IsEventOf (w v : Plain) (n : ℕ) (s r : NodeState) : Type 0 where
  pub at : node_at w.nodes n ≡ Some s
  pub here : node_at v.nodes n ≡ Some r
  pub others : (m : ℕ) → m ≢ n → node_at v.nodes m ≡ node_at w.nodes m
  pub geometry : v.geometry ≡ w.geometry
  -- the other nodes hold what they held
  pub holders : (m : ℕ) (q : NodeState) (name : LockName) → m ≢ n → node_at w.nodes m ≡ Some q → IsWriter w m q name → IsWriter v m q name
  pub lasting : (m : ℕ) (q : NodeState) (name : LockName) → m ≢ n → node_at w.nodes m ≡ Some q → has_lock name (system_of m) w.locks ≡ true → has_lock name (system_of m) v.locks ≡ true
  -- who holds a lock in PW is the only one to do so
  pub sole : (m : ℕ) (q : NodeState) (name : LockName) → node_at w.nodes m ≡ Some q → IsWriter w n s name → IsWriter w m q name → m ≡ n
  pub sole_then : (m : ℕ) (q : NodeState) (name : LockName) → node_at v.nodes m ≡ Some q → IsWriter v n r name → IsWriter v m q name → m ≡ n
  -- each write was made under a lock that is held in PW
  pub held_writes : (e : Cached) → 1 ≤ written_by w s e → IsWriter w n s e.lock
  pub held_then : (e : Cached) → 1 ≤ written_by v r e → IsWriter v n r e.lock

-- a part that was not written
pub none_or_some : (k : ℕ) → (k ≡ 0) ⊎ (1 ≤ k)
none_or_some zero = inl refl
none_or_some (suc k) = inr (omega arith)

pub same_state : (a b : NodeState) → Some a ≡ Some b → a ≡ b
same_state a b f = ap state_in f where
  state_in : Option NodeState → NodeState
  state_in None = a
  state_in (Some x) = x

module _ (w v : Plain) (n : ℕ) (s r : NodeState) (ev : IsEventOf w v n s r) (e : Cached) where
  -- what another node has written
  same_written : (q : NodeState) → written_by v q e ≡ written_by w q e
  same_written q = ap (λ g. part_raise g e.lock e.lbn (hold_writes q)) ev.geometry

  other_written : (m : ℕ) → m ≢ n → HasWritten w m e → HasWritten v m e
  other_written m ne h = record { state = h.state; at = ev.others m ne ∙ h.at; raises = subst (λ k. 1 ≤ k) (sym (same_written h.state)) h.raises }

  other_wrote : (m : ℕ) → m ≢ n → HasWritten v m e → HasWritten w m e
  other_wrote m ne h = record { state = h.state; at = sym (ev.others m ne) ∙ h.at; raises = subst (λ k. 1 ≤ k) (same_written h.state) h.raises }

  -- node n has written it
  own_written : HasWritten w n e → 1 ≤ written_by w s e
  own_written h = subst (λ q. 1 ≤ written_by w q e) (same_state h.state s (sym h.at ∙ ev.at)) h.raises

  own_then : 1 ≤ written_by v r e → HasWritten v n e
  own_then some = record { state = r; at = ev.here; raises = some }

  -- what no other than node m has written
  unwritten_before : (m : ℕ) → written_by w s e ≡ 0 → IsUnwritten v m e → IsUnwritten w m e
  unwritten_before m none un k ne h = elim (same_or_not k n) [
    | inl is ↦ absurd (let some : 1 ≤ written_by w s e = own_written (subst (λ j. HasWritten w j e) is h) in omega (arith, none))
    | inr apart ↦ un k ne (other_written k apart h)
  ]

  -- ---- an entry of another node

  module _ (m : ℕ) (q : NodeState) (ne : m ≢ n) (there : node_at w.nodes m ≡ Some q) (own other : Owners) (c d : Cat) (old : IsCachedAt w own c m q e)
      (truth : written_by w s e ≡ 0 → written_by v r e ≡ 0 → IsTrue w own c e → IsTrue v other d e) where
    there_then : node_at v.nodes m ≡ Some q
    there_then = ev.others m ne ∙ there

    -- where node n holds its lock in PW, it is not ahead
    low : IsWriter w n s e.lock → e.seq ≤ now_of w e
    low writer = elim old.near [ inl le ↦ le | inr a ↦ absurd (ne (ev.sole m q e.lock there writer a.writer)) ]

    -- node n has written nothing under a lock that node m holds in PW
    nothing_then : IsWriter v m q e.lock → written_by v r e ≡ 0
    nothing_then writer = elim (none_or_some (written_by v r e)) [ inl z ↦ z | inr some ↦ absurd (ne (ev.sole_then m q e.lock there_then (ev.held_then e some) writer)) ]

    nothing_before : IsWriter w m q e.lock → written_by w s e ≡ 0
    nothing_before writer = elim (none_or_some (written_by w s e)) [ inl z ↦ z | inr some ↦ absurd (ne (ev.sole m q e.lock there (ev.held_writes e some) writer)) ]

    -- where node n has not written to the part
    untouched : IsUnwritten v m e → written_by v r e ≡ 0
    untouched un = elim (none_or_some (written_by v r e)) [ inl z ↦ z | inr some ↦ absurd (un n (λ f. ne (sym f)) (own_then some)) ]

    ahead_before : now_of v e ≡ now_of w e → IsAhead v m q e → IsAhead w m q e
    ahead_before same a = elim old.near [
      | inl le ↦ absurd (let f : e.seq ≡ now_of v e + 1 = a.seq in omega (arith, f, le, same))
      | inr b ↦ b
    ]

    pub other_stays : Goes w v n s r e → IsCachedAt v other d m q e
    other_stays goes = by_goes goes where
      stays : now_of v e ≡ now_of w e → valid_at v e ≡ valid_at w e → written_by w s e ≤ written_by v r e → IsCachedAt v other d m q e
      stays same mark more = record {
        held = ev.lasting m q e.lock ne there old.held;
        near = elim old.near [
          | inl le ↦ inl (subst (λ k. e.seq ≤ k) (sym same) le)
          | inr a ↦ inr (record {
            seq = a.seq ∙ ap (λ k. k + 1) (sym same);
            writer = ev.holders m q e.lock ne there a.writer;
            rises = subst (λ k. 1 ≤ k) (λ i. rise (sym mark i) (sym (same_written q) i)) a.rises;
          })
        ];
        now = λ is un.
            let none : written_by w s e ≡ 0 = let z = untouched un in omega (arith, z, more) in
            truth none (untouched un) (old.now (record { valid = sym mark ∙ is.valid; same = is.same ∙ same }) (unwritten_before m none un));
        ahead = λ a.
            let b : IsAhead w m q e = ahead_before same a in
            truth (nothing_before b.writer) (nothing_then a.writer) (old.ahead b);
      }

      lowered : IsWriter w n s e.lock → now_of v e ≡ now_of w e + rise_now w s e.lock e.lbn → written_by v r e ≡ 0 → IsCachedAt v other d m q e
      lowered writer higher none = record {
        held = ev.lasting m q e.lock ne there old.held;
        near = inl (let le = low writer in omega (arith, le, higher));
        now = λ is un.
            let le = low writer in
            let zero_rise : rise_now w s e.lock e.lbn ≡ 0 = let f : e.seq ≡ now_of v e = is.same in omega (arith, f, le, higher) in
            let both = no_rise (valid_at w e) (written_by w s e) zero_rise in
            let same : e.seq ≡ now_of w e = let f : e.seq ≡ now_of v e = is.same in omega (arith, f, higher, zero_rise) in
            truth both.1 none (old.now (record { valid = both.0; same = same }) (unwritten_before m both.1 un));
        ahead = λ a. absurd (let le = low writer in let f : e.seq ≡ now_of v e + 1 = a.seq in omega (arith, f, le, higher));
      }

      by_goes : Goes w v n s r e → IsCachedAt v other d m q e
      by_goes (Stays same mark more writes) = stays same mark more
      by_goes (Lowered writer higher mark none) = lowered writer higher none

    -- where it is dead that held the lock in PW, nothing is current
    pub other_spoiled : Spoils w v n s e → IsCachedAt v other d m q e
    other_spoiled h = record {
      held = ev.lasting m q e.lock ne there old.held;
      near = inl (let le = low h.writer in subst (λ k. e.seq ≤ k) (sym h.same) le);
      now = λ is un. absurd (let f : true ≡ false = sym is.valid ∙ h.mark in cc);
      ahead = λ a. absurd (let le = low h.writer in let f : e.seq ≡ now_of v e + 1 = a.seq in omega (arith, f, le, h.same));
    }

  -- ---- an entry of node n itself, which it has had before

  module _ (own other : Owners) (c d : Cat) (old : IsCachedAt w own c n s e) (held : has_lock e.lock (system_of n) v.locks ≡ true)
      (truth : IsCurrent w e ⊎ IsAhead w n s e → (1 ≤ written_by v r e) ⊎ (written_by w s e ≤ 1) → IsTrue w own c e → IsTrue v other d e) where
    pub own_stays : Goes w v n s r e → IsCachedAt v other d n r e
    own_stays goes = by_goes goes where
      -- it has written more, or as much
      few : written_by w s e ≤ written_by v r e → (1 ≤ written_by v r e) ⊎ (written_by w s e ≤ 1)
      few more = elim (none_or_some (written_by v r e)) [ inl z ↦ inr (omega (arith, z, more)) | inr some ↦ inl some ]

      stays : now_of v e ≡ now_of w e → valid_at v e ≡ valid_at w e → written_by w s e ≤ written_by v r e → (IsWriter w n s e.lock → IsWriter v n r e.lock) → IsCachedAt v other d n r e
      stays same mark more writes = record {
        held = held;
        near = elim old.near [
          | inl le ↦ inl (subst (λ k. e.seq ≤ k) (sym same) le)
          | inr a ↦ inr (record {
            seq = a.seq ∙ ap (λ k. k + 1) (sym same);
            writer = writes a.writer;
            rises =
                let one : 1 ≤ rise_now w s e.lock e.lbn = a.rises in
                let two : rise (valid_at w e) (written_by w s e) ≤ rise (valid_at w e) (written_by v r e) = rise_grows (valid_at w e) (written_by w s e) (written_by v r e) more in
                subst (λ b. 1 ≤ rise b (written_by v r e)) (sym mark) (omega (arith, one, two));
          })
        ];
        now = λ is un.
            let current : IsCurrent w e = record { valid = sym mark ∙ is.valid; same = is.same ∙ same } in
            truth (inl current) (few more) (old.now current (λ k ne h. un k ne (other_written k ne h)));
        ahead = λ a. elim old.near [
          | inl le ↦ absurd (let f : e.seq ≡ now_of v e + 1 = a.seq in omega (arith, f, le, same))
          | inr b ↦ truth (inr b) (few more) (old.ahead b)
        ];
      }

      lowered : now_of v e ≡ now_of w e + rise_now w s e.lock e.lbn → IsCachedAt v other d n r e
      lowered higher = record {
        held = held;
        near = inl (elim old.near [
          | inl le ↦ omega (arith, le, higher)
          | inr a ↦ let f : e.seq ≡ now_of w e + 1 = a.seq in let g : 1 ≤ rise_now w s e.lock e.lbn = a.rises in omega (arith, f, g, higher)
        ]);
        now = λ is un. elim old.near [
          | inl le ↦
              let zero_rise : rise_now w s e.lock e.lbn ≡ 0 = let f : e.seq ≡ now_of v e = is.same in omega (arith, f, le, higher) in
              let both = no_rise (valid_at w e) (written_by w s e) zero_rise in
              let same : e.seq ≡ now_of w e = let f : e.seq ≡ now_of v e = is.same in omega (arith, f, higher, zero_rise) in
              let current : IsCurrent w e = record { valid = both.0; same = same } in
              truth (inl current) (inr (omega (arith, both.1))) (old.now current (λ k ne h. un k ne (other_written k ne h)))
          | inr a ↦
              let f : e.seq ≡ now_of v e = is.same in
              let g : e.seq ≡ now_of w e + 1 = a.seq in
              let one : rise_now w s e.lock e.lbn ≡ 1 = omega (arith, f, g, higher) in
              let low : written_by w s e ≤ rise_now w s e.lock e.lbn = rise_not_less (valid_at w e) (written_by w s e) in
              truth (inr a) (inr (omega (arith, one, low))) (old.ahead a)
        ];
        ahead = λ a. absurd (let f : e.seq ≡ now_of v e + 1 = a.seq in elim old.near [
          | inl le ↦ omega (arith, f, le, higher)
          | inr b ↦ let g : e.seq ≡ now_of w e + 1 = b.seq in let h : 1 ≤ rise_now w s e.lock e.lbn = b.rises in omega (arith, f, g, h, higher)
        ]);
      }

      by_goes : Goes w v n s r e → IsCachedAt v other d n r e
      by_goes (Stays same mark more writes) = stays same mark more writes
      by_goes (Lowered writer higher mark none) = lowered higher
