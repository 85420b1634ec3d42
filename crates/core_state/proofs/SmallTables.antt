-- What the calls of the lock manager make of the sequences of value blocks: a request leaves each, and where locks go back no
-- sequence is raised by more than two.
use Rattle.std.proofs.Common.{◌≡◌, ◌≢◌, ◌≤◌, ◌<◌, ◌+◌, ◌^◌, ℕ, Bool, true, false, List, [], ◌∷◌, Option, Some, None, cond, IsSome, is_some, refl, sym, ap, subst, ◌∙◌, inl, inr, arith}
use Rattle.std.specs.Prelude.{replicate, MatchBool}
use Rattle.std.specs.List.{list_any}
use Rattle.plain_cat.specs.declared.mode.Mode.{Mode}
use Rattle.plain_cat.specs.declared.command.Cmd.{Cmd}
use Rattle.plain_cat.specs.declared.command.Cmd.TheVariants as cmd
use Rattle.plain_cat.specs.declared.reply.Reply.{Reply}
use Rattle.plain_rules.specs.Own.{is_closed}
use Rattle.lock_db.specs.declared.name.LockName.{LockName}
use Rattle.lock_db.specs.declared.name.LockName.TheVariants.{A, V}
use Rattle.lock_db.specs.declared.name.Owner.{Owner}
use Rattle.lock_db.specs.declared.resource.Resource.{Resource}
use Rattle.lock_db.specs.Queues.{is_writing, without, lock_of}
use Rattle.lock_db.specs.Resources.{mode_held, conversion_writes}
use Rattle.lock_db.specs.Tables.{resource_at, asked, converted, released}
use Rattle.lock_db.specs.Laws.{BlockStays, BlockIs, somebody}
use Rattle.lock_db.proofs.Blocks.{requests-keep, conversions-write, releases-write, asked-leaves, converted-leaves, released-leaves}
use Rattle.base_words.specs.Lists.{Has, Once}
use Rattle.vol_parts.specs.declared.geometry.Geometry.{Geometry}
use Rattle.node_locks.specs.Held.{has_lock, Row, system_of, names_of}
use Rattle.node_locks.specs.PuttingBack.{Keeps, put_back, all_back, MayPutBack}
use Rattle.node_locks.proofs.Nodes.{has_name_or_not}
use Rattle.node_locks.specs.Taking.{taken}
use Rattle.node_locks.specs.Sequences.{rise, raised, first_sequence, second_sequence, block_with, guards_blocks, raised_block}
use Rattle.node_locks.specs.declared.sequences.Raise.{Raise}
use Rattle.node_locks.proofs.ReadingBack.{sequences_read_back}
use Rattle.op_law.specs.declared.need.PlanWrite.{PlanWrite}
use Rattle.op_law.specs.declared.seen.Chan.{Chan}
use Rattle.core_state.specs.Channels.{let_go, closed_off}
use Rattle.core_state.specs.Raises.{frees, writes_first, writes_second, raise_by, raise_of}
use Rattle.core_state.specs.Caches.{raised_values}
use Rattle.core_state.specs.Events.{given_back}
use Rattle.core_state.proofs.Naming.{same_name}

-- ---- one sequence

-- a rise by two at most
rise_little : (valid : Bool) (by : ℕ) → by ≤ 2 → rise valid by ≤ 2
rise_little true by le = le
rise_little false by le = omega arith

-- raised by two at most, and within 64 bits
raised_little : (valid : Bool) (by sequence : ℕ) → by ≤ 2 → raised valid by sequence ≤ sequence + 2
raised_little valid by sequence le = let r = rise_little valid by le in omega arith

pub raised_fits : (valid : Bool) (by sequence : ℕ) → raised valid by sequence < 2 ^ 64
raised_fits valid by sequence = omega arith

-- and by one at most
raised_once : (valid : Bool) (by sequence : ℕ) → by ≤ 1 → raised valid by sequence ≤ sequence + 1
raised_once true by sequence le = omega arith
raised_once false by sequence le = omega arith

-- a raise of each sequence by one at most
pub record IsRaiseByOne (raise : Raise) : Type 0 where
  pub first : raise.first ≤ 1
  pub second : raise.second ≤ 1

-- a raise of each sequence by two at most
pub record IsSmallRaise (raise : Raise) : Type 0 where
  pub first : raise.first ≤ 2
  pub second : raise.second ≤ 2

-- one of the two sequences of a value block: in zeros it is zero, and raised by two or by one at most it grows by that at most
pub record IsSequence (seq : List ℕ → ℕ) : Type 0 where
  pub zeros : seq (replicate 16 0) ≡ 0
  pub little : (name : LockName) (raise : Raise) (r : Resource) → IsSmallRaise raise → seq (raised_block name raise r) ≤ seq r.value + 2
  pub by_one : (raise : Raise) (r : Resource) → IsRaiseByOne raise → seq (raised_block V raise r) ≤ seq r.value + 1

-- it is so where it is raised only under some locks
raised_or_not : (seq : List ℕ → ℕ) (b : Bool) (x y : List ℕ) → seq x ≤ seq y + 2 → seq (cond b x y) ≤ seq y + 2
raised_or_not seq true x y le = le
raised_or_not seq false x y le = omega arith

pub is_first : IsSequence first_sequence
unfolding first_sequence
is_first = record {
  zeros = refl;
  little = λ name raise r small.
      let e = (sequences_read_back (raised r.valid raise.first (first_sequence r.value)) (raised r.valid raise.second (second_sequence r.value)) (raised_fits r.valid raise.first (first_sequence r.value)) (raised_fits r.valid raise.second (second_sequence r.value))).first_is in
      raised_or_not first_sequence (guards_blocks name) (block_with (raised r.valid raise.first (first_sequence r.value)) (raised r.valid raise.second (second_sequence r.value))) r.value
      (subst (λ (k : ℕ). k ≤ first_sequence r.value + 2) (sym e) (raised_little r.valid raise.first (first_sequence r.value) small.first));
  by_one = λ raise r once.
      let e = (sequences_read_back (raised r.valid raise.first (first_sequence r.value)) (raised r.valid raise.second (second_sequence r.value)) (raised_fits r.valid raise.first (first_sequence r.value)) (raised_fits r.valid raise.second (second_sequence r.value))).first_is in
      subst (λ (k : ℕ). k ≤ first_sequence r.value + 1) (sym e) (raised_once r.valid raise.first (first_sequence r.value) once.first);
}

pub is_second : IsSequence second_sequence
unfolding second_sequence
is_second = record {
  zeros = refl;
  little = λ name raise r small.
      let e = (sequences_read_back (raised r.valid raise.first (first_sequence r.value)) (raised r.valid raise.second (second_sequence r.value)) (raised_fits r.valid raise.first (first_sequence r.value)) (raised_fits r.valid raise.second (second_sequence r.value))).second_is in
      raised_or_not second_sequence (guards_blocks name) (block_with (raised r.valid raise.first (first_sequence r.value)) (raised r.valid raise.second (second_sequence r.value))) r.value
      (subst (λ (k : ℕ). k ≤ second_sequence r.value + 2) (sym e) (raised_little r.valid raise.second (second_sequence r.value) small.second));
  by_one = λ raise r once.
      let e = (sequences_read_back (raised r.valid raise.first (first_sequence r.value)) (raised r.valid raise.second (second_sequence r.value)) (raised_fits r.valid raise.first (first_sequence r.value)) (raised_fits r.valid raise.second (second_sequence r.value))).second_is in
      subst (λ (k : ℕ). k ≤ second_sequence r.value + 1) (sym e) (raised_once r.valid raise.second (second_sequence r.value) once.second);
}

-- what a command has written raises each by two at most
pub raise_little : (freed wrote : Bool) → raise_by freed wrote ≤ 2
raise_little true wrote = omega arith
raise_little false true = omega arith
raise_little false false = omega arith

pub little_raise : (g : Geometry) (name : LockName) (ws : List PlanWrite) → IsSmallRaise (raise_of g name ws)
little_raise g name ws = record {
  first = raise_little (list_any (frees g name) ws) (list_any (writes_first g name) ws);
  second = raise_little (list_any (frees g name) ws) (list_any (writes_second g name) ws);
}

-- what is written under V frees no slot
none_freed : (g : Geometry) (ws : List PlanWrite) → list_any (frees g V) ws ≡ false
none_freed g [] = refl
none_freed g (w ∷ ws) = none_freed g ws

once_by : (freed wrote : Bool) → freed ≡ false → raise_by freed wrote ≤ 1
once_by true wrote e = absurd (let f : true ≡ false = e in cc)
once_by false true e = omega arith
once_by false false e = omega arith

-- so it raises each sequence of V by one at most
by_one_raise : (g : Geometry) (ws : List PlanWrite) → IsRaiseByOne (raise_of g V ws)
by_one_raise g ws = record {
  first = once_by (list_any (frees g V) ws) (list_any (writes_first g V) ws) (none_freed g ws);
  second = once_by (list_any (frees g V) ws) (list_any (writes_second g V) ws) (none_freed g ws);
}

module _ (seq : List ℕ → ℕ) (is : IsSequence seq) where
  abbrev at : LockName → List Resource → ℕ
  at name t = seq (resource_at name t).value

  -- ---- a request

  pub asked_same : (name other : LockName) (owner : Owner) (mode : Mode) (t : List Resource) → at other (asked name owner mode t) ≡ at other t
  asked_same name other owner mode t = elim (same_name other name) [
    | inl e ↦ subst (λ (x : LockName). at x (asked name owner mode t) ≡ at x t) (sym e) (ap seq (requests-keep name owner mode t).0.bytes)
    | inr ne ↦ ap (λ (r : Resource). seq r.value) (asked-leaves name owner mode t other ne)
  ]

  -- ---- a lock that is taken: a request, or a conversion that keeps the value block

  by_kept : (writes : Bool) (old new : Resource) → MatchBool writes (BlockIs old.value true new) (BlockStays old new) → seq new.value ≡ seq old.value
  by_kept true old new h = ap seq h.bytes_are
  by_kept false old new h = ap seq h.bytes

  pub converted_same : (name other : LockName) (owner : Owner) (mode : Mode) (t : List Resource) → IsSome (lock_of owner (resource_at name t).askers) → at other (converted name owner mode (resource_at name t).value t) ≡ at other t
  converted_same name other owner mode t some = elim (same_name other name) [
    | inl e ↦ subst (λ (x : LockName). at x (converted name owner mode (resource_at name t).value t) ≡ at x t) (sym e)
        (by_kept (conversion_writes (mode_held owner (resource_at name t)) mode) (resource_at name t) (resource_at name (converted name owner mode (resource_at name t).value t)) (conversions-write name owner mode (resource_at name t).value t some))
    | inr ne ↦ ap (λ (r : Resource). seq r.value) (converted-leaves name owner mode (resource_at name t).value t other ne)
  ]

  pub taken_same : (name other : LockName) (owner : Owner) (mode : Mode) (t : List Resource) → (has_lock name owner t ≡ true → IsSome (lock_of owner (resource_at name t).askers)) → at other (taken name owner mode t) ≡ at other t
  taken_same name other owner mode t some = by_lock (has_lock name owner t) refl where
    by_lock : (b : Bool) → has_lock name owner t ≡ b → at other (cond b (converted name owner mode (resource_at name t).value t) (asked name owner mode t)) ≡ at other t
    by_lock true e = converted_same name other owner mode t (some e)
    by_lock false e = asked_same name other owner mode t

  -- ---- a release

  -- the value block stays, is the one that was given, or is gone
  by_block : (some writes : Bool) (value : List ℕ) (old new : Resource) → MatchBool some (MatchBool writes (BlockIs value true new) (BlockStays old new)) (BlockIs (replicate 16 0) true new)
      → seq value ≤ seq old.value + 2 → seq new.value ≤ seq old.value + 2
  by_block true true value old new h le = subst (λ (v : List ℕ). seq v ≤ seq old.value + 2) (sym h.bytes_are) le
  by_block true false value old new h le = let e : seq new.value ≡ seq old.value = ap seq h.bytes in omega arith
  by_block false writes value old new h le = let e : seq new.value ≡ 0 = ap seq h.bytes_are ∙ is.zeros in omega arith

  released_here : (name : LockName) (owner : Owner) (raise : Raise) (t : List Resource) → IsSmallRaise raise → at name (released name owner (raised_block name raise (resource_at name t)) t) ≤ at name t + 2
  released_here name owner raise t small =
      let r : Resource = resource_at name t in
      let value : List ℕ = raised_block name raise r in
      by_block (somebody (without owner r.askers)) (is_writing (mode_held owner r)) value r (resource_at name (released name owner value t)) (releases-write name owner value t) (is.little name raise r small)

  released_else : (name other : LockName) (owner : Owner) (value : List ℕ) (t : List Resource) → other ≢ name → at other (released name owner value t) ≡ at other t
  released_else name other owner value t ne = ap (λ (r : Resource). seq r.value) (released-leaves name owner value t other ne)

  -- one with zeros raises nothing
  released_zeros : (name other : LockName) (owner : Owner) (t : List Resource) → at other (released name owner (replicate 16 0) t) ≤ at other t + 0
  released_zeros name other owner t = elim (same_name other name) [
    | inl e ↦ subst (λ (x : LockName). at x (released name owner (replicate 16 0) t) ≤ at x t + 0) (sym e) (no_more (somebody (without owner (resource_at name t).askers)) (is_writing (mode_held owner (resource_at name t)))
        (resource_at name t) (resource_at name (released name owner (replicate 16 0) t)) (releases-write name owner (replicate 16 0) t))
    | inr ne ↦ let e : at other (released name owner (replicate 16 0) t) ≡ at other t = released_else name other owner (replicate 16 0) t ne in omega arith
  ] where
    no_more : (some writes : Bool) (old new : Resource) → MatchBool some (MatchBool writes (BlockIs (replicate 16 0) true new) (BlockStays old new)) (BlockIs (replicate 16 0) true new) → seq new.value ≤ seq old.value + 0
    no_more true true old new h = let e : seq new.value ≡ 0 = ap seq h.bytes_are ∙ is.zeros in omega arith
    no_more true false old new h = let e : seq new.value ≡ seq old.value = ap seq h.bytes in omega arith
    no_more false writes old new h = let e : seq new.value ≡ 0 = ap seq h.bytes_are ∙ is.zeros in omega arith

  let_go_little : (n chan : ℕ) (had : Option Chan) (other : LockName) (t : List Resource) → at other (let_go n chan had t) ≤ at other t + 0
  let_go_little n chan None other t = omega arith
  let_go_little n chan (Some p) other t = released_zeros (A p.file.num) other (record { node = n; part = chan }) t

  pub closed_off_little : (n : ℕ) (had : Option Chan) (x : Cmd) (r : Reply) (other : LockName) (t : List Resource) → at other (closed_off n had x r t) ≤ at other t + 0
  closed_off_little n had (cmd.CloseFile chan) r other t = by_reply (is_closed r) where
    by_reply : (b : Bool) → at other (cond b (let_go n chan had t) t) ≤ at other t + 0
    by_reply true = let_go_little n chan had other t
    by_reply false = omega arith
  closed_off_little n had y r other t = omega arith

  -- one with its own value block raises nothing
  by_own : (some writes : Bool) (old new : Resource) → MatchBool some (MatchBool writes (BlockIs old.value true new) (BlockStays old new)) (BlockIs (replicate 16 0) true new) → seq new.value ≤ seq old.value + 0
  by_own true true old new h = let e : seq new.value ≡ seq old.value = ap seq h.bytes_are in omega arith
  by_own true false old new h = let e : seq new.value ≡ seq old.value = ap seq h.bytes in omega arith
  by_own false writes old new h = let e : seq new.value ≡ 0 = ap seq h.bytes_are ∙ is.zeros in omega arith

  pub released_own : (name other : LockName) (owner : Owner) (t : List Resource) → at other (released name owner (resource_at name t).value t) ≤ at other t + 0
  released_own name other owner t = elim (same_name other name) [
    | inl e ↦ subst (λ (x : LockName). at x (released name owner (resource_at name t).value t) ≤ at x t + 0) (sym e)
        (by_own (somebody (without owner (resource_at name t).askers)) (is_writing (mode_held owner (resource_at name t))) (resource_at name t) (resource_at name (released name owner (resource_at name t).value t)) (releases-write name owner (resource_at name t).value t))
    | inr ne ↦ let e : at other (released name owner (resource_at name t).value t) ≡ at other t = released_else name other owner (resource_at name t).value t ne in omega arith
  ]

  -- ---- a lock that is lowered

  by_raised : (writes : Bool) (value : List ℕ) (old new : Resource) → MatchBool writes (BlockIs value true new) (BlockStays old new) → seq value ≤ seq old.value + 1 → seq new.value ≤ seq old.value + 1
  by_raised true value old new h le = subst (λ (v : List ℕ). seq v ≤ seq old.value + 1) (sym h.bytes_are) le
  by_raised false value old new h le = let e : seq new.value ≡ seq old.value = ap seq h.bytes in omega arith

  -- V is lowered
  pub lowered_once : (g : Geometry) (ws : List PlanWrite) (other : LockName) (owner : Owner) (mode : Mode) (t : List Resource) → IsSome (lock_of owner (resource_at V t).askers)
      → at other (converted V owner mode (raised_block V (raise_of g V ws) (resource_at V t)) t) ≤ at other t + 1
  lowered_once g ws other owner mode t some = elim (same_name other V) [
    | inl e ↦ subst (λ (x : LockName). at x (converted V owner mode value_v t) ≤ at x t + 1) (sym e)
        (by_raised (conversion_writes (mode_held owner (resource_at V t)) mode) value_v (resource_at V t) (resource_at V (converted V owner mode value_v t)) (conversions-write V owner mode value_v t some)
        (is.by_one (raise_of g V ws) (resource_at V t) (by_one_raise g ws)))
    | inr ne ↦ let e : at other (converted V owner mode value_v t) ≡ at other t = ap (λ (r : Resource). seq r.value) (converted-leaves V owner mode value_v t other ne) in omega arith
  ] where
    value_v : List ℕ
    value_v = raised_block V (raise_of g V ws) (resource_at V t)

  -- ---- locks that go back one after the other

  module _ (g : Geometry) (n : ℕ) (ws : List PlanWrite) where
    abbrev value : LockName → List Resource → List ℕ
    value name t = raised_block name (raise_of g name ws) (resource_at name t)

    given_else : (ls : List (LockName × Mode)) (t : List Resource) (name : LockName) → (Has (names_of ls) name → ⊥) → at name (given_back g n ws ls t) ≡ at name t
    given_else [] t name none = refl
    given_else (l ∷ ls) t name none =
        given_else ls (released l.0 (system_of n) (value l.0 t) t) name (λ h. none (inr h)) ∙ released_else l.0 name (system_of n) (value l.0 t) t (λ e. none (inl (sym e)))

    given_little : (ls : List (LockName × Mode)) (t : List Resource) → Once (names_of ls) → (name : LockName) → at name (given_back g n ws ls t) ≤ at name t + 2
    given_little [] t once name = omega arith
    given_little (l ∷ ls) t once name =
        let u : List Resource = released l.0 (system_of n) (value l.0 t) t in
        elim (same_name name l.0) [
          | inl e ↦
              subst (λ (x : LockName). at x (given_back g n ws ls u) ≤ at x t + 2) (sym e) (
              let a : at l.0 (given_back g n ws ls u) ≡ at l.0 u = given_else ls u l.0 once.0 in
              let b : at l.0 u ≤ at l.0 t + 2 = released_here l.0 (system_of n) (raise_of g l.0 ws) t (little_raise g l.0 ws) in
              omega arith
              )
          | inr ne ↦
              let a : at name (given_back g n ws ls u) ≤ at name u + 2 = given_little ls u once.1 name in
              let b : at name u ≡ at name t = released_else l.0 name (system_of n) (value l.0 t) t ne in
              omega arith
        ]

    -- ---- locks that are put back: given back, or lowered

    by_little : (writes : Bool) (bytes : List ℕ) (old new : Resource) → MatchBool writes (BlockIs bytes true new) (BlockStays old new) → seq bytes ≤ seq old.value + 2 → seq new.value ≤ seq old.value + 2
    by_little true bytes old new h le = subst (λ (v : List ℕ). seq v ≤ seq old.value + 2) (sym h.bytes_are) le
    by_little false bytes old new h le = let e : seq new.value ≡ seq old.value = ap seq h.bytes in omega arith

    put_back_here : (l : LockName × Mode) (o : Option Mode) (t : List Resource) → lock_of (system_of n) (resource_at l.0 t).askers ≡ Some l.1 → at l.0 (put_back n (raised_values g ws l t) l o t) ≤ at l.0 t + 2
    put_back_here l None t lock = released_here l.0 (system_of n) (raise_of g l.0 ws) t (little_raise g l.0 ws)
    put_back_here l (Some low) t lock =
        let r : Resource = resource_at l.0 t in
        by_little (conversion_writes (mode_held (system_of n) r) low) (value l.0 t) r (resource_at l.0 (converted l.0 (system_of n) low (value l.0 t) t)) (conversions-write l.0 (system_of n) low (value l.0 t) t (ap is_some lock))
        (is.little l.0 (raise_of g l.0 ws) r (little_raise g l.0 ws))

    put_back_else : (l : LockName × Mode) (o : Option Mode) (t : List Resource) (other : LockName) → other ≢ l.0 → at other (put_back n (raised_values g ws l t) l o t) ≡ at other t
    put_back_else l None t other ne = released_else l.0 other (system_of n) (value l.0 t) t ne
    put_back_else l (Some low) t other ne = ap (λ (r : Resource). seq r.value) (converted-leaves l.0 (system_of n) low (value l.0 t) t other ne)

    module _ (keeps : Keeps) where
      back_else : (ls : Row) (t : List Resource) (name : LockName) → (Has (names_of ls) name → ⊥) → at name (all_back n keeps (raised_values g ws) ls t) ≡ at name t
      back_else [] t name none = refl
      back_else (l ∷ ls) t name none = back_else ls (put_back n (raised_values g ws l t) l (keeps l) t) name (λ h. none (inr h)) ∙ put_back_else l (keeps l) t name (λ e. none (inl (sym e)))

      back_little : (ls : Row) (t : List Resource) → Once (names_of ls) → MayPutBack n keeps (raised_values g ws) ls t → (name : LockName) → at name (all_back n keeps (raised_values g ws) ls t) ≤ at name t + 2
      back_little [] t once may name = omega arith
      back_little (l ∷ ls) t once may name =
          let u : List Resource = put_back n (raised_values g ws l t) l (keeps l) t in
          elim (same_name name l.0) [
            | inl e ↦
                subst (λ (x : LockName). at x (all_back n keeps (raised_values g ws) ls u) ≤ at x t + 2) (sym e) (
                let a : at l.0 (all_back n keeps (raised_values g ws) ls u) ≡ at l.0 u = back_else ls u l.0 once.0 in
                let b : at l.0 u ≤ at l.0 t + 2 = put_back_here l (keeps l) t may.0 in
                omega arith
                )
            | inr ne ↦
                let a : at name (all_back n keeps (raised_values g ws) ls u) ≤ at name u + 2 = back_little ls u once.1 may.1 name in
                let b : at name u ≡ at name t = put_back_else l (keeps l) t name ne in
                omega arith
          ]

      -- and behind them others that are given back
      pub both_little : (ls gone : Row) (t : List Resource) → Once (names_of ls) → Once (names_of gone) → MayPutBack n keeps (raised_values g ws) ls t → ((name : LockName) → Has (names_of gone) name → Has (names_of ls) name → ⊥)
          → (name : LockName) → at name (given_back g n ws gone (all_back n keeps (raised_values g ws) ls t)) ≤ at name t + 2
      both_little ls gone t once once_gone may apart name =
          let u : List Resource = all_back n keeps (raised_values g ws) ls t in
          elim (has_name_or_not (names_of gone) name) [
            | inl h ↦
                let a : at name (given_back g n ws gone u) ≤ at name u + 2 = given_little gone u once_gone name in
                let b : at name u ≡ at name t = back_else ls t name (apart name h) in
                omega arith
            | inr none ↦
                let a : at name (given_back g n ws gone u) ≡ at name u = given_else gone u name none in
                let b : at name u ≤ at name t + 2 = back_little ls t once may name in
                omega arith
          ]
