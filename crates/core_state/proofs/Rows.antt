-- What the events of a node's rules for space leave of its rows of locks.
use Rattle.std.proofs.Common.{◌≡◌, ◌≢◌, ◌≤◌, ◌⊎◌, ◌++◌, ℕ, Bool, true, false, cond, not, List, [], ◌∷◌, Some, None, is_some, refl, sym, ap, subst, ◌∙◌, inl, inr, arith}
use Rattle.std.proofs.lemmas.Bool.Decides.{nat_tests}
use Rattle.std.proofs.lemmas.List.{append-nil}
use Rattle.lock_db.specs.declared.name.LockName.{LockName}
use Rattle.lock_db.specs.declared.name.LockName.TheVariants.{X, V}
use Rattle.lock_db.specs.declared.askers.Standing.TheVariants.{Granted}
use Rattle.lock_db.specs.declared.resource.Resource.{Resource}
use Rattle.lock_db.specs.Queues.{is_upward, standing_of, lock_of}
use Rattle.lock_db.specs.Tables.{IsTable, resource_at, asked, converted, released}
use Rattle.lock_db.proofs.Names.{is_same-refl}
use Rattle.lock_db.proofs.Blocks.{asked-leaves, converted-leaves}
use Rattle.lock_db.proofs.Steps.{IsTable-converted, IsTable-released}
use Rattle.plain_cat.specs.Modes.{rank}
use Rattle.plain_cat.specs.declared.mode.Mode.{Mode}
use Rattle.plain_cat.specs.declared.mode.Mode.TheVariants.{NL, CR, CW, PR, PW}
use Rattle.base_words.specs.Lists.{Has}
use Rattle.base_words.proofs.Listing.{same_or_not, has_first}
use Rattle.node_locks.specs.Held.{has_lock, system_of, Row, joined, names_of, IsGranted, HoldsItsLocks, AreHeld, waits_at, held_locks, all_held, without, taken_out, put_in, with_rows}
use Rattle.node_locks.specs.HeldLaws.{StandsStill, GoesOn, IsMoved, IsLowered, IsGivenBack}
use Rattle.node_locks.specs.Taking.{taken, taken_now, MayTake, IsTaken}
use Rattle.node_locks.proofs.Taking.{taking_holds, taking_keeps}
use Rattle.node_locks.proofs.Moving.{moving_holds}
use Rattle.node_locks.proofs.Lowering.{lowering_holds}
use Rattle.node_locks.proofs.Giving.{giving_holds}
use Rattle.node_locks.proofs.Keeping.{all_are_held, held_are_granted, rest_goes_on}
use Rattle.core_state.proofs.Naming.{same_name}
use Rattle.node_locks.proofs.Nodes.{rows_here}
use Rattle.node_locks.proofs.Standing.{still-then, goes-then}
use Rattle.core_state.proofs.Lasting.{still_lasting}

other_rows : (rows : ℕ → List Row) (n : ℕ) (own : List Row) (m : ℕ) → m ≢ n → with_rows rows n own m ≡ rows m
other_rows rows n own m ne = grind (arith, nat_tests)

-- rows that are set twice are set once
pub rows_twice : (t : List Resource) (rows : ℕ → List Row) (n : ℕ) (a b : List Row) → AreHeld t (with_rows (with_rows rows n a) n b) → AreHeld t (with_rows rows n b)
rows_twice t rows n a b held m = subst (λ (rs : List Row). HoldsItsLocks t m rs) (same m) (held m) where
  same : (m : ℕ) → with_rows (with_rows rows n a) n b m ≡ with_rows rows n b m
  same m = elim (same_or_not m n) [
    | inl e ↦ ap (with_rows (with_rows rows n a) n b) e ∙ rows_here (with_rows rows n a) n b ∙ sym (ap (with_rows rows n b) e ∙ rows_here rows n b)
    | inr ne ↦ other_rows (with_rows rows n a) n b m ne ∙ other_rows rows n a m ne ∙ sym (other_rows rows n b m ne)
  ]

-- rows that are what they are
pub rows_same : (t : List Resource) (rows : ℕ → List Row) (n : ℕ) (own : List Row) → rows n ≡ own → AreHeld t rows → AreHeld t (with_rows rows n own)
rows_same t rows n own is held m = elim (same_or_not m n) [
  | inl e ↦ subst (λ (rs : List Row). HoldsItsLocks t m rs) (ap rows e ∙ is ∙ sym (ap (with_rows rows n own) e ∙ rows_here rows n own)) (held m)
  | inr ne ↦ subst (λ (rs : List Row). HoldsItsLocks t m rs) (sym (other_rows rows n own m ne)) (held m)
]

without_one : (l : LockName × Mode) → without l.0 (l ∷ []) ≡ []
without_one l = ap (λ (b : Bool). cond (not b) (l ∷ []) []) (is_same-refl l.0)

-- ---- what was claimed is kept

-- none, or one lock
abbrev pub IsFew : Row → Type 0
IsFew claims = (claims ≡ []) ⊎ ((l : LockName × Mode) × (claims ≡ l ∷ []))

-- what is left of node n's rows then
pub record AreMoved (t : List Resource) (n : ℕ) (rows : ℕ → List Row) (kept asked : Row) : Type 0 where
  pub held : AreHeld t (with_rows rows n (kept ∷ (asked ∷ ([] ∷ []))))
  pub rests : waits_at t n kept ≡ false

moves_none : (t : List Resource) (n : ℕ) (rows : ℕ → List Row) (kept asked : Row) → AreHeld t rows → rows n ≡ kept ∷ (asked ∷ ([] ∷ [])) → waits_at t n kept ≡ false → AreMoved t n rows (kept ++ []) asked
moves_none t n rows kept asked held is rests = subst (λ (k : Row). AreMoved t n rows k asked) (sym (append-nil kept)) (record { held = rows_same t rows n (kept ∷ (asked ∷ ([] ∷ []))) is held; rests = rests })

moves_one : (t : List Resource) (n : ℕ) (rows : ℕ → List Row) (kept asked : Row) (l : LockName × Mode) → AreHeld t rows → rows n ≡ kept ∷ (asked ∷ ((l ∷ []) ∷ [])) → waits_at t n kept ≡ false → waits_at t n (l ∷ []) ≡ false → AreMoved t n rows (kept ++ l ∷ []) asked
moves_one t n rows kept asked l held is rests free =
    let own : List Row = kept ∷ (asked ∷ ((l ∷ []) ∷ [])) in
    let moved : IsMoved n 2 0 (l ∷ []) kept l own rows t = moving_holds t n 2 0 (l ∷ []) kept l own rows held is refl (inl refl) free refl rests in
    record {
      held = subst (λ (c : Row). AreHeld t (with_rows rows n ((kept ++ l ∷ []) ∷ (asked ∷ (c ∷ []))))) (without_one l) moved.held;
      rests = moved.last.waits;
    }

pub claims_move : (t : List Resource) (n : ℕ) (rows : ℕ → List Row) (kept asked claims : Row) → AreHeld t rows → rows n ≡ kept ∷ (asked ∷ (claims ∷ [])) → waits_at t n kept ≡ false → waits_at t n claims ≡ false → IsFew claims → AreMoved t n rows (kept ++ claims) asked
claims_move t n rows kept asked claims held is rests free (inl e) =
    subst (λ (c : Row). AreMoved t n rows (kept ++ c) asked) (sym e) (moves_none t n rows kept asked held (subst (λ (c : Row). rows n ≡ kept ∷ (asked ∷ (c ∷ []))) e is) rests)
claims_move t n rows kept asked claims held is rests free (inr k) =
    subst (λ (c : Row). AreMoved t n rows (kept ++ c) asked) (sym k.1)
    (moves_one t n rows kept asked k.0 held (subst (λ (c : Row). rows n ≡ kept ∷ (asked ∷ (c ∷ []))) k.1 is) rests (subst (λ (c : Row). waits_at t n c ≡ false) k.1 free))

-- ---- a lock is taken

pub lock_granted : (t : List Resource) (n : ℕ) (name : LockName) (mode : Mode) → IsGranted t n (name, mode) → lock_of (system_of n) (resource_at name t).askers ≡ Some mode
lock_granted t n name mode g = rw g refl

taken_leaves : (name other : LockName) (n : ℕ) (mode : Mode) (t : List Resource) → other ≢ name → resource_at other (taken name (system_of n) mode t) ≡ resource_at other t
taken_leaves name other n mode t ne = by_lock (has_lock name (system_of n) t) where
  by_lock : (b : Bool) → resource_at other (cond b (converted name (system_of n) mode (resource_at name t).value t) (asked name (system_of n) mode t)) ≡ resource_at other t
  by_lock true = converted-leaves name (system_of n) mode (resource_at name t).value t other ne
  by_lock false = asked-leaves name (system_of n) mode t other ne

-- a lock in CR or more stays
stays_granted : (name : LockName) (n : ℕ) (mode : Mode) (t : List Resource) (l : LockName × Mode) → MayTake name (system_of n) t → rank CR ≤ rank l.1 → IsGranted t n l → IsGranted (taken name (system_of n) mode t) n l
stays_granted name n mode t l may strong g = elim (same_name l.0 name) [
  | inl e ↦ absurd (no_other e may)
  | inr ne ↦ ap (λ (r : Resource). standing_of (system_of n) r.askers) (taken_leaves name l.0 n mode t ne) ∙ g
] where
  no_other : l.0 ≡ name → MayTake name (system_of n) t → ⊥
  no_other e (inl none) = absurd (let f : Some (Granted l.1) ≡ None = sym g ∙ subst (λ (k : LockName). standing_of (system_of n) (resource_at k t).askers ≡ None) (sym e) none in cc)
  no_other e (inr lock) =
      let f : Some l.1 ≡ Some NL = sym (lock_granted t n l.0 l.1 g) ∙ subst (λ (k : LockName). lock_of (system_of n) (resource_at k t).askers ≡ Some NL) (sym e) lock in
      let h : l.1 ≡ NL = cc in
      let le : rank CR ≤ rank NL = subst (λ (m : Mode). rank CR ≤ rank m) h strong in
      absurd (omega arith)

-- what is left of the rows where node n, which had these, has taken a lock
pub record HasTakenIt (t : List Resource) (n : ℕ) (name : LockName) (old own : List Row) (rows : ℕ → List Row) (after : List Resource) : Type 0 where
  pub may : MayTake name (system_of n) t
  pub table : IsTable after
  pub held : AreHeld after (with_rows rows n own)
  pub strong : (l : LockName × Mode) → rank CR ≤ rank l.1 → Has (all_held t n old) l → Has (all_held after n own) l
  pub others : (m : ℕ) (ls : Row) → m ≢ n → StandsStill t after m ls
  pub lasting : (m : ℕ) (other : LockName) → has_lock other (system_of m) t ≡ true → has_lock other (system_of m) after ≡ true

-- Behind the second row, which waits for nothing, or as the one of the third row, which is empty.
module _ (t : List Resource) (n : ℕ) (name : LockName) (mode : Mode) (rows : ℕ → List Row) (kept asked claims : Row) (is : IsTable t) (held : AreHeld t rows) (at : rows n ≡ kept ∷ (asked ∷ (claims ∷ []))) (rests : waits_at t n kept ≡ false)
    (new : (Has (names_of (joined (kept ∷ (asked ∷ (claims ∷ []))))) name → ⊥) ⊎ Has kept (name, NL)) where
  abbrev old : List Row
  old = kept ∷ (asked ∷ (claims ∷ []))

  abbrev after : List Resource
  after = taken name (system_of n) mode t

  abbrev with_it : ℕ → List Row
  with_it k = put_in k (name, mode) (taken_out 0 name old)

  mine : HoldsItsLocks t n old
  mine = subst (λ (rs : List Row). HoldsItsLocks t n rs) at (held n)

  strong_by : (k : ℕ) → MayTake name (system_of n) t → AreHeld after (with_rows rows n (with_it k)) → (l : LockName × Mode) → rank CR ≤ rank l.1 → Has (all_held t n old) l → Has (all_held after n (with_it k)) l
  strong_by k may held_then l le h =
      let its : HoldsItsLocks after n (with_it k) = subst (λ (rs : List Row). HoldsItsLocks after n rs) (rows_here rows n (with_it k)) (held_then n) in
      (held_are_granted after n l (with_it k) its).1 (stays_granted name n mode t l may le ((held_are_granted t n l old mine).0 h))

  -- nobody loses a lock
  all_lasting : {other : LockName} → ((k : LockName) → has_lock k (system_of n) t ≡ true → has_lock k (system_of n) after ≡ true) → ((m : ℕ) → m ≢ n → StandsStill t after m ((other, NL) ∷ []))
      → (m : ℕ) → has_lock other (system_of m) t ≡ true → has_lock other (system_of m) after ≡ true
  all_lasting {other} own others m h = elim (same_or_not m n) [
    | inl e ↦ subst (λ (k : ℕ). has_lock other (system_of k) after ≡ true) (sym e) (own other (subst (λ (k : ℕ). has_lock other (system_of k) t ≡ true) e h))
    | inr ne ↦ still_lasting t after m other (others m ne) h
  ]

  -- it is the last of the second row
  pub record IsAskedLast : Type 0 where
    pub took : HasTakenIt t n name old (without name kept ∷ ((asked ++ (name, mode) ∷ []) ∷ (claims ∷ []))) rows after
    pub waits : waits_at after n (asked ++ (name, mode) ∷ []) ≡ not (taken_now name (system_of n) mode t)
    pub rests_then : waits_at after n (without name kept) ≡ false
    pub claims_still : StandsStill t after n claims

  pub asks_last : waits_at t n asked ≡ false → IsAskedLast
  asks_last free =
      let it : IsTaken n 0 1 kept asked (name, mode) old rows t after = taking_holds t n 0 1 kept asked (name, mode) old rows is held at refl rests new refl free in
      record {
        took = record {
          may = it.may;
          table = taking_keeps t name (system_of n) mode is it.may;
          held = it.held;
          strong = strong_by 1 it.may it.held;
          others = λ m ls ne. it.others m ls ne;
          lasting = λ m other h. all_lasting it.lasting (λ k ne. it.others k ((other, NL) ∷ []) ne) m h;
        };
        waits = it.waits;
        rests_then = it.left.waits;
        claims_still = it.rest 2 claims (λ e. absurd (omega arith)) (λ e. absurd (omega arith)) refl;
      }

  -- it is the third row
  pub record IsClaimed : Type 0 where
    pub took : HasTakenIt t n name old (without name kept ∷ (asked ∷ ((claims ++ (name, mode) ∷ []) ∷ []))) rows after
    pub waits : waits_at after n (claims ++ (name, mode) ∷ []) ≡ not (taken_now name (system_of n) mode t)
    pub rests_then : waits_at after n (without name kept) ≡ false
    pub asked_still : StandsStill t after n asked

  pub claims_it : waits_at t n claims ≡ false → IsClaimed
  claims_it free =
      let it : IsTaken n 0 2 kept claims (name, mode) old rows t after = taking_holds t n 0 2 kept claims (name, mode) old rows is held at refl rests new refl free in
      record {
        took = record {
          may = it.may;
          table = taking_keeps t name (system_of n) mode is it.may;
          held = it.held;
          strong = strong_by 2 it.may it.held;
          others = λ m ls ne. it.others m ls ne;
          lasting = λ m other h. all_lasting it.lasting (λ k ne. it.others k ((other, NL) ∷ []) ne) m h;
        };
        waits = it.waits;
        rests_then = it.left.waits;
        asked_still = it.rest 1 asked (λ e. absurd (omega arith)) (λ e. absurd (omega arith)) refl;
      }

-- ---- V is lowered

-- what is left of the rows
pub record AreLowered (t : List Resource) (n : ℕ) (own : List Row) (kept asked : Row) (rows : ℕ → List Row) (after : List Resource) : Type 0 where
  pub table : IsTable after
  pub held : AreHeld after (with_rows rows n own)
  pub rests : waits_at after n kept ≡ false
  pub asked_still : StandsStill t after n asked
  pub others : (m : ℕ) (ls : Row) → m ≢ n → Has (rows m) ls → GoesOn t after m ls

module _ (t : List Resource) (n : ℕ) (value : List ℕ) (rows : ℕ → List Row) (kept asked : Row) (is : IsTable t) (held : AreHeld t rows) (at : rows n ≡ kept ∷ (asked ∷ (((V, PW) ∷ []) ∷ []))) (rests : waits_at t n kept ≡ false) (free : waits_at t n ((V, PW) ∷ []) ≡ false) where
  abbrev v_rows : List Row
  v_rows = kept ∷ (asked ∷ (((V, PW) ∷ []) ∷ []))

  abbrev mid : List Resource
  mid = converted V (system_of n) NL value t

  abbrev kept_mid : Row
  kept_mid = kept ++ (V, NL) ∷ []

  abbrev rows_mid : ℕ → List Row
  rows_mid = with_rows rows n (kept_mid ∷ (asked ∷ ([] ∷ [])))

  v_mine : HoldsItsLocks t n v_rows
  v_mine = subst (λ (rs : List Row). HoldsItsLocks t n rs) at (held n)

  v_it : IsLowered n 2 0 ((V, PW) ∷ []) kept (V, NL) v_rows rows t mid
  v_it = lowering_holds t n 2 0 ((V, PW) ∷ []) kept (V, PW) NL value v_rows rows is held at refl (inl refl) free refl (λ e. absurd (let f : PW ≡ PR = e in cc)) refl rests

  pub v_lock : IsGranted t n (V, PW) → lock_of (system_of n) (resource_at V t).askers ≡ Some PW
  v_lock g = lock_granted t n V PW g

  v_table : IsGranted t n (V, PW) → IsTable mid
  v_table g = IsTable-converted V (system_of n) NL value t is (ap is_some (v_lock g)) (λ e f. absurd (let h : NL ≡ CW = f in cc))

  pub v_lowers : IsGranted t n (V, PW) → AreLowered t n (kept_mid ∷ (asked ∷ ([] ∷ []))) kept_mid asked rows mid
  v_lowers g = record {
    table = v_table g;
    held = v_it.held;
    rests = v_it.last.waits;
    asked_still = v_it.rest 1 asked (λ e. absurd (omega arith)) (λ e. absurd (omega arith)) refl;
    others = λ m ls ne h. v_it.others m ls ne h;
  }

  -- and behind v_it X, which is kept
  module _ (mode : Mode) (has : Has kept (X, mode)) (g : IsGranted t n (V, PW)) where
    first : AreLowered t n (kept_mid ∷ (asked ∷ ([] ∷ []))) kept_mid asked rows mid
    first = v_lowers g

    there : Has kept_mid (X, mode)
    there = has_in kept has where
      has_in : (ls : Row) → Has ls (X, mode) → Has (ls ++ (V, NL) ∷ []) (X, mode)
      has_in [] h = absurd h
      has_in (l ∷ ls) (inl e) = inl e
      has_in (l ∷ ls) (inr h) = inr (has_in ls h)

    named : Has (names_of kept_mid) X
    named = name_in kept_mid there where
      name_in : (ls : Row) → Has ls (X, mode) → Has (names_of ls) X
      name_in [] h = absurd h
      name_in (l ∷ ls) (inl e) = inl (ap (λ (k : LockName × Mode). k.0) e)
      name_in (l ∷ ls) (inr h) = inr (name_in ls h)

    at_mid : rows_mid n ≡ kept_mid ∷ (asked ∷ ([] ∷ []))
    at_mid = rows_here rows n (kept_mid ∷ (asked ∷ ([] ∷ [])))

    mine_mid : HoldsItsLocks mid n (kept_mid ∷ (asked ∷ ([] ∷ [])))
    mine_mid = subst (λ (rs : List Row). HoldsItsLocks mid n rs) at_mid (first.held n)

    less_rests : waits_at mid n (without X kept_mid) ≡ false
    less_rests = (rest_goes_on mid n X kept_mid (kept_mid ∷ (asked ∷ ([] ∷ []))) mine_mid (inl refl) first.rests).waits

    others_mid : (m : ℕ) (ls : Row) → m ≢ n → Has (rows m) ls → Has (rows_mid m) ls
    others_mid m ls ne h = subst (λ (rs : List Row). Has rs ls) (sym (other_rows rows n (kept_mid ∷ (asked ∷ ([] ∷ []))) m ne)) h

    pub x_lock : lock_of (system_of n) (resource_at X mid).askers ≡ Some mode
    x_lock = lock_granted mid n X mode ((held_are_granted mid n (X, mode) (kept_mid ∷ (asked ∷ ([] ∷ []))) mine_mid).0
        (has_first (held_locks mid n kept_mid) (all_held mid n (asked ∷ ([] ∷ []))) (X, mode) (subst (λ (ls : Row). Has ls (X, mode)) (sym (all_are_held mid n kept_mid first.rests)) there)))

    -- lowered
    pub x_lowers : is_upward mode NL ≡ false → (mode ≡ PR → ⊥) → AreLowered t n ((without X kept_mid ++ (X, NL) ∷ []) ∷ (asked ∷ ([] ∷ []))) (without X kept_mid ++ (X, NL) ∷ []) asked rows (converted X (system_of n) NL (resource_at X mid).value mid)
    x_lowers low not_pr =
        let own : List Row = kept_mid ∷ (asked ∷ ([] ∷ [])) in
        let after : List Resource = converted X (system_of n) NL (resource_at X mid).value mid in
        let so : IsLowered n 0 0 kept_mid (without X kept_mid) (X, NL) own rows_mid mid after
        = lowering_holds mid n 0 0 kept_mid (without X kept_mid) (X, mode) NL (resource_at X mid).value own rows_mid first.table first.held at_mid refl there first.rests low (λ e. absurd (not_pr e)) refl less_rests in
        record {
          table = IsTable-converted X (system_of n) NL (resource_at X mid).value mid first.table (ap is_some x_lock) (λ e f. absurd (let h : NL ≡ CW = f in cc));
          held = rows_twice after rows n own ((without X kept_mid ++ (X, NL) ∷ []) ∷ (asked ∷ ([] ∷ []))) so.held;
          rests = so.last.waits;
          asked_still = still-then t mid after n asked first.asked_still (so.rest 1 asked (λ e. absurd (omega arith)) (λ e. absurd (omega arith)) refl);
          others = λ m ls ne h. goes-then t mid after m ls (first.others m ls ne h) (so.others m ls ne (others_mid m ls ne h));
        }

    -- or given back
    pub x_returns : AreLowered t n (without X kept_mid ∷ (asked ∷ ([] ∷ []))) (without X kept_mid) asked rows (released X (system_of n) (resource_at X mid).value mid)
    x_returns =
        let own : List Row = kept_mid ∷ (asked ∷ ([] ∷ [])) in
        let after : List Resource = released X (system_of n) (resource_at X mid).value mid in
        let so : IsGivenBack n 0 kept_mid X own rows_mid mid after = giving_holds mid n 0 kept_mid X (resource_at X mid).value own rows_mid first.table first.held at_mid refl named first.rests in
        record {
          table = IsTable-released X (system_of n) (resource_at X mid).value mid first.table;
          held = rows_twice after rows n own (without X kept_mid ∷ (asked ∷ ([] ∷ []))) so.held;
          rests = so.left.waits;
          asked_still = still-then t mid after n asked first.asked_still (so.rest 1 asked (λ e. absurd (omega arith)) refl);
          others = λ m ls ne h. goes-then t mid after m ls (first.others m ls ne h) (so.others m ls ne (others_mid m ls ne h));
        }
