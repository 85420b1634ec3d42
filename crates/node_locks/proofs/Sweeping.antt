-- What is left once some locks of a row are given back.
use Rattle.std.proofs.Common.{◌≡◌, ℕ, List, [], ◌∷◌, IsSome, refl, sym, ap, subst, ◌∙◌, inl, inr}
use Rattle.lock_db.specs.declared.name.LockName.{LockName}
use Rattle.lock_db.specs.declared.resource.Resource.{Resource}
use Rattle.lock_db.specs.Queues.{lock_of}
use Rattle.lock_db.specs.Tables.{resource_at, released}
use Rattle.lock_db.proofs.Steps.{IsTable-released}
use Rattle.base_words.specs.Lists.{Has}
use Rattle.node_locks.specs.Held.{system_of, Row, names_of, IsGranted, HoldsItsLocks, without, taken_out, with_rows}
use Rattle.node_locks.specs.HeldLaws.{StandsStill, GoesOn, IsGivenBack}
use Rattle.node_locks.specs.Sweeping.{all_given, without_all, all_taken_out, AreSwept, SweepingHolds, AllGo}
use Rattle.node_locks.proofs.Standing.{AllGranted, granted-all, still-same, still-then, goes-same, goes-then}
use Rattle.node_locks.proofs.Nodes.{rows_here, rows_else, rows_twice, rows_same}
use Rattle.node_locks.proofs.Rows.{order-at, without-stays, without-first, taken-at, taken-else}
use Rattle.node_locks.proofs.Moving.{is-held}
use Rattle.node_locks.proofs.Giving.{giving_holds}

-- a lock on a name is granted
some-lock : (t : List Resource) (n : ℕ) (ls : Row) (name : LockName) → AllGranted t n ls → Has (names_of ls) name → IsSome (lock_of (system_of n) (resource_at name t).askers)
some-lock t n [] name g i = absurd i
some-lock t n (l ∷ ls) name g i = elim i [
  | inl e ↦ let one : IsGranted t n l = g.0 in let there : IsSome (lock_of (system_of n) (resource_at l.0 t).askers) = rw one refl in subst (λ (x : LockName). IsSome (lock_of (system_of n) (resource_at x t).askers)) e there
  | inr r ↦ some-lock t n ls name g.1 r
]

pub sweeping_holds : SweepingHolds
sweeping_holds values t n i ls [] own rows is held at_own from idle once in_row =
    let mine : HoldsItsLocks t n own = rw at_own at (held n) in (
      tt,
      record {
        table = is;
        held = λ m. subst (λ (x : List Row). HoldsItsLocks t m x) (with-same m) (held m);
        row = is-held t n ls (granted-all t n ls (order-at t n own i ls mine.in_order from) idle);
        rest = λ j xs ne at. still-same t n xs;
        others = λ m xs d j. goes-same t m xs;
      },
    ) where
      with-same : (m : ℕ) → rows m ≡ with_rows rows n own m
      with-same m = rw (← at_own) (rows_same rows n m)
sweeping_holds values t n i ls (name ∷ names) own rows is held at_own from idle once in_row =
    let value : List ℕ = values name t in
    let u : List Resource = released name (system_of n) value t in
    let next : Row = without name ls in
    let out : List Row = taken_out i name own in
    let after : List Resource = all_given n values names u in
    let mine : HoldsItsLocks t n own = rw at_own at (held n) in
    let granted : AllGranted t n ls = granted-all t n ls (order-at t n own i ls mine.in_order from) idle in
    let one : IsGivenBack n i ls name own rows t u = giving_holds t n i ls name value own rows is held at_own from (in_row name (inl refl)) idle in
    let then : ℕ → List Row = with_rows rows n out in
    let all = sweeping_holds values u n i next names out then (IsTable-released name (system_of n) value t is) one.held (rows_here rows n out) (taken-at own i name ls from) one.left.waits once.1
    (λ x j. without-stays name ls x (in_row x (inr j)) (λ e. once.0 (subst (λ (y : LockName). Has names y) e j))) in
    let by : AreSwept n i (without_all names next) (all_taken_out i names out) out then u after = all.1 in (
      (some-lock t n ls name granted (in_row name (inl refl)), all.0),
      record {
        table = by.table;
        held = λ m. subst (λ (x : List Row). HoldsItsLocks after m x) (rows_twice rows n out (all_taken_out i names out) m) (by.held m);
        row = by.row;
        rest = λ j xs ne at.
            let a : StandsStill t u n xs = one.rest j xs ne at in
            let b : StandsStill u after n xs = by.rest j xs ne (taken-else own i j name ne ∙ at) in
            still-then t u after n xs a b;
        others = λ m xs d j.
            let a : GoesOn t u m xs = one.others m xs d j in
            let b : GoesOn u after m xs = by.others m xs d (subst (λ (x : List Row). Has x xs) (sym (rows_else rows n out m d)) j) in
            goes-then t u after m xs a b;
      },
    )

pub all_go : AllGo
all_go [] o = refl
all_go (l ∷ ls) o = ap (without_all (names_of ls)) (without-first l ls o) ∙ all_go ls o.1
