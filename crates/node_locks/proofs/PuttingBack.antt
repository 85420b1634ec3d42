-- What is left once all locks of a row are put back.
use Rattle.std.proofs.Common.{◌≡◌, ◌≢◌, ℕ, suc, false, List, [], ◌∷◌, ◌++◌, Option, Some, None, IsSome, slice_get, refl, ap, sym, subst, ◌∙◌, inl, inr, arith}
use Rattle.std.proofs.lemmas.List.{append-nil, append_assoc}
use Rattle.plain_cat.specs.declared.mode.Mode.{Mode}
use Rattle.plain_cat.specs.declared.mode.Mode.TheVariants.{PR, CW}
use Rattle.lock_db.specs.declared.name.LockName.{LockName}
use Rattle.lock_db.specs.declared.resource.Resource.{Resource}
use Rattle.lock_db.specs.Queues.{is_upward, lock_of}
use Rattle.lock_db.specs.Tables.{IsTable, resource_at, converted, released}
use Rattle.lock_db.proofs.Steps.{IsTable-released, IsTable-converted}
use Rattle.base_words.specs.Lists.{Has, Once}
use Rattle.base_words.proofs.Listing.{once_first, once_second}
use Rattle.node_locks.specs.Held.{system_of, Row, names_of, IsGranted, HoldsItsLocks, AreHeld, waits_at, without, taken_out, put_in, with_rows}
use Rattle.node_locks.specs.HeldLaws.{StandsStill, GoesOn, IsLowered, IsGivenBack}
use Rattle.node_locks.specs.PuttingBack.{put_back, all_back, kept_by, kept_of, IsLow, ArePutBack, PuttingBackHolds}
use Rattle.node_locks.proofs.Standing.{AllGranted, granted-all, still-same, still-then, goes-same, goes-then}
use Rattle.node_locks.proofs.Nodes.{rows_here, rows_else, rows_twice, rows_same}
use Rattle.node_locks.proofs.Rows.{all_names, once-parts, order-at, without-first}
use Rattle.node_locks.proofs.Moving.{is-held}
use Rattle.node_locks.proofs.Lowering.{lowering_holds}
use Rattle.node_locks.proofs.Giving.{giving_holds}

-- one lock is put back: the first of the second row
record IsPutBack (n : ℕ) (kept ls : Row) (rest : List Row) (rows : ℕ → List Row) (t after : List Resource) : Type 0 where
  table : IsTable after
  held : AreHeld after (with_rows rows n (kept ∷ (ls ∷ rest)))
  first : waits_at after n kept ≡ false
  second : waits_at after n ls ≡ false
  still : (xs : Row) → Has rest xs → StandsStill t after n xs
  others : (m : ℕ) (xs : Row) → m ≢ n → Has (rows m) xs → GoesOn t after m xs

-- a row is at a place
pub place : (rest : List Row) (xs : Row) → Has rest xs → (j : ℕ) × (slice_get rest j ≡ Some xs)
place [] xs i = absurd i
place (r ∷ rest) xs i = elim i [ inl e ↦ (0, ap (λ (x : Row). Some x) e) | inr h ↦ let p = place rest xs h in (suc p.0, p.1) ]

module _ (t : List Resource) (n : ℕ) (kept : Row) (l : LockName × Mode) (ls : Row) (rest : List Row) (rows : ℕ → List Row) (value : List ℕ) (is : IsTable t) (held : AreHeld t rows) (at_own : rows n ≡ kept ∷ ((l ∷ ls) ∷ rest))
    (idle : waits_at t n kept ≡ false) (free : waits_at t n (l ∷ ls) ≡ false) where
  mine : HoldsItsLocks t n (kept ∷ ((l ∷ ls) ∷ rest))
  mine = rw at_own at (held n)

  goes : without l.0 (l ∷ ls) ≡ ls
  goes =
      let behind : Once (all_names ((l ∷ ls) ∷ rest)) = once_second (names_of kept) (all_names ((l ∷ ls) ∷ rest)) (once-parts kept ((l ∷ ls) ∷ rest) mine.once) in
      without-first l ls (once_first (names_of (l ∷ ls)) (all_names rest) (once-parts (l ∷ ls) rest behind))

  out : taken_out 1 l.0 (kept ∷ ((l ∷ ls) ∷ rest)) ≡ kept ∷ (ls ∷ rest)
  out = ap (λ (x : Row). kept ∷ (x ∷ rest)) goes

  lock : lock_of (system_of n) (resource_at l.0 t).askers ≡ Some l.1
  lock =
      let all : AllGranted t n (l ∷ ls) = granted-all t n (l ∷ ls) (order-at t n (kept ∷ ((l ∷ ls) ∷ rest)) 1 (l ∷ ls) mine.in_order refl) free in
      let g : IsGranted t n l = all.0 in
      rw g refl

  given : IsPutBack n kept ls rest rows t (released l.0 (system_of n) value t)
  given =
      let u : List Resource = released l.0 (system_of n) value t in
      let by : IsGivenBack n 1 (l ∷ ls) l.0 (kept ∷ ((l ∷ ls) ∷ rest)) rows t u = giving_holds t n 1 (l ∷ ls) l.0 value (kept ∷ ((l ∷ ls) ∷ rest)) rows is held at_own refl (inl refl) free in
      let same : StandsStill t u n kept = by.rest 0 kept (λ e. absurd (omega arith)) refl in
      record {
        table = IsTable-released l.0 (system_of n) value t is;
        held = subst (λ (x : List Row). AreHeld u (with_rows rows n x)) out by.held;
        first = same.waits ∙ idle;
        second = rw goes at by.left.waits;
        still = λ xs i. let p = place rest xs i in by.rest (suc (suc p.0)) xs (λ e. absurd (omega arith)) p.1;
        others = by.others;
      }

  lowered : (low : Mode) → is_upward l.1 low ≡ false → (l.1 ≡ PR → low ≡ CW → ⊥) → IsPutBack n (kept ++ (l.0, low) ∷ []) ls rest rows t (converted l.0 (system_of n) low value t)
  lowered low down across =
      let u : List Resource = converted l.0 (system_of n) low value t in
      let by : IsLowered n 1 0 (l ∷ ls) kept (l.0, low) (kept ∷ ((l ∷ ls) ∷ rest)) rows t u = lowering_holds t n 1 0 (l ∷ ls) kept l low value (kept ∷ ((l ∷ ls) ∷ rest)) rows is held at_own refl (inl refl) free down across refl idle in
      let some : IsSome (lock_of (system_of n) (resource_at l.0 t).askers) = rw lock refl in
      record {
        table = IsTable-converted l.0 (system_of n) low value t is some (λ e. across (let k : Some l.1 ≡ Some PR = sym lock ∙ e in cc));
        held = subst (λ (x : List Row). AreHeld u (with_rows rows n x)) (ap (put_in 0 (l.0, low)) out) by.held;
        first = by.last.waits;
        second = rw goes at by.left.waits;
        still = λ xs i. let p = place rest xs i in by.rest (suc (suc p.0)) xs (λ e. absurd (omega arith)) (λ e. absurd (omega arith)) p.1;
        others = by.others;
      }

  one-back : (o : Option Mode) → IsLow l.1 o → IsPutBack n (kept ++ kept_by l o) ls rest rows t (put_back n value l o t)
  one-back None low = rw (append-nil kept) given
  one-back (Some m) low = lowered m low.0 low.1

pub putting_back_holds : PuttingBackHolds
putting_back_holds keeps values t n kept [] rest rows is held own idle free low = (
  tt,
  record {
    table = is;
    held = λ m. subst (λ (x : List Row). HoldsItsLocks t m x) (with-same m) (held m);
    own = rw (append-nil kept) (is-held t n kept (granted-all t n kept (order-at t n (rows n) 0 kept mine.in_order (rw own refl)) idle));
    still = λ xs i. still-same t n xs;
    others = λ m xs d i. goes-same t m xs;
  },
) where
  mine : HoldsItsLocks t n (rows n)
  mine = held n

  with-same : (m : ℕ) → rows m ≡ with_rows rows n ((kept ++ []) ∷ ([] ∷ rest)) m
  with-same m = rw (append-nil kept, ← own) (rows_same rows n m)
putting_back_holds keeps values t n kept (l ∷ ls) rest rows is held own idle free low =
    let value : List ℕ = values l t in
    let u : List Resource = put_back n value l (keeps l) t in
    let next : Row = kept ++ kept_by l (keeps l) in
    let after : List Resource = all_back n keeps values ls u in
    let one : IsPutBack n next ls rest rows t u = one-back t n kept l ls rest rows value is held own idle free (keeps l) (low l (inl refl)) in
    let then : ℕ → List Row = with_rows rows n (next ∷ (ls ∷ rest)) in
    let all = putting_back_holds keeps values u n next ls rest then one.table one.held (rows_here rows n (next ∷ (ls ∷ rest))) one.first one.second (λ k i. low k (inr i)) in
    let by : ArePutBack n (next ++ kept_of keeps ls) rest then u after = all.1 in
    let same : next ++ kept_of keeps ls ≡ kept ++ (kept_by l (keeps l) ++ kept_of keeps ls) = append_assoc kept (kept_by l (keeps l)) (kept_of keeps ls) in (
      (lock t n kept l ls rest rows value is held own idle free, all.0),
      subst (λ (x : Row). ArePutBack n x rest rows t after) same (record {
        table = by.table;
        held = λ m. subst (λ (x : List Row). HoldsItsLocks after m x) (rows_twice rows n (next ∷ (ls ∷ rest)) ((next ++ kept_of keeps ls) ∷ ([] ∷ rest)) m) (by.held m);
        own = by.own;
        still = λ xs i. let a : StandsStill t u n xs = one.still xs i in let b : StandsStill u after n xs = by.still xs i in still-then t u after n xs a b;
        others = λ m xs d i.
            let a : GoesOn t u m xs = one.others m xs d i in
            let b : GoesOn u after m xs = by.others m xs d (subst (λ (x : List Row). Has x xs) (sym (rows_else rows n (next ∷ (ls ∷ rest)) m d)) i) in
            goes-then t u after m xs a b;
      }),
    )
