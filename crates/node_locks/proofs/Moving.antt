-- What is left where a lock goes from one row to another.
use Rattle.std.proofs.Common.{◌≡◌, ◌≢◌, ◌⊎◌, ℕ, false, List, [], ◌∷◌, ◌++◌, Some, slice_get, refl, ap, subst, ◌∙◌, inl, inr}
use Rattle.plain_cat.specs.declared.mode.Mode.{Mode}
use Rattle.lock_db.specs.declared.name.LockName.{LockName}
use Rattle.lock_db.specs.declared.resource.Resource.{Resource}
use Rattle.base_words.specs.Lists.{Has}
use Rattle.node_locks.specs.Held.{Row, names_of, IsGranted, IsWaiting, HoldsItsLocks, waits_at, without, taken_out, put_in}
use Rattle.node_locks.specs.HeldLaws.{StandsStill, IsHeld, MovingHolds}
use Rattle.node_locks.proofs.Nodes.{each}
use Rattle.node_locks.proofs.Standing.{AllGranted, stands-still, granted-all, granted-later, waits-granted, held-idle}
use Rattle.node_locks.proofs.Rows.{all_names, AlikeBut, HoldsBut, without-names, granted-without, row-in, rows-apart, order-at, alike-row, but-taken, but-later, but-put}

-- a lock is one that its name is of
pub has-name : (ls : Row) (l : LockName × Mode) → Has ls l → Has (names_of ls) l.0
has-name [] l i = i
has-name (k ∷ ls) l i = elim i [ inl e ↦ inl (ap (λ (x : LockName × Mode). x.0) e) | inr r ↦ inr (has-name ls l r) ]

pub granted-in : (t : List Resource) (n : ℕ) (ls : Row) (l : LockName × Mode) → AllGranted t n ls → Has ls l → IsGranted t n l
granted-in t n [] l g i = absurd i
granted-in t n (k ∷ ls) l g i = elim i [ inl e ↦ rw (← e) g.0 | inr r ↦ granted-in t n ls l g.1 r ]

pub is-held : (t : List Resource) (n : ℕ) (ls : Row) → AllGranted t n ls → IsHeld t n ls
is-held t n ls g = record { waits = waits-granted t n ls g; holds = held-idle t n ls (waits-granted t n ls g) }

-- what is left of the row that the lock is taken from
pub left-held : (name : LockName) (t u : List Resource) (n : ℕ) (ls : Row) → AlikeBut name n t u → AllGranted t n ls → IsHeld u n (without name ls)
left-held name t u n ls a g =
    is-held u n (without name ls) (granted-later t u n (without name ls) (λ k i h. a k.0 (without-names name ls k.0 i).1 ∙ h) (granted-without t n name ls g))

module _ (t u : List Resource) (n i k : ℕ) (ls ms : Row) (l : LockName × Mode) (rows : List Row) (h : HoldsItsLocks t n rows) (from : slice_get rows i ≡ Some ls) (has : Has (names_of ls) l.0)
    (to : slice_get (taken_out i l.0 rows) k ≡ Some ms) (idle : waits_at t n ms ≡ false) (alike : AlikeBut l.0 n t u) (new : IsGranted u n l ⊎ IsWaiting u n l) where
  but : HoldsBut l.0 t n (taken_out i l.0 rows)
  but = but-taken l.0 t n rows i ls h from has

  pub to-granted : AllGranted u n ms
  to-granted =
      granted-later t u n ms (λ x j g. alike x.0 (λ e. but.free (subst (λ (y : LockName). Has (all_names (taken_out i l.0 rows)) y) e (row-in (taken_out i l.0 rows) k ms x.0 to j))) ∙ g)
      (granted-all t n ms (order-at t n (taken_out i l.0 rows) k ms but.in_order to) idle)

  pub goes-over : HoldsItsLocks u n (put_in k l (taken_out i l.0 rows))
  goes-over = but-put u n (taken_out i l.0 rows) k l ms (but-later l.0 t u n (taken_out i l.0 rows) alike but) to to-granted new

-- the rows that the lock is not in
pub rest-still : (name : LockName) (t u : List Resource) (n i j : ℕ) (ls xs : Row) (rows : List Row) → HoldsItsLocks t n rows → slice_get rows i ≡ Some ls → Has (names_of ls) name → AlikeBut name n t u → j ≢ i → slice_get rows j ≡ Some xs
    → StandsStill t u n xs
rest-still name t u n i j ls xs rows h from has a ne at = stands-still n t u xs (alike-row name t u n xs a (λ k. rows-apart rows i j ls xs name h.once from at ne has k))

-- the last lock of a row is granted too
pub granted-push : (t : List Resource) (n : ℕ) (ls : Row) (l : LockName × Mode) → AllGranted t n ls → IsGranted t n l → AllGranted t n (ls ++ l ∷ [])
granted-push t n [] l g k = (k, tt)
granted-push t n (x ∷ ls) l g k = (g.0, granted-push t n ls l g.1 k)

pub moving_holds : MovingHolds
moving_holds t n i k ls ms l own rows held at_own from has left to idle =
    let h : HoldsItsLocks t n own = rw at_own at (held n) in
    let was : AllGranted t n ls = granted-all t n ls (order-at t n own i ls h.in_order from) left in
    let granted : IsGranted t n l = granted-in t n ls l was has in
    let named : Has (names_of ls) l.0 = has-name ls l has in
    let alike : AlikeBut l.0 n t t = λ other d. refl in
    record {
      held = each (λ m v. HoldsItsLocks t m v) rows n (put_in k l (taken_out i l.0 own)) (goes-over t t n i k ls ms l own h from named to idle alike (inl granted)) (λ m d. held m);
      left = left-held l.0 t t n ls alike was;
      last = is-held t n (ms ++ l ∷ []) (granted-push t n ms l (to-granted t t n i k ls ms l own h from named to idle alike (inl granted)) granted);
    }
