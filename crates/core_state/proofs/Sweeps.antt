-- A node puts back all locks of its command and of its rules for space, and of those that it keeps the ones go that do not stay.
use Rattle.std.proofs.Common.{◌≡◌, ◌≢◌, ◌++◌, not, ℕ, Bool, true, false, cond, List, [], ◌∷◌, Option, Some, None, filter, refl, sym, ap, subst, ◌∙◌, inl, inr, arith}
use Rattle.std.proofs.lemmas.Bool.Decides.{nat_tests}
use Rattle.std.proofs.lemmas.List.{append_assoc}
use Rattle.std.proofs.lemmas.List.Elements.{filter-append}
use Rattle.lock_db.specs.Names.{is_same}
use Rattle.lock_db.proofs.Names.{is_same-same, is_same-refl}
use Rattle.lock_db.specs.declared.name.LockName.{LockName}
use Rattle.lock_db.specs.declared.resource.Resource.{Resource}
use Rattle.lock_db.specs.Tables.{IsTable}
use Rattle.plain_cat.specs.declared.mode.Mode.{Mode}
use Rattle.node_locks.specs.Held.{Row, names_of, HoldsItsLocks, AreHeld, waits_at, without, with_rows}
use Rattle.node_locks.specs.HeldLaws.{GoesOn}
use Rattle.node_locks.specs.PuttingBack.{Keeps, Values, put_back, all_back, kept_by, kept_of, IsLow, ArePutBack}
use Rattle.node_locks.specs.Sweeping.{all_given, without_all, all_taken_out, AreSwept}
use Rattle.node_locks.proofs.PuttingBack.{putting_back_holds}
use Rattle.node_locks.proofs.Sweeping.{sweeping_holds}
use Rattle.base_words.specs.Lists.{Has, Once}
use Rattle.base_words.proofs.Listing.{same_or_not}
use Rattle.core_state.proofs.Naming.{without_none}
use Rattle.core_state.proofs.Keeping.{names_parted, names_first}
use Rattle.core_state.proofs.Rows.{rows_twice}
use Rattle.node_locks.proofs.Nodes.{rows_here as own_rows}
use Rattle.node_locks.proofs.Standing.{goes-then}

-- ---- lists

pub has_filter : (p : LockName × Mode → Bool) (ls : Row) (l : LockName × Mode) → Has (filter p ls) l → Has ls l × (p l ≡ true)
has_filter p [] l h = absurd h
has_filter p (k ∷ ls) l h = by_test (p k) refl h (λ t. has_filter p ls l t) where
  by_test : (b : Bool) → p k ≡ b → Has (cond b (k ∷ filter p ls) (filter p ls)) l → (Has (filter p ls) l → Has ls l × (p l ≡ true)) → Has (k ∷ ls) l × (p l ≡ true)
  by_test true e (inl f) rest = (inl f, subst (λ (x : LockName × Mode). p x ≡ true) f e)
  by_test true e (inr t) rest = let r = rest t in (inr r.0, r.1)
  by_test false e t rest = let r = rest t in (inr r.0, r.1)

pub in_filter : (p : LockName × Mode → Bool) (ls : Row) (l : LockName × Mode) → Has ls l → p l ≡ true → Has (filter p ls) l
in_filter p [] l h passes = absurd h
in_filter p (k ∷ ls) l h passes = by_test (p k) refl h (λ t. in_filter p ls l t passes) where
  by_test : (b : Bool) → p k ≡ b → Has (k ∷ ls) l → (Has ls l → Has (filter p ls) l) → Has (cond b (k ∷ filter p ls) (filter p ls)) l
  by_test true e (inl f) rest = inl f
  by_test true e (inr t) rest = inr (rest t)
  by_test false e (inl f) rest = absurd (let g : true ≡ false = sym passes ∙ ap p (sym f) ∙ e in cc)
  by_test false e (inr t) rest = rest t

pub filter_names : (p : LockName × Mode → Bool) (ls : Row) (name : LockName) → Has (names_of (filter p ls)) name → Has (names_of ls) name
filter_names p [] name h = absurd h
filter_names p (k ∷ ls) name h = by_test (p k) h (λ t. filter_names p ls name t) where
  by_test : (b : Bool) → Has (names_of (cond b (k ∷ filter p ls) (filter p ls))) name → (Has (names_of (filter p ls)) name → Has (names_of ls) name) → Has (names_of (k ∷ ls)) name
  by_test true (inl f) rest = inl f
  by_test true (inr t) rest = inr (rest t)
  by_test false t rest = inr (rest t)

pub filter_once : (p : LockName × Mode → Bool) (ls : Row) → Once (names_of ls) → Once (names_of (filter p ls))
filter_once p [] once = tt
filter_once p (k ∷ ls) once = by_test (p k) (filter_once p ls once.1) where
  by_test : (b : Bool) → Once (names_of (filter p ls)) → Once (names_of (cond b (k ∷ filter p ls) (filter p ls)))
  by_test true rest = ((λ h. once.0 (filter_names p ls k.0 h)), rest)
  by_test false rest = rest

pub once_names : (xs ys : Row) → Once (names_of xs) → Once (names_of ys) → ((name : LockName) → Has (names_of xs) name → Has (names_of ys) name → ⊥) → Once (names_of (xs ++ ys))
once_names [] ys a b apart = b
once_names (x ∷ xs) ys a b apart = (
  (λ h. elim (names_parted xs ys x.0 h) [ inl t ↦ a.0 t | inr t ↦ apart x.0 (inl refl) t ]),
  once_names xs ys a.1 b (λ name t u. apart name (inr t) u),
)

other_name : (k : LockName × Mode) (name : LockName) → k.0 ≢ name → is_same k.0 name ≡ false
other_name k name ne = by_test (is_same k.0 name) refl where
  by_test : (b : Bool) → is_same k.0 name ≡ b → is_same k.0 name ≡ false
  by_test true e = absurd (ne (is_same-same k.0 name e))
  by_test false e = e

-- a lock on another name stays
stays_in : (names : List LockName) (k : LockName × Mode) (ls : Row) → (Has names k.0 → ⊥) → without_all names (k ∷ ls) ≡ k ∷ without_all names ls
stays_in [] k ls none = refl
stays_in (name ∷ names) k ls none =
    ap (λ b. without_all names (cond (not b) (k ∷ without name ls) (without name ls))) (other_name k name (λ e. none (inl (sym e))))
    ∙ stays_in names k (without name ls) (λ h. none (inr h))

-- without the names of those that do not stay, those that stay are left
all_left : (p : LockName × Mode → Bool) (ls : Row) → Once (names_of ls) → without_all (names_of (filter (λ l. not (p l)) ls)) ls ≡ filter p ls
all_left p [] once = refl
all_left p (k ∷ ls) once = by_test (p k) (all_left p ls once.1) where
  gone : Row
  gone = filter (λ l. not (p l)) ls

  by_test : (b : Bool) → without_all (names_of gone) ls ≡ filter p ls → without_all (names_of (cond (not b) (k ∷ gone) gone)) (k ∷ ls) ≡ cond b (k ∷ filter p ls) (filter p ls)
  by_test true rest = stays_in (names_of gone) k ls (λ h. once.0 (filter_names (λ l. not (p l)) ls k.0 h)) ∙ ap (λ ks. k ∷ ks) rest
  by_test false rest =
      ap (λ b. without_all (names_of gone) (cond (not b) (k ∷ without k.0 ls) (without k.0 ls))) (is_same-refl k.0)
      ∙ ap (without_all (names_of gone)) (without_none ls k.0 once.0) ∙ rest

pub out_first : (names : List LockName) (ls : Row) (rest : List Row) → all_taken_out 0 names (ls ∷ rest) ≡ without_all names ls ∷ rest
out_first [] ls rest = refl
out_first (name ∷ names) ls rest = out_first names (without name ls) rest

-- without some names two rows in a row
without_both : (names : List LockName) (ls ks : Row) → without_all names (ls ++ ks) ≡ without_all names ls ++ without_all names ks
without_both [] ls ks = refl
without_both (name ∷ names) ls ks = ap (without_all names) (filter-append (λ (l : LockName × Mode). not (is_same l.0 name)) ls ks) ∙ without_both names (without name ls) (without name ks)

-- without names that are on none of them all stay
without_apart : (names : List LockName) (ls : Row) → ((name : LockName) → Has names name → Has (names_of ls) name → ⊥) → without_all names ls ≡ ls
without_apart [] ls apart = refl
without_apart (name ∷ names) ls apart = ap (without_all names) (without_none ls name (apart name (inl refl))) ∙ without_apart names ls (λ k h. apart k (inr h))

-- ---- locks that are put back

-- those of two rows go one row after the other
pub back_both : (n : ℕ) (keeps : Keeps) (values : Values) (ls ks : Row) (t : List Resource) → all_back n keeps values (ls ++ ks) t ≡ all_back n keeps values ks (all_back n keeps values ls t)
back_both n keeps values [] ks t = refl
back_both n keeps values (l ∷ ls) ks t = back_both n keeps values ls ks (put_back n (values l t) l (keeps l) t)

kept_both : (keeps : Keeps) (ls ks : Row) → kept_of keeps (ls ++ ks) ≡ kept_of keeps ls ++ kept_of keeps ks
kept_both keeps [] ks = refl
kept_both keeps (l ∷ ls) ks = ap (λ (rest : Row). kept_by l (keeps l) ++ rest) (kept_both keeps ls ks) ∙ sym (append_assoc (kept_by l (keeps l)) (kept_of keeps ls) (kept_of keeps ks))

-- what is kept of them is on their names
kept_names : (keeps : Keeps) (ls : Row) (name : LockName) → Has (names_of (kept_of keeps ls)) name → Has (names_of ls) name
kept_names keeps [] name h = absurd h
kept_names keeps (l ∷ ls) name h = by_mode (keeps l) (kept_names keeps ls name) h where
  by_mode : (o : Option Mode) → (Has (names_of (kept_of keeps ls)) name → Has (names_of ls) name) → Has (names_of (kept_by l o ++ kept_of keeps ls)) name → Has (names_of (l ∷ ls)) name
  by_mode None rest t = inr (rest t)
  by_mode (Some m) rest (inl e) = inl e
  by_mode (Some m) rest (inr t) = inr (rest t)

else_rows : (rows : ℕ → List Row) (n m : ℕ) (own : List Row) → m ≢ n → with_rows rows n own m ≡ rows m
else_rows rows n m own ne = grind (arith, nat_tests)

-- ---- all three rows

-- what is left of the rows
pub record AreLetGo (t : List Resource) (n : ℕ) (stay : Row) (rows : ℕ → List Row) (after : List Resource) : Type 0 where
  pub table : IsTable after
  pub held : AreHeld after (with_rows rows n (stay ∷ ([] ∷ ([] ∷ []))))
  pub rests : waits_at after n stay ≡ false
  pub others : (m : ℕ) (ls : Row) → m ≢ n → Has (rows m) ls → GoesOn t after m ls

-- An empty row in front of another may stand behind it.
empty_last : (t : List Resource) (n : ℕ) (a c : Row) → HoldsItsLocks t n (a ∷ ([] ∷ (c ∷ []))) → HoldsItsLocks t n (a ∷ (c ∷ ([] ∷ [])))
empty_last t n a c h = record { once = h.once; in_order = (h.in_order.0, (h.in_order.1.1.0, (tt, tt))); no_other = h.no_other }

all_empty_last : (t : List Resource) (rows : ℕ → List Row) (n : ℕ) (a c : Row) → AreHeld t (with_rows rows n (a ∷ ([] ∷ (c ∷ [])))) → AreHeld t (with_rows rows n (a ∷ (c ∷ ([] ∷ []))))
all_empty_last t rows n a c held m = elim (same_or_not m n) [ inl e ↦ here e | inr ne ↦ there ne ] where
  old : List Row
  old = a ∷ ([] ∷ (c ∷ []))

  new : List Row
  new = a ∷ (c ∷ ([] ∷ []))

  here : m ≡ n → HoldsItsLocks t m (with_rows rows n new m)
  here e =
      let was : HoldsItsLocks t m old = subst (λ (rs : List Row). HoldsItsLocks t m rs) (ap (with_rows rows n old) e ∙ own_rows rows n old) (held m) in
      subst (λ (rs : List Row). HoldsItsLocks t m rs) (sym (ap (with_rows rows n new) e ∙ own_rows rows n new)) (empty_last t m a c was)

  there : m ≢ n → HoldsItsLocks t m (with_rows rows n new m)
  there ne = subst (λ (rs : List Row). HoldsItsLocks t m rs) (else_rows rows n m old ne ∙ sym (else_rows rows n m new ne)) (held m)

-- The locks of the command and of its rules for space are put back, and what is left of them is kept; and of what was kept before, what
-- does not stay goes.
module _ (keeps : Keeps) (values : Values) (give : LockName → List Resource → List ℕ) (p : LockName × Mode → Bool) (t : List Resource) (n : ℕ) (rows : ℕ → List Row) (kept asked claims : Row) (is : IsTable t) (held : AreHeld t rows)
    (at : rows n ≡ kept ∷ (asked ∷ (claims ∷ []))) (rests : waits_at t n kept ≡ false) (free : waits_at t n asked ≡ false) (granted : waits_at t n claims ≡ false) (low : (l : LockName × Mode) → IsLow l.1 (keeps l))
    (once : Once (names_of kept)) (apart : (name : LockName) → Has (names_of kept) name → Has (names_of (asked ++ claims)) name → ⊥) where
  abbrev gone : Row
  gone = filter (λ l. not (p l)) kept

  abbrev lowered : Row
  lowered = kept_of keeps (asked ++ claims)

  abbrev t1 : List Resource
  t1 = all_back n keeps values asked t

  abbrev t2 : List Resource
  t2 = all_back n keeps values claims t1

  abbrev t3 : List Resource
  t3 = all_given n give (names_of gone) t2

  abbrev kept1 : Row
  kept1 = kept ++ kept_of keeps asked

  abbrev own2 : List Row
  own2 = kept1 ∷ (claims ∷ ([] ∷ []))

  abbrev rows2 : ℕ → List Row
  rows2 = with_rows rows n own2

  abbrev own3 : List Row
  own3 = (kept ++ lowered) ∷ ([] ∷ ([] ∷ []))

  abbrev rows3 : ℕ → List Row
  rows3 = with_rows rows n own3

  first : ArePutBack n kept1 (claims ∷ []) rows t t1
  first = (putting_back_holds keeps values t n kept asked (claims ∷ []) rows is held at rests free (λ l h. low l)).1

  held2 : AreHeld t1 rows2
  held2 = all_empty_last t1 rows n kept1 claims first.held

  second : ArePutBack n (kept1 ++ kept_of keeps claims) ([] ∷ []) rows2 t1 t2
  second = (putting_back_holds keeps values t1 n kept1 claims ([] ∷ []) rows2 first.table held2 (own_rows rows n own2) first.own.waits ((first.still claims (inl refl)).waits ∙ granted) (λ l h. low l)).1

  joined_so : kept1 ++ kept_of keeps claims ≡ kept ++ lowered
  joined_so = append_assoc kept (kept_of keeps asked) (kept_of keeps claims) ∙ ap (λ (ls : Row). kept ++ ls) (sym (kept_both keeps asked claims))

  held3 : AreHeld t2 rows3
  held3 = subst (λ (ls : Row). AreHeld t2 (with_rows rows n (ls ∷ ([] ∷ ([] ∷ []))))) joined_so (rows_twice t2 rows n own2 ((kept1 ++ kept_of keeps claims) ∷ ([] ∷ ([] ∷ []))) second.held)

  rests3 : waits_at t2 n (kept ++ lowered) ≡ false
  rests3 = subst (λ (ls : Row). waits_at t2 n ls ≡ false) joined_so second.own.waits

  third : AreSwept n 0 (without_all (names_of gone) (kept ++ lowered)) (all_taken_out 0 (names_of gone) own3) own3 rows3 t2 t3
  third = (sweeping_holds give t2 n 0 (kept ++ lowered) (names_of gone) own3 rows3 second.table held3 (own_rows rows n own3) refl rests3 (filter_once (λ l. not (p l)) kept once)
      (λ name h. names_first kept lowered name (filter_names (λ l. not (p l)) kept name h))).1

  abbrev stay : Row
  stay = filter p kept ++ lowered

  stays_so : without_all (names_of gone) (kept ++ lowered) ≡ stay
  stays_so =
      without_both (names_of gone) kept lowered
      ∙ (λ i. all_left p kept once i ++ without_apart (names_of gone) lowered (λ name h k. apart name (filter_names (λ l. not (p l)) kept name h) (kept_names keeps (asked ++ claims) name k)) i)

  abbrev own4 : List Row
  own4 = stay ∷ ([] ∷ ([] ∷ []))

  held4 : AreHeld t3 (with_rows rows n own4)
  held4 = rows_twice t3 rows n own3 own4
      (subst (λ (rs : List Row). AreHeld t3 (with_rows rows3 n rs)) (out_first (names_of gone) (kept ++ lowered) ([] ∷ ([] ∷ [])) ∙ ap (λ (ls : Row). ls ∷ ([] ∷ ([] ∷ []))) stays_so) third.held)

  goes_both : AreLetGo t n stay rows t3
  goes_both = record {
    table = third.table;
    held = held4;
    rests = subst (λ (ls : Row). waits_at t3 n ls ≡ false) stays_so third.row.waits;
    others = λ m ls ne h.
        let h2 : Has (rows2 m) ls = subst (λ (rs : List Row). Has rs ls) (sym (else_rows rows n m own2 ne)) h in
        let h3 : Has (rows3 m) ls = subst (λ (rs : List Row). Has rs ls) (sym (else_rows rows n m own3 ne)) h in
        goes-then t t1 t3 m ls (first.others m ls ne h) (goes-then t1 t2 t3 m ls (second.others m ls ne h2) (third.others m ls ne h3));
  }

  pub lets_go : AreLetGo t n stay rows (all_given n give (names_of gone) (all_back n keeps values (asked ++ claims) t))
  lets_go = subst (λ (u : List Resource). AreLetGo t n stay rows (all_given n give (names_of gone) u)) (sym (back_both n keeps values asked claims t)) goes_both
