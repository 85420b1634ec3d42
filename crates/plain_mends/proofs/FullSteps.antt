-- Mending ends the same once the next lost file that is not empty is entered.
use Rattle.std.proofs.Common.{◌≡◌, ◌==◌, ◌&&◌, ◌-◌, ◌+◌, ◌⊎◌, inl, inr, ◌++◌, ◌∙◌, ℕ, zero, suc, Bool, true, false, cond, not, List, [], ◌∷◌, Option, Some, None, map, slice_get, set, nat_le, refl, sym, ap, subst, arith}
use Rattle.std.specs.Prelude.{filter, option_map, option_and_then}
use Rattle.std.proofs.lemmas.Bool.{cases_eq, cases_Bool, eqb-true, eq-eqb, leb-true, leb-false}
use Rattle.plain_cat.specs.declared.ids.Fid.{Fid}
use Rattle.plain_cat.specs.declared.entries.DirEnt.{DirEnt}
use Rattle.plain_cat.specs.declared.cat.Cat.{Cat}
use Rattle.plain_cat.specs.declared.cat.File.{File}
use Rattle.plain_cat.specs.declared.cat.Slot.{Slot}
use Rattle.plain_cat.specs.declared.cat.Slot.TheVariants.{Used, Free}
use Rattle.plain_rules.specs.declared.places.Place.{Place}
use Rattle.plain_rules.specs.Lookups.{file_at}
use Rattle.plain_rules.specs.Directories.{inserted}
use Rattle.plain_rules.specs.Changes.{with_entries}
use Rattle.plain_rules.specs.Mending.{places, is_own, is_first, stays, is_empty, is_named, is_lost_slot, numbers_from, lost, lost_name, lost_entry, with_lost_entry, enter, enter_all, enter_some, without_opens, with_lost, stripped}
use Rattle.plain_mends.specs.Resuming.{MendsTo, AllStay}
use Rattle.plain_mends.specs.Waiting.{Settled}
use Rattle.plain_rules.proofs.Standing.{some_if, some_map, stands_at}
use Rattle.base_words.specs.Lists.{Has, Once}
use Rattle.base_words.proofs.Listing.{filter_all}
use Rattle.plain_laws.proofs.Standing.{file_from}
use Rattle.plain_laws.proofs.Places.{In, in_from, in_to, first_to, Names, names_from, names_to}
use Rattle.plain_laws.proofs.Steps.{Entered, entered_by, in_entered, entered_in, entered_new, new_place, stays_from}
use Rattle.plain_laws.proofs.Unfinished.{IsLost, Unfinished}
use Rattle.plain_mends.proofs.Frames.{ends_alike, beside, enter_beside}
use Rattle.plain_mends.proofs.GoneSteps.{both_ways}
use Rattle.plain_mends.proofs.Standing.{all_stay, is_lost_in, directory_is, directory_named, unfinished, step}
use Rattle.plain_laws.proofs.Unfinished.{apart, numbers_distinct}

-- ---- what an entered file changes

pub record Shape (x y : Cat) (n : ℕ) : Type 0 where
  pub dir : File
  pub own : File
  pub entry : DirEnt
  pub name : entry.name ≡ lost_name n
  pub dir_at : file_at x 11 ≡ Some dir
  pub own_at : file_at x n ≡ Some own
  pub fid : entry.fid ≡ record { num = n; seq = own.seq }
  pub is : y ≡ with_entries x 11 dir (inserted entry dir.entries)

then_shape : {X : Type 0} (o : Option X) (next : X → Option Cat) (x y : Cat) (n : ℕ) → option_and_then next o ≡ Some y
    → ((z : X) → o ≡ Some z → next z ≡ Some y → Shape x y n) → Shape x y n
then_shape None next x y n h k = absurd (cc h)
then_shape (Some z) next x y n h k = k z refl h

pub shape_by : (x : Cat) (n : ℕ) (y : Cat) → enter x n ≡ Some y → Shape x y n
unfolding enter with_lost_entry
shape_by x n y h = then_shape (file_at x 11) _ x y n h (λ d at k. then_shape (file_at x n) _ x y n k (λ f own l.
    let w = some_map (with_lost_entry x.factor d.entries n f.seq) (with_entries x 11 d) y l in
    let e = lost_entry d.entries n f.seq in
    let room : inserted e d.entries ≡ w.0 = some_if _ (inserted e d.entries) w.0 w.1 in
    record { dir = d; own = f; entry = e; name = refl; dir_at = at; own_at = own; fid = refl; is = sym w.2 ∙ ap (with_entries x 11 d) (sym room) }))

-- the numbers that still pass: all but n
abbrev pub but : ℕ → List ℕ → List ℕ
but n ns = filter (λ k. not (k == n)) ns

module _ (p q : ℕ → Slot → Bool) (n : ℕ) where
  abbrev Less : ℕ → List Slot → Type 0
  Less m ss = (j : ℕ) (t : Slot) → slice_get ss j ≡ Some t → q (m + j) t ≡ (p (m + j) t && not (m + j == n))

  head_less : (m : ℕ) (b c : Bool) (qs ps : List ℕ) → c ≡ (b && not (m == n)) → qs ≡ but n ps → cond c (m ∷ qs) qs ≡ but n (cond b (m ∷ ps) ps)
  head_less m false c qs ps e r = ap (λ z. cond z (m ∷ qs) qs) e ∙ r
  head_less m true c qs ps e r = ap (λ z. cond z (m ∷ qs) qs) e ∙ ap (λ zs. cond (not (m == n)) (m ∷ zs) zs) r

  numbers_less : (m : ℕ) (ss : List Slot) → Less m ss → numbers_from q m ss ≡ but n (numbers_from p m ss)
  numbers_less m [] h = refl
  numbers_less m (s ∷ ss) h =
      let here : m + 0 ≡ m = omega arith in
      let e : q m s ≡ (p m s && not (m == n)) = subst (λ k. q k s ≡ (p k s && not (k == n))) here (h 0 s refl) in
      head_less m (p m s) (q m s) (numbers_from q (m + 1) ss) (numbers_from p (m + 1) ss) e (numbers_less (m + 1) ss (λ j t at.
      let there : m + suc j ≡ m + 1 + j = omega arith in
      subst (λ k. q k t ≡ (p k t && not (k == n))) there (h (suc j) t at)))

  pub numbers_set : (m : ℕ) (ss : List Slot) (i : ℕ) (s v : Slot) → slice_get ss i ≡ Some s → q (m + i) v ≡ (p (m + i) s && not (m + i == n))
      → ((j : ℕ) (t : Slot) → (j ≡ i → ⊥) → slice_get ss j ≡ Some t → q (m + j) t ≡ (p (m + j) t && not (m + j == n)))
      → numbers_from q m (set ss i v) ≡ but n (numbers_from p m ss)
  numbers_set m [] i s v at g h = absurd (cc at)
  numbers_set m (t ∷ ss) zero s v at g h =
      let here : m + 0 ≡ m = omega arith in
      let same : s ≡ t = let e : t ≡ s = cc at in sym e in
      let e : q m v ≡ (p m t && not (m == n)) = subst (λ (x : Slot). q m v ≡ (p m x && not (m == n))) same (subst (λ k. q k v ≡ (p k s && not (k == n))) here g) in
      let rest : numbers_from q (m + 1) ss ≡ but n (numbers_from p (m + 1) ss) = numbers_less (m + 1) ss (λ j u l.
      let there : m + suc j ≡ m + 1 + j = omega arith in
      subst (λ k. q k u ≡ (p k u && not (k == n))) there (h (suc j) u (λ e. absurd (cc e)) l)) in
      head_less m (p m t) (q m v) (numbers_from q (m + 1) ss) (numbers_from p (m + 1) ss) e rest
  numbers_set m (t ∷ ss) (suc i) s v at g h =
      let here : m + 0 ≡ m = omega arith in
      let there : m + suc i ≡ m + 1 + i = omega arith in
      let e : q m t ≡ (p m t && not (m == n)) = subst (λ k. q k t ≡ (p k t && not (k == n))) here (h 0 t (λ e. absurd (cc e)) refl) in
      head_less m (p m t) (q m t) (numbers_from q (m + 1) (set ss i v)) (numbers_from p (m + 1) ss) e
      (numbers_set (m + 1) ss i s v at (subst (λ k. q k v ≡ (p k s && not (k == n))) there g) (λ j u other l.
      let on : m + suc j ≡ m + 1 + j = omega arith in
      subst (λ k. q k u ≡ (p k u && not (k == n))) on (h (suc j) u (λ z. other (let w : j ≡ i = omega (arith, z) in w)) l)))

pub and_false : (a b : Bool) → b ≡ false → a && b ≡ false
and_false true b h = h
and_false false b h = refl

module _ (x y : Cat) (n : ℕ) (entered : enter x n ≡ Some y) (lost_n : IsLost x n) (dir : (f : File) → file_at x 11 ≡ Some f → f.dir ≡ true)
    (own : (f : File) → file_at x 11 ≡ Some f → is_named x (record { num = 11; seq = f.seq }) ≡ true) where
  sh : Shape x y n
  sh = shape_by x n y entered

  en : Entered x y n
  en = entered_by x n y entered

  named_on : (fid : Fid) → is_named x fid ≡ true → is_named y fid ≡ true
  named_on fid h = let w = names_from x fid h in names_to y fid (record { place = w.place; within = entered_in x y n en w.place w.within; same = w.same })

  named_back : (fid : Fid) → (fid.num ≡ n → ⊥) → is_named y fid ≡ is_named x fid
  named_back fid other = both_ways (is_named y fid) (is_named x fid) (λ h.
      let w = names_from y fid h in by w (in_entered x y n en w.place w.within)) (named_on fid)
    where
      by : (w : Names y fid) → In x w.place ⊎ (w.place ≡ new_place en.entry) → is_named x fid ≡ true
      by w (inl i) = names_to x fid (record { place = w.place; within = i; same = w.same })
      by w (inr new) =
          let num : fid.num ≡ n = ap (λ (z : Fid). z.num) (sym w.same) ∙ ap (λ (z : Place). z.entry.fid.num) new ∙ ap (λ (z : Fid). z.num) en.fid in
          absurd (other num)

  named_new : (f : File) → file_at x n ≡ Some f → is_named y (record { num = n; seq = f.seq }) ≡ true
  named_new f at =
      let both : Some en.own ≡ Some f = sym en.own_at ∙ at in
      let same : en.own ≡ f = cc both in
      names_to y (record { num = n; seq = f.seq }) (record {
        place = new_place en.entry;
        within = entered_new x y n en (dir en.lost en.lost_at);
        same = en.fid ∙ ap (λ (z : File). record { num = n; seq = z.seq }) same;
      })

  eleven : n ≡ 11 → ⊥
  eleven e = let h = lost_n.high in omega (arith, e, h)

  -- whether a slot's file is lost
  lost_alike : (empty : Bool) (k : ℕ) (t : Slot) → (k ≡ n → (f : File) → t ≡ Used f → file_at x n ≡ Some f) → is_lost_slot y empty k t ≡ (is_lost_slot x empty k t && not (k == n))
  lost_alike empty k (Free s) h = refl
  lost_alike empty k (Used f) h = by (cases_eq k n) where
    rest : Bool
    rest = cond empty (is_empty f) (not (is_empty f))

    by : (k ≡ n) ⊎ (k ≡ n → ⊥) → (not f.marked && not (is_named y (record { num = k; seq = f.seq }))) && rest ≡ ((not f.marked && not (is_named x (record { num = k; seq = f.seq }))) && rest) && not (k == n)
    by (inl e) =
        let name : is_named y (record { num = k; seq = f.seq }) ≡ true = ap (λ z. is_named y (record { num = z; seq = f.seq })) e ∙ named_new f (h e f refl) in
        let no1 : not f.marked && not (is_named y (record { num = k; seq = f.seq })) ≡ false = and_false (not f.marked) _ (ap not name) in
        let no2 : not (k == n) ≡ false = ap not (eq-eqb k n e) in
        ap (λ z. z && rest) no1 ∙ sym (and_false _ _ no2)
    by (inr other) =
        let name : is_named y (record { num = k; seq = f.seq }) ≡ is_named x (record { num = k; seq = f.seq }) = named_back (record { num = k; seq = f.seq }) other in
        let yes : not (k == n) ≡ true = not_same (k == n) refl in
        ap (λ z. (not f.marked && not z) && rest) name ∙ sym (ap (λ z. ((not f.marked && not (is_named x (record { num = k; seq = f.seq }))) && rest) && z) yes ∙ and_true _)
      where
        not_same : (b : Bool) → (k == n) ≡ b → not b ≡ true
        not_same true e = absurd (other (eqb-true k n e))
        not_same false e = refl

        and_true : (b : Bool) → b && true ≡ b
        and_true true = refl
        and_true false = refl

  never_lost : (z : Cat) (empty : Bool) (f : File) → is_named z (record { num = 11; seq = f.seq }) ≡ true → is_lost_slot z empty 11 (Used f) ≡ false
  never_lost z empty f h = ap (λ b. b && cond empty (is_empty f) (not (is_empty f))) (and_false (not f.marked) _ (ap not h))

  lost_after : (empty : Bool) → lost y empty ≡ but n (lost x empty)
  lost_after empty =
      let at : slice_get x.files 10 ≡ Some (Used sh.dir) = stands_at x 11 sh.dir sh.dir_at in
      let v : Slot = Used (record sh.dir { entries = inserted sh.entry sh.dir.entries }) in
      let named_x : is_named x (record { num = 11; seq = sh.dir.seq }) ≡ true = own sh.dir sh.dir_at in
      let all : numbers_from (is_lost_slot y empty) 1 (set x.files 10 v) ≡ but n (numbers_from (is_lost_slot x empty) 1 x.files) =
      numbers_set (is_lost_slot x empty) (is_lost_slot y empty) n 1 x.files 10 (Used sh.dir) v at
      (never_lost y empty (record sh.dir { entries = inserted sh.entry sh.dir.entries }) (named_on (record { num = 11; seq = sh.dir.seq }) named_x)
      ∙ sym (ap (λ b. b && not (11 == n)) (never_lost x empty sh.dir named_x)))
      (λ j t other l. lost_alike empty (1 + j) t (λ e f is.
      let here : j ≡ n - 1 = omega (arith, e) in
      let high = lost_n.high in
      file_from x n f (omega (arith, high)) (ap (slice_get x.files) (sym here) ∙ l ∙ ap (λ (s : Slot). Some s) is))) in
      ap (λ (z : Cat). numbers_from (is_lost_slot y empty) 1 z.files) sh.is ∙ all

-- ---- the next full file

pub but_first : (n : ℕ) (ns : List ℕ) → Once (n ∷ ns) → but n (n ∷ ns) ≡ ns
but_first n ns d = ap (λ b. cond (not b) (n ∷ but n ns) (but n ns)) (eq-eqb n n refl) ∙ filter_all (λ k. not (k == n)) ns (λ k has. not_same k has (k == n) refl) where
  not_same : (k : ℕ) → Has ns k → (b : Bool) → (k == n) ≡ b → not b ≡ true
  not_same k has true e = absurd (d.0 (subst (Has ns) (eqb-true k n e) has))
  not_same k has false e = refl

pub but_none : (n : ℕ) (ns : List ℕ) → (Has ns n → ⊥) → but n ns ≡ ns
but_none n ns none = filter_all (λ k. not (k == n)) ns (λ k has. not_same k has (k == n) refl) where
  not_same : (k : ℕ) → Has ns k → (b : Bool) → (k == n) ≡ b → not b ≡ true
  not_same k has true e = absurd (none (subst (Has ns) (eqb-true k n e) has))
  not_same k has false e = refl

-- where files are still to be entered, each entry stays
pub unfinished_stay : (ns : List ℕ) (x : Cat) → Unfinished ns x → AllStay x
unfinished_stay ns x u = all_stay x stays_on where
  stays_on : (n : ℕ) (f : File) (e : DirEnt) → file_at x n ≡ Some f → Has f.entries e → stays x (record { dir = n; entry = e }) ≡ true
  stays_on n f e at has = stays_from x p (u.alive p within) (how (cases_Bool (nat_le e.fid.num 11))) where
    p : Place
    p = record { dir = n; entry = e }

    within : In x p
    within = record { file = f; at = at; dir = u.placed n f e at has; entry = has }

    how : (nat_le e.fid.num 11 ≡ true) ⊎ (nat_le e.fid.num 11 ≡ false) → cond (nat_le e.fid.num 11) (is_own p) (is_first p (places x)) ≡ true
    how (inl low) = ap (λ b. cond b (is_own p) (is_first p (places x))) low ∙ u.own p within (leb-true e.fid.num 11 low)
    how (inr high) =
        ap (λ b. cond b (is_own p) (is_first p (places x))) high
        ∙ first_to p (places x) (in_to x p within) (λ q h same.
        sym (u.one p q within (in_from x q h) (sym same) (leb-false e.fid.num 11 high)))

-- fewer files to be entered
pub narrow : (ns ks : List ℕ) (x : Cat) → Unfinished ns x → ((k : ℕ) → Has ks k → Has ns k) → Once ks → Unfinished ks x
narrow ns ks x u among distinct = record {
  one = u.one;
  own = u.own;
  alive = u.alive;
  fresh = λ k has. u.fresh k (among k has);
  distinct = distinct;
  placed = u.placed;
  directory = u.directory;
}

-- opens are no matter of entering
pub shut_enter : (x : Cat) (n : ℕ) → enter (without_opens x) n ≡ option_map without_opens (enter x n)
shut_enter x n = enter_beside x.leaked x.leaked_numbers x.quota (map (λ o. None) x.opens) x n ∙ by_case (enter x n) refl where
  by_case : (o : Option Cat) → enter x n ≡ o → option_map (beside x.leaked x.leaked_numbers x.quota (map (λ o. None) x.opens)) o ≡ option_map without_opens o
  by_case None e = refl
  by_case (Some y) e =
      let s = shape_by x n y e in
      ap (λ (z : Cat). Some (beside x.leaked x.leaked_numbers x.quota (map (λ o. None) x.opens) z)) s.is
      ∙ sym (ap (λ (z : Cat). Some (without_opens z)) s.is)

-- the lists of lost files that are left once one is entered
pub lost_left : (x y : Cat) (n : ℕ) (empty others : Bool) → Settled x → Has (lost x others) n → enter x n ≡ Some y → lost y empty ≡ but n (lost x empty)
lost_left x y n empty others settled has entered =
    lost_after x y n entered (is_lost_in x settled others n has) (directory_is x settled) (directory_named x settled) empty

module _ (x y : Cat) (n : ℕ) (ns : List ℕ) (settled : Settled x) (waits : lost x false ≡ n ∷ ns) (entered : enter x n ≡ Some y) where
  has_n : Has (lost x false) n
  has_n = subst (λ (ks : List ℕ). Has ks n) (sym waits) (inl refl)

  once : Once (n ∷ ns)
  once = subst (λ (ks : List ℕ). Once ks) waits (numbers_distinct (is_lost_slot x false) 1 x.files)

  stay_y : AllStay y
  stay_y =
      let u : Unfinished (n ∷ (ns ++ lost x true)) x = subst (λ (ks : List ℕ). Unfinished (ks ++ lost x true) x) waits (unfinished x settled) in
      unfinished_stay (ns ++ lost x true) y (step [] n (ns ++ lost x true) x y (entered_by x n y entered) u)

  full_y : lost y false ≡ ns
  full_y = lost_left x y n false false settled has_n entered ∙ (ap (but n) waits ∙ but_first n ns once)

  empty_y : lost y true ≡ lost x true
  empty_y = lost_left x y n true false settled has_n entered ∙ but_none n (lost x true) (apart x n has_n)

  -- what is still to be entered comes to the same
  same_y : with_lost (stripped y) ≡ with_lost (stripped x)
  same_y =
      ap with_lost stay_y
      ∙ (ap (λ es. option_map (enter_some es) (enter_all (lost y false) (without_opens y))) empty_y
      ∙ (ap (λ fs. option_map (enter_some (lost x true)) (enter_all fs (without_opens y))) full_y
      ∙ (sym (ap (λ fs. option_map (enter_some (lost x true)) (enter_all fs (without_opens x))) waits
      ∙ ap (λ o. option_map (enter_some (lost x true)) (option_and_then (enter_all ns) o)) (shut_enter x n ∙ ap (option_map without_opens) entered))
      ∙ sym (ap with_lost settled.stay))))

pub full_ends : (x y : Cat) (n : ℕ) (ns : List ℕ) (z : Cat) → Settled x → lost x false ≡ n ∷ ns → enter x n ≡ Some y → MendsTo x z → MendsTo y z
full_ends x y n ns z settled waits entered = ends_alike x y z (λ b h. record { middle = b; entered = same_y x y n ns settled waits entered ∙ h; right = refl })

pub full_stays : (x y : Cat) (n : ℕ) (ns : List ℕ) → Settled x → lost x false ≡ n ∷ ns → enter x n ≡ Some y → AllStay y
full_stays = stay_y

pub full_left : (x y : Cat) (n : ℕ) (ns : List ℕ) → Settled x → lost x false ≡ n ∷ ns → enter x n ≡ Some y → lost y false ≡ ns
full_left = full_y

pub empties_left : (x y : Cat) (n : ℕ) (ns : List ℕ) → Settled x → lost x false ≡ n ∷ ns → enter x n ≡ Some y → lost y true ≡ lost x true
empties_left = empty_y
