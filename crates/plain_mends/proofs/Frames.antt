-- Leaks, usages and opens are no matter of which entries stay, nor of which files are entered.
use Rattle.std.proofs.Common.{◌≡◌, ◌==◌, ◌*◌, ◌+◌, ◌∙◌, ℕ, Bool, true, false, cond, List, [], ◌∷◌, Option, Some, None, length, map, refl, sym, ap, subst, arith}
use Rattle.std.specs.Prelude.{option_map, option_and_then, unwrap_or}
use Rattle.std.specs.List.{sum_by}
use Rattle.std.proofs.lemmas.List.Sums.{sum_by-cons}
use Rattle.plain_cat.specs.declared.ids.Uic.{Uic}
use Rattle.plain_cat.specs.declared.entries.DirEnt.{DirEnt}
use Rattle.plain_cat.specs.declared.cat.Cat.{Cat}
use Rattle.plain_cat.specs.declared.cat.File.{File}
use Rattle.plain_cat.specs.declared.cat.Slot.{Slot}
use Rattle.plain_cat.specs.declared.cat.Slot.TheVariants.{Used, Free}
use Rattle.plain_cat.specs.declared.cat.Open.{Open}
use Rattle.plain_cat.specs.declared.cat.QuotaRow.{QuotaRow}
use Rattle.plain_rules.specs.Lookups.{file_at}
use Rattle.plain_rules.specs.Changes.{with_entries}
use Rattle.plain_rules.specs.Accounts.{share, charge}
use Rattle.plain_rules.specs.Mending.{stays, lost, with_lost_entry, enter, enter_all, enter_some, with_lost, without_gone, without_leaks, summed_row, put_right, counts, mended, mended_from, stripped}
use Rattle.plain_mends.specs.Resuming.{MendsTo, IsOfUsage}
use Rattle.plain_laws.proofs.Steps.{mends_from}

-- from where mending ends with one catalogue, if it does from another
pub mended_by : (c a b : Cat) → a ≡ stripped c → with_lost a ≡ Some b → mended c ≡ Some (put_right b, counts c a b (put_right b))
unfolding mended
mended_by c a b is at = ap (λ y. mended_from c y (with_lost y)) (sym is) ∙ ap (mended_from c a) at

-- what mending comes to after step 2
pub record Comes (x b : Cat) : Type 0 where
  pub middle : Cat
  pub entered : with_lost (stripped x) ≡ Some middle
  pub right : put_right middle ≡ put_right b

pub ends_alike : (c x z : Cat) → ((b : Cat) → with_lost (stripped c) ≡ Some b → Comes x b) → MendsTo c z → MendsTo x z
ends_alike c x z alike m =
    let w = mends_from c z m.0 m.1 in
    let y = alike w.middle w.entered in
    let made = mended_by x (stripped x) y.middle refl y.entered in
    subst (λ (d : Cat). MendsTo x d) (y.right ∙ w.last) (counts x (stripped x) y.middle (put_right y.middle), made)

-- the catalogue with other leaks, usages and opens
abbrev pub beside : ℕ → List Bool → List QuotaRow → List (Option Open) → Cat → Cat
beside k flags rows opens c = record c { leaked = k; leaked_numbers = flags; quota = rows; opens = opens }

module _ (k : ℕ) (flags : List Bool) (rows : List QuotaRow) (opens : List (Option Open)) where
  abbrev on : Cat → Cat
  on c = beside k flags rows opens c

  pub enter_beside : (c : Cat) (n : ℕ) → enter (beside k flags rows opens c) n ≡ option_map (beside k flags rows opens) (enter c n)
  unfolding enter
  enter_beside c n = of_directory (file_at c 11) where
    of_room : (d : File) (o : Option (List DirEnt)) → option_map (with_entries (on c) 11 d) o ≡ option_map on (option_map (with_entries c 11 d) o)
    of_room d None = refl
    of_room d (Some es) = refl

    of_file : (d : File) (o : Option File) → option_and_then (λ (f : File). option_map (with_entries (on c) 11 d) (with_lost_entry c.factor d.entries n f.seq)) o
        ≡ option_map on (option_and_then (λ (f : File). option_map (with_entries c 11 d) (with_lost_entry c.factor d.entries n f.seq)) o)
    of_file d None = refl
    of_file d (Some f) = of_room d (with_lost_entry c.factor d.entries n f.seq)

    of_directory : (o : Option File) → option_and_then (λ (d : File). option_and_then (λ (f : File). option_map (with_entries (on c) 11 d) (with_lost_entry c.factor d.entries n f.seq)) (file_at c n)) o
        ≡ option_map on (option_and_then (λ (d : File). option_and_then (λ (f : File). option_map (with_entries c 11 d) (with_lost_entry c.factor d.entries n f.seq)) (file_at c n)) o)
    of_directory None = refl
    of_directory (Some d) = of_file d (file_at c n)

  all_beside : (ns : List ℕ) (c : Cat) → enter_all ns (on c) ≡ option_map on (enter_all ns c)
  all_beside [] c = refl
  all_beside (n ∷ ns) c = ap (λ o. option_and_then (enter_all ns) o) (enter_beside c n) ∙ by_case (enter c n) (λ y. all_beside ns y) where
    by_case : (o : Option Cat) → ((y : Cat) → enter_all ns (on y) ≡ option_map on (enter_all ns y)) → option_and_then (enter_all ns) (option_map on o) ≡ option_map on (option_and_then (enter_all ns) o)
    by_case None ih = refl
    by_case (Some y) ih = ih y

  some_beside : (ns : List ℕ) (c : Cat) → enter_some ns (on c) ≡ on (enter_some ns c)
  some_beside [] c = refl
  some_beside (n ∷ ns) c = ap (λ o. enter_some ns (unwrap_or o (on c))) (enter_beside c n) ∙ by_case (enter c n) (λ y. some_beside ns y) where
    by_case : (o : Option Cat) → ((y : Cat) → enter_some ns (on y) ≡ on (enter_some ns y)) → enter_some ns (unwrap_or (option_map on o) (on c)) ≡ on (enter_some ns (unwrap_or o c))
    by_case None ih = ih c
    by_case (Some y) ih = ih y

  pub lost_beside : (c : Cat) → with_lost (beside k flags rows opens c) ≡ option_map (beside k flags rows opens) (with_lost c)
  lost_beside c = ap (λ o. option_map (enter_some (lost c true)) o) (all_beside (lost c false) c) ∙ by_case (enter_all (lost c false) c) where
    by_case : (o : Option Cat) → option_map (enter_some (lost c true)) (option_map on o) ≡ option_map on (option_map (enter_some (lost c true)) o)
    by_case None = refl
    by_case (Some y) = ap (λ (z : Cat). Some z) (some_beside (lost c true) y)

  pub stripped_beside : (c : Cat) → stripped (beside k flags rows opens c) ≡ beside k flags rows (map (λ o. None) opens) (stripped c)
  unfolding stays
  stripped_beside c = refl

-- step 2 changes files alone
pub lost_keeps : (a b : Cat) → with_lost a ≡ Some b → b ≡ beside a.leaked a.leaked_numbers a.quota a.opens b
lost_keeps a b h =
    let both : Some b ≡ Some (beside a.leaked a.leaked_numbers a.quota a.opens b) =
    sym h ∙ (lost_beside a.leaked a.leaked_numbers a.quota a.opens a ∙ ap (λ o. option_map (beside a.leaked a.leaked_numbers a.quota a.opens) o) h) in
    cc both

-- what files cost goes by the files and the cluster factor
pub charge_same : (x y : Cat) (owner : Uic) → x.files ≡ y.files → x.factor ≡ y.factor → charge x owner ≡ charge y owner
charge_same x y owner files factor = sums x.files ∙ ap (λ ss. sum_by (share y owner) ss) files where
  one : (s : Slot) → share x owner s ≡ share y owner s
  one (Free q) = refl
  one (Used f) = ap (λ k. cond (owner.0 == f.owner.0) (k * f.clusters + 1) 0) factor

  sums : (ss : List Slot) → sum_by (share x owner) ss ≡ sum_by (share y owner) ss
  sums [] = refl
  sums (s ∷ ss) =
      sum_by-cons (share x owner) s ss
      ∙ (ap (λ k. k + sum_by (share x owner) ss) (one s) ∙ (ap (λ k. share y owner s + k) (sums ss) ∙ sym (sum_by-cons (share y owner) s ss)))

pub no_flags : {X : Type 0} (xs ys : List X) → length xs ≡ length ys → map (λ (x : X). false) xs ≡ map (λ (x : X). false) ys
no_flags [] [] h = refl
no_flags [] (y ∷ ys) h = absurd (cc h)
no_flags (x ∷ xs) [] h = absurd (cc h)
no_flags (x ∷ xs) (y ∷ ys) h = ap (λ bs. false ∷ bs) (no_flags xs ys (omega (arith, h)))

rows_same : (x y : Cat) (rs : List QuotaRow) → x.files ≡ y.files → x.factor ≡ y.factor → map (summed_row x) rs ≡ map (summed_row y) rs
rows_same x y [] files factor = refl
rows_same x y (r ∷ rs) files factor =
    ap (λ (k : ℕ). record r { usage = k } ∷ map (summed_row x) rs) (charge_same x y r.owner files factor)
    ∙ ap (λ qs. summed_row y r ∷ qs) (rows_same x y rs files factor)

-- steps 3 to 5 put leaks and usages right
pub right_beside : (k : ℕ) (flags : List Bool) (rows : List QuotaRow) (opens : List (Option Open)) (b : Cat)
    → map (λ (x : Bool). false) flags ≡ map (λ (x : Bool). false) b.leaked_numbers
    → ((y : Cat) → map (summed_row y) rows ≡ map (summed_row y) b.quota) → opens ≡ b.opens
    → put_right (beside k flags rows opens b) ≡ put_right b
right_beside k flags rows opens b numbers usages shut =
    let w : Cat = without_gone b in
    let x : Cat = without_leaks (without_gone (beside k flags rows opens b)) in
    let y : Cat = without_leaks w in
    ap (λ (bs : List Bool). record w { leaked = 0; leaked_numbers = bs; quota = map (summed_row x) rows; opens = opens }) numbers
    ∙ (ap (λ (rs : List QuotaRow). record w { leaked = 0; leaked_numbers = map (λ (x : Bool). false) b.leaked_numbers; quota = rs; opens = opens }) (rows_same x y rows refl refl ∙ usages y)
    ∙ ap (λ (os : List (Option Open)). record w { leaked = 0; leaked_numbers = map (λ (x : Bool). false) b.leaked_numbers; quota = map (summed_row y) b.quota; opens = os }) shut)

pub leaks_end : (c : Cat) (k : ℕ) (flags : List Bool) (z : Cat) → length flags ≡ length c.leaked_numbers → MendsTo c z → MendsTo (record c { leaked = k; leaked_numbers = flags }) z
leaks_end c k flags z same = ends_alike c (record c { leaked = k; leaked_numbers = flags }) z (λ b h.
    let keeps = lost_keeps (stripped c) b h in
    let shut : List (Option Open) = map (λ o. None) c.opens in
    record {
      middle = beside k flags c.quota shut b;
      entered = ap with_lost (stripped_beside k flags c.quota c.opens c) ∙ (lost_beside k flags c.quota shut (stripped c) ∙ ap (λ o. option_map (beside k flags c.quota shut) o) h);
      right = right_beside k flags c.quota shut b
          (no_flags flags b.leaked_numbers (same ∙ ap (λ (x : Cat). length x.leaked_numbers) (sym keeps)))
          (λ y. ap (λ (x : Cat). map (summed_row y) x.quota) (sym keeps))
          (ap (λ (x : Cat). x.opens) (sym keeps));
    })

usage_one : (y : Cat) (change : QuotaRow → QuotaRow) → IsOfUsage change → (rs : List QuotaRow) → map (summed_row y) (map change rs) ≡ map (summed_row y) rs
usage_one y change is [] = refl
usage_one y change is (r ∷ rs) =
    ap (λ (q : QuotaRow). record q { usage = charge y q.owner } ∷ map (summed_row y) (map change rs)) (is r)
    ∙ ap (λ qs. summed_row y r ∷ qs) (usage_one y change is rs)

pub usage_end : (c : Cat) (change : QuotaRow → QuotaRow) (z : Cat) → IsOfUsage change → MendsTo c z → MendsTo (record c { quota = map change c.quota }) z
usage_end c change z is = ends_alike c (record c { quota = map change c.quota }) z (λ b h.
    let keeps = lost_keeps (stripped c) b h in
    let shut : List (Option Open) = map (λ o. None) c.opens in
    let rows : List QuotaRow = map change c.quota in
    record {
      middle = beside c.leaked c.leaked_numbers rows shut b;
      entered = ap with_lost (stripped_beside c.leaked c.leaked_numbers rows c.opens c)
          ∙ (lost_beside c.leaked c.leaked_numbers rows shut (stripped c) ∙ ap (λ o. option_map (beside c.leaked c.leaked_numbers rows shut) o) h);
      right = right_beside c.leaked c.leaked_numbers rows shut b
          (ap (λ (x : Cat). map (λ (y : Bool). false) x.leaked_numbers) (sym keeps))
          (λ y. usage_one y change is c.quota ∙ ap (λ (x : Cat). map (summed_row y) x.quota) (sym keeps))
          (ap (λ (x : Cat). x.opens) (sym keeps));
    })
