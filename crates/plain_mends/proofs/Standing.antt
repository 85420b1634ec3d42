-- What holds of a catalogue from which each entry is to stay.
use Rattle.std.proofs.Common.{◌≡◌, ◌&&◌, ◌-◌, ◌+◌, ◌<◌, ◌≤◌, ◌⊎◌, inl, inr, ◌++◌, ◌∙◌, ℕ, Bool, true, false, cond, not, List, [], ◌∷◌, Some, nat_le, slice_get, refl, sym, ap, subst, arith}
use Rattle.std.specs.Prelude.{option_map}
use Rattle.std.proofs.lemmas.Bool.{and_parts, cases_Bool, cases_eq, cases_lt, leb-true, lt-leb, le-leb}
use Rattle.plain_cat.specs.declared.ids.Fid.{Fid}
use Rattle.plain_cat.specs.declared.entries.DirEnt.{DirEnt}
use Rattle.plain_cat.specs.declared.cat.Cat.{Cat}
use Rattle.plain_cat.specs.declared.cat.File.{File}
use Rattle.plain_cat.specs.declared.cat.Slot.{Slot}
use Rattle.plain_cat.specs.declared.cat.Slot.TheVariants.{Used, Free}
use Rattle.plain_rules.specs.declared.places.Place.{Place}
use Rattle.plain_rules.specs.Lookups.{file_at}
use Rattle.plain_rules.specs.Directories.{inserted}
use Rattle.plain_rules.specs.Mending.{places, is_own, is_first, stays, without_opens, less_entries, is_empty, is_named, is_lost_slot, numbers_from, lost}
use Rattle.plain_laws.specs.Clearing.{HasOwnEntry}
use Rattle.plain_mends.specs.Resuming.{AllStay}
use Rattle.plain_mends.specs.Waiting.{Settled}
use Rattle.base_words.specs.Lists.{Has, Once}
use Rattle.base_words.proofs.Listing.{has_from, has_parted, has_filtered, filter_all, once_in_a_row}
use Rattle.plain_laws.proofs.Standing.{file_from, each_same, Alive}
use Rattle.plain_laws.proofs.Places.{In, in_from, first_is, first_one, own_one, Names, names_to}
use Rattle.plain_laws.proofs.Steps.{SameFiles, like_left, like_right, less_file, less_at, stays_parts, Entered, entered_same, new_place, in_entered, has_number}
use Rattle.plain_laws.proofs.Unfinished.{IsLost, Unfinished, new_number, not_not, LostFile, lost_file, same_file, apart, numbers_distinct}

-- opens are no matter of what stays
pub stays_open : (x : Cat) (p : Place) → stays (without_opens x) p ≡ stays x p
unfolding stays
stays_open x p = refl

-- where each entry stays, it stays one by one
pub stays_each : (x : Cat) → AllStay x → (n : ℕ) (f : File) (e : DirEnt) → file_at x n ≡ Some f → Has f.entries e → stays x (record { dir = n; entry = e }) ≡ true
stays_each x all n f e at has =
    let there : Some f ≡ option_map (less_file (without_opens x) n) (Some f) =
    sym at ∙ (ap (λ (z : Cat). file_at z n) (sym all) ∙ (less_at (without_opens x) n ∙ ap (λ o. option_map (less_file (without_opens x) n) o) at)) in
    let same : f ≡ less_file (without_opens x) n f = cc there in
    let kept : Has (less_file (without_opens x) n f).entries e = subst (λ (z : File). Has z.entries e) same has in
    let r = has_filtered (λ (d : DirEnt). stays (without_opens x) (record { dir = n; entry = d })) f.entries e kept in
    sym (stays_open x (record { dir = n; entry = e })) ∙ r.1

-- and the other way round
pub all_stay : (x : Cat) → ((n : ℕ) (f : File) (e : DirEnt) → file_at x n ≡ Some f → Has f.entries e → stays x (record { dir = n; entry = e }) ≡ true) → AllStay x
all_stay x each = ap (λ fs. record (without_opens x) { files = fs }) (each_same (less_entries (without_opens x)) 1 x.files one) where
  one : (i : ℕ) (s : Slot) → slice_get x.files i ≡ Some s → less_entries (without_opens x) (1 + i) s ≡ s
  one i (Free q) at = refl
  one i (Used f) at =
      let here : slice_get x.files (1 + i - 1) ≡ Some (Used f) = let e : 1 + i - 1 ≡ i = omega arith in ap (slice_get x.files) e ∙ at in
      let file : file_at x (1 + i) ≡ Some f = file_from x (1 + i) f (omega arith) here in
      ap (λ es. Used (record f { entries = es })) (filter_all (λ e. stays (without_opens x) (record { dir = 1 + i; entry = e })) f.entries (λ e has.
      stays_open x (record { dir = 1 + i; entry = e }) ∙ each (1 + i) f e file has))

-- a system file is named by its own entry
pub own_names : (x : Cat) (n : ℕ) (f : File) → HasOwnEntry x n f → Names x (record { num = n; seq = f.seq })
own_names x n f (p, has, own, fid) = record { place = p; within = in_from x p (has_from (places x) p has); same = fid }

module _ (x : Cat) (settled : Settled x) where
  stays_in : (p : Place) → In x p → stays x p ≡ true
  stays_in p i = stays_each x settled.stay p.dir i.file p.entry i.at i.entry

  -- an entry that stays is in a directory
  within : (p : Place) → stays x p ≡ true → In x p
  within p h = by_case (cases_Bool (nat_le p.entry.fid.num 11)) where
    parts : Alive x p.entry.fid × (cond (nat_le p.entry.fid.num 11) (is_own p) (is_first p (places x)) ≡ true)
    parts = stays_parts x p h

    found : HasOwnEntry x p.entry.fid.num parts.0.file → is_own p ≡ true → In x p
    found (q, has, own, fid) mine =
        let same : p.entry.fid ≡ q.entry.fid = ap (λ s. record { num = p.entry.fid.num; seq = s }) (sym parts.0.seq) ∙ sym fid in
        subst (λ (z : Place). In x z) (sym (own_one p q mine own same)) (in_from x q (has_from (places x) q has))

    by_case : (nat_le p.entry.fid.num 11 ≡ true) ⊎ (nat_le p.entry.fid.num 11 ≡ false) → In x p
    by_case (inl low) =
        found (settled.owned p.entry.fid.num parts.0.file (leb-true p.entry.fid.num 11 low) parts.0.at parts.0.free)
        (ap (λ b. cond b (is_own p) (is_first p (places x))) (sym low) ∙ parts.1)
    by_case (inr high) =
        in_from x p (first_is p (places x) (ap (λ b. cond b (is_own p) (is_first p (places x))) (sym high) ∙ parts.1))

  living : (p : Place) → In x p → Alive x p.entry.fid
  living p i = (stays_parts x p (stays_in p i)).0

  first : (p : Place) → In x p → 11 < p.entry.fid.num → is_first p (places x) ≡ true
  first p i high =
      let s = stays_parts x p (stays_in p i) in
      ap (λ b. cond b (is_own p) (is_first p (places x))) (sym (lt-leb p.entry.fid.num 11 high)) ∙ s.1

  own : (p : Place) → In x p → p.entry.fid.num ≤ 11 → is_own p ≡ true
  own p i low =
      let s = stays_parts x p (stays_in p i) in
      ap (λ b. cond b (is_own p) (is_first p (places x))) (sym (le-leb p.entry.fid.num 11 low)) ∙ s.1

  -- a lost file is none of the system's
  lost_is : (empty : Bool) (m : ℕ) → LostFile x empty m → IsLost x m
  lost_is empty m f = record { high = high (cases_lt 11 m); unnamed = unnamed; free = λ g at. ap (λ (z : File). z.marked) (same_file x m g f.file at f.at) ∙ f.free } where
    named : Names x (record { num = m; seq = f.file.seq }) → ⊥
    named n = let both : false ≡ true = sym f.missing ∙ names_to x (record { num = m; seq = f.file.seq }) n in absurd (cc both)

    high : (11 < m) ⊎ (m ≤ 11) → 11 < m
    high (inl h) = h
    high (inr low) = absurd (named (own_names x m f.file (settled.owned m f.file low f.at f.free)))

    unnamed : (p : Place) → In x p → p.entry.fid.num ≡ m → ⊥
    unnamed p i number =
        let l = living p i in
        let same : l.file ≡ f.file = same_file x m l.file f.file (ap (λ k. file_at x k) (sym number) ∙ l.at) f.at in
        let fid : p.entry.fid ≡ record { num = m; seq = f.file.seq } =
        ap (λ k. record { num = k; seq = p.entry.fid.seq }) number ∙ ap (λ s. record { num = m; seq = s }) (sym l.seq ∙ ap (λ (z : File). z.seq) same) in
        named (record { place = p; within = i; same = fid })

  fresh : (m : ℕ) → Has (lost x false) m ⊎ Has (lost x true) m → IsLost x m
  fresh m (inl h) = lost_is false m (lost_file x false m h)
  fresh m (inr h) = lost_is true m (lost_file x true m h)

  pub is_lost_in : (empty : Bool) (m : ℕ) → Has (lost x empty) m → IsLost x m
  is_lost_in empty m h = lost_is empty m (lost_file x empty m h)

  pub directory_is : (f : File) → file_at x 11 ≡ Some f → f.dir ≡ true
  directory_is f at = (settled.names.lost f at).directory

  pub directory_named : (f : File) → file_at x 11 ≡ Some f → is_named x (record { num = 11; seq = f.seq }) ≡ true
  directory_named f at = names_to x (record { num = 11; seq = f.seq }) (own_names x 11 f (settled.names.lost f at).own)

  pub unfinished : Unfinished (lost x false ++ lost x true) x
  unfinished = record {
    one = λ p q i j same high. first_one p q (places x) same (first p i high) (first q j (subst (λ (z : Fid). 11 < z.num) same high));
    own = own;
    alive = living;
    fresh = λ m has. fresh m (has_parted (lost x false) (lost x true) m has);
    distinct = once_in_a_row (lost x false) (lost x true) (numbers_distinct (is_lost_slot x false) 1 x.files) (numbers_distinct (is_lost_slot x true) 1 x.files) (apart x);
    placed = λ n f e at has.
        let i = within (record { dir = n; entry = e }) (stays_each x settled.stay n f e at has) in
        ap (λ (z : File). z.dir) (same_file x n f i.file at i.at) ∙ i.dir;
    directory = directory_is;
  }

alive_over : (x y : Cat) (fid : Fid) → SameFiles x y → Alive x fid → Alive y fid
alive_over x y fid same a =
    let l = like_right x y fid.num a.file same a.at in
    record { file = l.file; at = l.at; seq = ap (λ (z : File). z.seq) l.same ∙ a.seq; free = ap (λ (z : File). z.marked) l.same ∙ a.free }

-- what holds on once one of the files is entered, wherever among them it stands
pub step : (ls : List ℕ) (m : ℕ) (ms : List ℕ) (x y : Cat) → Entered x y m → Unfinished (ls ++ m ∷ ms) x → Unfinished (ls ++ ms) y
step ls m ms x y e u = record {
  one = λ p q i j same high. one p q same high (in_entered x y m e p i) (in_entered x y m e q j);
  own = λ p i low. own p low (in_entered x y m e p i);
  alive = λ p i. alive p (in_entered x y m e p i);
  fresh = λ k has. record {
    high = (u.fresh k (wider ls k has)).high;
    unnamed = λ p i number. unnamed k has p number (in_entered x y m e p i);
    free = λ g at. free k g has at;
  };
  distinct = (fewer ls u.distinct).0;
  placed = λ n g d at has. placed n g d at has (cases_eq n 11);
  directory = directory;
} where
  wider : (ks : List ℕ) (k : ℕ) → Has (ks ++ ms) k → Has (ks ++ m ∷ ms) k
  wider [] k h = inr h
  wider (z ∷ zs) k (inl h) = inl h
  wider (z ∷ zs) k (inr h) = inr (wider zs k h)

  at_m : (ks : List ℕ) → Has (ks ++ m ∷ ms) m
  at_m [] = inl refl
  at_m (z ∷ zs) = inr (at_m zs)

  fewer : (ks : List ℕ) → Once (ks ++ m ∷ ms) → Once (ks ++ ms) × (Has (ks ++ ms) m → ⊥)
  fewer [] d = (d.1, d.0)
  fewer (z ∷ zs) d = let r = fewer zs d.1 in ((λ h. d.0 (wider zs z h), r.0), out r.1) where
    out : (Has (zs ++ ms) m → ⊥) → Has (z ∷ (zs ++ ms)) m → ⊥
    out lacks (inl h) = d.0 (subst (λ (k : ℕ). Has (zs ++ m ∷ ms) k) (sym h) (at_m zs))
    out lacks (inr h) = lacks h

  first : IsLost x m
  first = u.fresh m (at_m ls)

  one : (p q : Place) → p.entry.fid ≡ q.entry.fid → 11 < p.entry.fid.num → In x p ⊎ (p ≡ new_place e.entry) → In x q ⊎ (q ≡ new_place e.entry) → p ≡ q
  one p q same high (inl i) (inl j) = u.one p q i j same high
  one p q same high (inl i) (inr new) = absurd (first.unnamed p i (ap (λ (z : Fid). z.num) same ∙ new_number x y m e q new))
  one p q same high (inr new) (inl j) = absurd (first.unnamed q j (ap (λ (z : Fid). z.num) (sym same) ∙ new_number x y m e p new))
  one p q same high (inr new) (inr newer) = new ∙ sym newer

  own : (p : Place) → p.entry.fid.num ≤ 11 → In x p ⊎ (p ≡ new_place e.entry) → is_own p ≡ true
  own p low (inl i) = u.own p i low
  own p low (inr new) = let number = new_number x y m e p new in let high = first.high in absurd (omega (arith, number, high, low))

  alive : (p : Place) → In x p ⊎ (p ≡ new_place e.entry) → Alive y p.entry.fid
  alive p (inl i) = alive_over x y p.entry.fid (entered_same x y m e) (u.alive p i)
  alive p (inr new) =
      let at : Alive x (record { num = m; seq = e.own.seq }) = record { file = e.own; at = e.own_at; seq = refl; free = first.free e.own e.own_at } in
      let fid : ◌≡◌ {A = Fid} (record { num = m; seq = e.own.seq }) p.entry.fid = sym e.fid ∙ ap (λ (z : Place). z.entry.fid) (sym new) in
      alive_over x y p.entry.fid (entered_same x y m e) (subst (λ (z : Fid). Alive x z) fid at)

  unnamed : (k : ℕ) → Has (ls ++ ms) k → (p : Place) → p.entry.fid.num ≡ k → In x p ⊎ (p ≡ new_place e.entry) → ⊥
  unnamed k has p number (inl i) = (u.fresh k (wider ls k has)).unnamed p i number
  unnamed k has p number (inr new) = (fewer ls u.distinct).1 (subst (λ (z : ℕ). Has (ls ++ ms) z) (sym number ∙ new_number x y m e p new) has)

  free : (k : ℕ) (g : File) → Has (ls ++ ms) k → file_at y k ≡ Some g → g.marked ≡ false
  free k g has at =
      let l = like_left x y k g (entered_same x y m e) at in
      ap (λ (z : File). z.marked) (sym l.same) ∙ (u.fresh k (wider ls k has)).free l.file l.at

  directory : (g : File) → file_at y 11 ≡ Some g → g.dir ≡ true
  directory g at =
      let both : Some g ≡ Some (record e.lost { entries = inserted e.entry e.lost.entries }) = sym at ∙ e.after in
      let same : g ≡ record e.lost { entries = inserted e.entry e.lost.entries } = cc both in
      ap (λ (z : File). z.dir) same ∙ u.directory e.lost e.lost_at

  placed : (n : ℕ) (g : File) (d : DirEnt) → file_at y n ≡ Some g → Has g.entries d → (n ≡ 11) ⊎ (n ≡ 11 → ⊥) → g.dir ≡ true
  placed n g d at has (inl here) = directory g (ap (λ k. file_at y k) (sym here) ∙ at)
  placed n g d at has (inr other) = u.placed n g d (sym (e.others n other) ∙ at) has
