-- What holds while lost files are entered.
use Rattle.std.proofs.Common.{◌≡◌, ◌&&◌, ◌-◌, ◌+◌, ◌<◌, ◌≤◌, ◌⊎◌, inl, inr, ◌++◌, ◌∙◌, ℕ, Bool, true, false, cond, not, List, [], ◌∷◌, Some, nat_le, slice_get, refl, sym, ap, subst, arith}
use Rattle.std.proofs.lemmas.Bool.{and_parts, cases_Bool, cases_eq, cases_lt, leb-true, lt-leb, le-leb}
use Rattle.plain_cat.specs.declared.ids.Fid.{Fid}
use Rattle.plain_cat.specs.declared.entries.DirEnt.{DirEnt}
use Rattle.plain_cat.specs.declared.cat.Cat.{Cat}
use Rattle.plain_cat.specs.declared.cat.File.{File}
use Rattle.plain_cat.specs.declared.cat.Slot.{Slot}
use Rattle.plain_cat.specs.declared.cat.Slot.TheVariants.{Used, Free}
use Rattle.plain_rules.specs.declared.places.Place.{Place}
use Rattle.plain_rules.specs.Lookups.{file_at}
use Rattle.plain_rules.specs.Directories.{inserted}
use Rattle.plain_rules.specs.Mending.{places, is_own, is_first, stays, without_opens, without_entries, is_empty, is_named, is_lost_slot, numbers_from, lost, with_lost}
use Rattle.plain_laws.specs.Clearing.{HasOwnEntry, KeepsNames, AreOwned}
use Rattle.base_words.specs.Lists.{Has, Once}
use Rattle.base_words.proofs.Listing.{has_from, has_parted, has_filtered, once_in_a_row}
use Rattle.plain_laws.proofs.Standing.{file_from, Alive}
use Rattle.plain_laws.proofs.Places.{In, in_from, first_is, first_one, own_one, Names, names_to}
use Rattle.plain_laws.proofs.Steps.{SameFiles, like_left, like_right, less_file, less_from, less_same, in_less, stays_parts, Entered, entered_same, new_place, in_entered, lost_on, has_number}
use Rattle.plain_laws.proofs.ClearSteps.{own_names}

-- a number above 11 of a file that no entry names and that is not marked
pub record IsLost (x : Cat) (m : ℕ) : Type 0 where
  pub high : 11 < m
  pub unnamed : (p : Place) → In x p → p.entry.fid.num ≡ m → ⊥
  pub free : (f : File) → file_at x m ≡ Some f → f.marked ≡ false

-- a catalogue with these files still to be entered
pub record Unfinished (ns : List ℕ) (x : Cat) : Type 0 where
  pub one : (p q : Place) → In x p → In x q → p.entry.fid ≡ q.entry.fid → 11 < p.entry.fid.num → p ≡ q
  pub own : (p : Place) → In x p → p.entry.fid.num ≤ 11 → is_own p ≡ true
  pub alive : (p : Place) → In x p → Alive x p.entry.fid
  pub fresh : (m : ℕ) → Has ns m → IsLost x m
  pub distinct : Once ns
  pub placed : (n : ℕ) (f : File) (e : DirEnt) → file_at x n ≡ Some f → Has f.entries e → f.dir ≡ true
  pub directory : (f : File) → file_at x 11 ≡ Some f → f.dir ≡ true

alive_over : (x y : Cat) (fid : Fid) → SameFiles x y → Alive x fid → Alive y fid
alive_over x y fid same a =
    let l = like_right x y fid.num a.file same a.at in
    record {
      file = l.file;
      at = l.at;
      seq = ap (λ (z : File). z.seq) l.same ∙ a.seq;
      free = ap (λ (z : File). z.marked) l.same ∙ a.free;
    }

skip : (m : ℕ) (ms : List ℕ) (x : Cat) → Unfinished (m ∷ ms) x → Unfinished ms x
skip m ms x u = record {
  one = u.one;
  own = u.own;
  alive = u.alive;
  fresh = λ k has. u.fresh k (inr has);
  distinct = u.distinct.1;
  placed = u.placed;
  directory = u.directory;
}

-- the number of the new entry
pub new_number : (x y : Cat) (m : ℕ) (e : Entered x y m) (p : Place) → p ≡ new_place e.entry → p.entry.fid.num ≡ m
new_number x y m e p is = ap (λ (z : Place). z.entry.fid.num) is ∙ ap (λ (z : Fid). z.num) e.fid

step : (m : ℕ) (ms : List ℕ) (x y : Cat) → Entered x y m → Unfinished (m ∷ ms) x → Unfinished ms y
step m ms x y e u = record {
  one = λ p q i j same high. one p q same high (in_entered x y m e p i) (in_entered x y m e q j);
  own = λ p i low. own p low (in_entered x y m e p i);
  alive = λ p i. alive p (in_entered x y m e p i);
  fresh = λ k has. record {
    high = (u.fresh k (inr has)).high;
    unnamed = λ p i number. unnamed k has p number (in_entered x y m e p i);
    free = λ g at. free k g has at;
  };
  distinct = u.distinct.1;
  placed = λ n g d at has. placed n g d at has (cases_eq n 11);
  directory = directory;
} where
  first : IsLost x m
  first = u.fresh m (inl refl)

  one : (p q : Place) → p.entry.fid ≡ q.entry.fid → 11 < p.entry.fid.num → In x p ⊎ (p ≡ new_place e.entry) → In x q ⊎ (q ≡ new_place e.entry) → p ≡ q
  one p q same high (inl i) (inl j) = u.one p q i j same high
  one p q same high (inl i) (inr new) = absurd (first.unnamed p i (ap (λ (z : Fid). z.num) same ∙ new_number x y m e q new))
  one p q same high (inr new) (inl j) = absurd (first.unnamed q j (ap (λ (z : Fid). z.num) (sym same) ∙ new_number x y m e p new))
  one p q same high (inr new) (inr newer) = new ∙ sym newer

  own : (p : Place) → p.entry.fid.num ≤ 11 → In x p ⊎ (p ≡ new_place e.entry) → is_own p ≡ true
  own p low (inl i) = u.own p i low
  own p low (inr new) = let number = new_number x y m e p new in let high = first.high in absurd (omega (arith, number, high, low))

  alive : (p : Place) → In x p ⊎ (p ≡ new_place e.entry) → Alive y p.entry.fid
  alive p (inl i) = alive_over x y p.entry.fid (entered_same x y m e) (u.alive p i)
  alive p (inr new) =
      let at : Alive x (record { num = m; seq = e.own.seq }) = record { file = e.own; at = e.own_at; seq = refl; free = first.free e.own e.own_at } in
      let fid : ◌≡◌ {A = Fid} (record { num = m; seq = e.own.seq }) p.entry.fid = sym e.fid ∙ ap (λ (z : Place). z.entry.fid) (sym new) in
      alive_over x y p.entry.fid (entered_same x y m e) (subst (λ (z : Fid). Alive x z) fid at)

  unnamed : (k : ℕ) → Has ms k → (p : Place) → p.entry.fid.num ≡ k → In x p ⊎ (p ≡ new_place e.entry) → ⊥
  unnamed k has p number (inl i) = (u.fresh k (inr has)).unnamed p i number
  unnamed k has p number (inr new) = u.distinct.0 (subst (λ (z : ℕ). Has ms z) (sym number ∙ new_number x y m e p new) has)

  free : (k : ℕ) (g : File) → Has ms k → file_at y k ≡ Some g → g.marked ≡ false
  free k g has at =
      let l = like_left x y k g (entered_same x y m e) at in
      ap (λ (z : File). z.marked) (sym l.same) ∙ (u.fresh k (inr has)).free l.file l.at

  directory : (g : File) → file_at y 11 ≡ Some g → g.dir ≡ true
  directory g at =
      let both : Some g ≡ Some (record e.lost { entries = inserted e.entry e.lost.entries }) = sym at ∙ e.after in
      let same : g ≡ record e.lost { entries = inserted e.entry e.lost.entries } = cc both in
      ap (λ (z : File). z.dir) same ∙ u.directory e.lost e.lost_at

  placed : (n : ℕ) (g : File) (d : DirEnt) → file_at y n ≡ Some g → Has g.entries d → (n ≡ 11) ⊎ (n ≡ 11 → ⊥) → g.dir ≡ true
  placed n g d at has (inl here) = directory g (ap (λ k. file_at y k) (sym here) ∙ at)
  placed n g d at has (inr other) = u.placed n g d (sym (e.others n other) ∙ at) has

-- an entry that stays stands in a directory
stays_in : (c : Cat) (p : Place) → AreOwned c → stays (without_opens c) p ≡ true → In (without_opens c) p
stays_in c p owned h = by_case (cases_Bool (nat_le p.entry.fid.num 11)) where
  parts : Alive (without_opens c) p.entry.fid
      × (cond (nat_le p.entry.fid.num 11) (is_own p) (is_first p (places (without_opens c))) ≡ true)
  parts = stays_parts (without_opens c) p h

  found : HasOwnEntry c p.entry.fid.num parts.0.file → is_own p ≡ true → In (without_opens c) p
  found (q, has, own, fid) mine =
      let same : p.entry.fid ≡ q.entry.fid = ap (λ s. record { num = p.entry.fid.num; seq = s }) (sym parts.0.seq) ∙ sym fid in
      subst (λ (z : Place). In (without_opens c) z) (sym (own_one p q mine own same)) (in_from (without_opens c) q (has_from (places c) q has))

  by_case : (nat_le p.entry.fid.num 11 ≡ true) ⊎ (nat_le p.entry.fid.num 11 ≡ false) → In (without_opens c) p
  by_case (inl low) =
      found (owned p.entry.fid.num parts.0.file (leb-true p.entry.fid.num 11 low) parts.0.at parts.0.free)
      (ap (λ b. cond b (is_own p) (is_first p (places (without_opens c)))) (sym low) ∙ parts.1)
  by_case (inr high) =
      in_from (without_opens c) p (first_is p (places (without_opens c)) (ap (λ b. cond b (is_own p) (is_first p (places (without_opens c)))) (sym high) ∙ parts.1))

-- a file that is lost
pub record LostFile (a : Cat) (empty : Bool) (m : ℕ) : Type 0 where
  pub file : File
  pub at : file_at a m ≡ Some file
  pub free : file.marked ≡ false
  pub missing : is_named a (record { num = m; seq = file.seq }) ≡ false
  pub empties : cond empty (is_empty file) (not (is_empty file)) ≡ true

pub not_not : (b : Bool) → not b ≡ true → b ≡ false
not_not true h = absurd (cc h)
not_not false h = refl

lost_slot : (a : Cat) (empty : Bool) (m i : ℕ) (s : Slot) → slice_get a.files i ≡ Some s → m ≡ 1 + i → is_lost_slot a empty m s ≡ true → LostFile a empty m
lost_slot a empty m i (Free q) at number h = absurd (cc h)
lost_slot a empty m i (Used f) at number h =
    let p = and_parts (not f.marked && not (is_named a (record { num = m; seq = f.seq }))) (cond empty (is_empty f) (not (is_empty f))) h in
    let q = and_parts (not f.marked) (not (is_named a (record { num = m; seq = f.seq }))) p.0 in
    let place : i ≡ m - 1 = omega (arith, number) in
    record {
      file = f;
      at = file_from a m f (omega (arith, number)) (ap (λ k. slice_get a.files k) (sym place) ∙ at);
      free = not_not f.marked q.0;
      missing = not_not (is_named a (record { num = m; seq = f.seq })) q.1;
      empties = p.1;
    }

pub lost_file : (a : Cat) (empty : Bool) (m : ℕ) → Has (lost a empty) m → LostFile a empty m
lost_file a empty m h =
    let r = has_number (is_lost_slot a empty) 1 a.files m h in lost_slot a empty m r.place r.slot r.at r.number r.passed

pub same_file : (a : Cat) (m : ℕ) (f g : File) → file_at a m ≡ Some f → file_at a m ≡ Some g → f ≡ g
same_file a m f g h k = let both : Some f ≡ Some g = sym h ∙ k in cc both

-- a file is not empty and full
pub apart : (a : Cat) (m : ℕ) → Has (lost a false) m → Has (lost a true) m → ⊥
apart a m h k =
    let f = lost_file a false m h in
    let g = lost_file a true m k in
    let same : f.file ≡ g.file = same_file a m f.file g.file f.at g.at in
    let full : not (is_empty g.file) ≡ true = ap (λ (z : File). not (is_empty z)) (sym same) ∙ f.empties in
    let both : true ≡ false = sym g.empties ∙ not_not (is_empty g.file) full in
    absurd (cc both)

pub numbers_distinct : (passes : ℕ → Slot → Bool) (n : ℕ) (ss : List Slot) → Once (numbers_from passes n ss)
numbers_distinct passes n [] = tt
numbers_distinct passes n (s ∷ ss) = either (passes n s) (numbers_distinct passes (n + 1) ss) where
  above : Has (numbers_from passes (n + 1) ss) n → ⊥
  above h = let r = has_number passes (n + 1) ss n h in let e = r.number in omega (arith, e)

  either : (b : Bool) → Once (numbers_from passes (n + 1) ss) → Once (cond b (n ∷ numbers_from passes (n + 1) ss) (numbers_from passes (n + 1) ss))
  either true d = (above, d)
  either false d = d

-- a lost file is none of the system's
lost_is : (c : Cat) → AreOwned c → ((p : Place) → In (without_entries (without_opens c)) p → Alive (without_entries (without_opens c)) p.entry.fid)
    → (empty : Bool) (m : ℕ) → LostFile (without_entries (without_opens c)) empty m → IsLost (without_entries (without_opens c)) m
lost_is c owned living empty m f = record { high = high (cases_lt 11 m); unnamed = unnamed; free = λ g at. ap (λ (z : File). z.marked) (same_file a m g f.file at f.at) ∙ f.free } where
  a : Cat
  a = without_entries (without_opens c)

  named : Names a (record { num = m; seq = f.file.seq }) → ⊥
  named n = let both : false ≡ true = sym f.missing ∙ names_to a (record { num = m; seq = f.file.seq }) n in absurd (cc both)

  high : (11 < m) ⊎ (m ≤ 11) → 11 < m
  high (inl h) = h
  high (inr low) =
      let l = like_left c a m f.file (less_same (without_opens c)) f.at in
      let free : l.file.marked ≡ false = ap (λ (z : File). z.marked) l.same ∙ f.free in
      let n : Names a (record { num = m; seq = l.file.seq }) = own_names c m l.file low l.at free (owned m l.file low l.at free) in
      absurd (named (subst (λ (z : Fid). Names a z) (ap (λ (z : File). record { num = m; seq = z.seq }) l.same) n))

  unnamed : (p : Place) → In a p → p.entry.fid.num ≡ m → ⊥
  unnamed p i number =
      let l = living p i in
      let same : l.file ≡ f.file = same_file a m l.file f.file (ap (λ k. file_at a k) (sym number) ∙ l.at) f.at in
      let fid : p.entry.fid ≡ record { num = m; seq = f.file.seq } =
      ap (λ k. record { num = k; seq = p.entry.fid.seq }) number ∙ ap (λ s. record { num = m; seq = s }) (sym l.seq ∙ ap (λ (z : File). z.seq) same) in
      named (record { place = p; within = i; same = fid })

-- [SYSLOST] is a directory after step 1
lost_directory : (c : Cat) → KeepsNames c → (g : File) → file_at (without_entries (without_opens c)) 11 ≡ Some g → g.dir ≡ true
lost_directory c k g at =
    let l = like_left c (without_entries (without_opens c)) 11 g (less_same (without_opens c)) at in
    let d = k.lost l.file l.at in ap (λ (z : File). z.dir) (sym l.same) ∙ d.directory

begin : (c : Cat) → KeepsNames c → AreOwned c
    → Unfinished (lost (without_entries (without_opens c)) false ++ lost (without_entries (without_opens c)) true) (without_entries (without_opens c))
begin c k owned = record {
  one = one;
  own = own;
  alive = living;
  fresh = λ m has. fresh m (has_parted (lost a false) (lost a true) m has);
  distinct = once_in_a_row (lost a false) (lost a true) (numbers_distinct (is_lost_slot a false) 1 a.files) (numbers_distinct (is_lost_slot a true) 1 a.files) (apart a);
  placed = placed;
  directory = lost_directory c k;
} where
  a : Cat
  a = without_entries (without_opens c)

  first : (p : Place) → In a p → 11 < p.entry.fid.num → is_first p (places (without_opens c)) ≡ true
  first p i high =
      let s = stays_parts (without_opens c) p (in_less (without_opens c) p i).stays in
      ap (λ b. cond b (is_own p) (is_first p (places (without_opens c)))) (sym (lt-leb p.entry.fid.num 11 high)) ∙ s.1

  one : (p q : Place) → In a p → In a q → p.entry.fid ≡ q.entry.fid → 11 < p.entry.fid.num → p ≡ q
  one p q i j same high =
      first_one p q (places (without_opens c)) same (first p i high) (first q j (subst (λ (z : Fid). 11 < z.num) same high))

  own : (p : Place) → In a p → p.entry.fid.num ≤ 11 → is_own p ≡ true
  own p i low =
      let s = stays_parts (without_opens c) p (in_less (without_opens c) p i).stays in
      ap (λ b. cond b (is_own p) (is_first p (places (without_opens c)))) (sym (le-leb p.entry.fid.num 11 low)) ∙ s.1

  living : (p : Place) → In a p → Alive a p.entry.fid
  living p i =
      let s = stays_parts (without_opens c) p (in_less (without_opens c) p i).stays in alive_over (without_opens c) a p.entry.fid (less_same (without_opens c)) s.0

  fresh : (m : ℕ) → Has (lost a false) m ⊎ Has (lost a true) m → IsLost a m
  fresh m (inl h) = lost_is c owned living false m (lost_file a false m h)
  fresh m (inr h) = lost_is c owned living true m (lost_file a true m h)

  placed : (n : ℕ) (f : File) (e : DirEnt) → file_at a n ≡ Some f → Has f.entries e → f.dir ≡ true
  placed n f e at has =
      let l = less_from (without_opens c) n f at in
      let es : Has (less_file (without_opens c) n l.file).entries e = subst (λ (z : File). Has z.entries e) (sym l.same) has in
      let r = has_filtered (λ (d : DirEnt). stays (without_opens c) (record { dir = n; entry = d })) l.file.entries e es in
      let i = stays_in c (record { dir = n; entry = e }) owned r.1 in
      let same : l.file ≡ i.file = same_file (without_opens c) n l.file i.file l.at i.at in
      ap (λ (z : File). z.dir) (sym l.same) ∙ (ap (λ (z : File). z.dir) same ∙ i.dir)

-- all lost files are entered, or there is no room for them
pub finished : (c b : Cat) → KeepsNames c → AreOwned c → with_lost (without_entries (without_opens c)) ≡ Some b → Unfinished [] b
finished c b k owned h = lost_on Unfinished step skip (without_entries (without_opens c)) b h (begin c k owned)
