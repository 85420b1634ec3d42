-- The catalogue of a fresh volume has each system file's entry, no chain of directories, and no lost file.
use Rattle.std.proofs.Common.{◌≡◌, ◌≢◌, ◌∙◌, ◌-◌, ◌<◌, ◌≤◌, ◌⊎◌, ℕ, zero, suc, Bool, true, false, List, [], ◌∷◌, ◌++◌, Some, None, map, refl, sym, ap, subst, arith, append-nil, ⊎_elim}
use Rattle.std.specs.Prelude.{◌||◌, ◌==◌, not, slice_get, if◌then◌else◌}
use Rattle.std.specs.List.{range_with_len, list_any, list_all}
use Rattle.std.proofs.lemmas.Bool.{and_parts, cases_lt, cases_eq, both_ways, eq-eqb, ne_eqb}
use Rattle.plain_cat.specs.declared.entries.DirEnt.{DirEnt}
use Rattle.plain_cat.specs.declared.cat.Cat.{Cat}
use Rattle.plain_cat.specs.declared.cat.Slot.{Slot}
use Rattle.plain_cat.specs.declared.cat.Slot.TheVariants.{Used, Free}
use Rattle.plain_rules.specs.declared.places.Place.{Place}
use Rattle.plain_rules.specs.Lookups.{slot_at, file_at}
use Rattle.plain_rules.specs.Mending.{places, same_fid, system_names, is_own, stays, less_entries, is_lost, is_lost_slot, lost, stripped}
use Rattle.vol_parts.specs.Catalogues.{plain_entry}
use Rattle.vol_parts.specs.Fatal.{is_marked_dir, NamesFile, Path, HasNoRoom}
use Rattle.plain_rules.specs.SystemFiles.{is_system_entry}
use Rattle.plain_rules.specs.SystemFiles.{entries_of as entries_at}
use Rattle.vol_parts.specs.Fatal.Path.{One, More}
use Rattle.vol_init.specs.declared.layout.Layout.{Layout}
use Rattle.vol_init.specs.Layouts.{main_entries, system_slot, fresh}
use Rattle.vol_init.proofs.Ranges.{by_number, none_from, same_from, no_places, no_file}

-- ---- files

-- no number above 11 has a file, nor 0
pub no_other_file : (l : Layout) (n : ℕ) → 11 < n → file_at (fresh l) n ≡ None
unfolding fresh
no_other_file l n high =
    let some : n ≢ 0 = λ e. omega arith in
    let systems = map (system_slot l) (range_with_len 1 11) in
    rw (ne_eqb n 0 some) (no_file systems (l.files - 11) 0 (n - 1) (omega arith))

pub file_of_number : (l : Layout) (n : ℕ) → 1 ≤ n → n ≤ 11 → slot_at (fresh l) n ≡ Some (system_slot l n)
unfolding fresh
file_of_number l n low high = by_number (λ k. slot_at (fresh l) k ≡ Some (system_slot l k)) refl refl refl refl refl refl refl refl refl refl refl n low high

-- ---- entries of directories

-- no directory but the master file directory has entries
no_entries : (l : Layout) (n : ℕ) → n ≢ 4 → entries_at (fresh l) n ≡ []
no_entries l zero other = refl
no_entries l (suc m) other =
    ⊎_elim (λ (h : 11 < suc m). rw (no_other_file l (suc m) h) refl)
    (λ (h : suc m ≤ 11). rw (file_of_number l (suc m) (omega arith) h) (by_dir _))
    (cases_lt 11 (suc m)) where
      by_dir : (t : Bool) → (if t then (if suc m == 4 then map plain_entry main_entries else []) else []) ≡ []
      by_dir true = rw (ne_eqb (suc m) 4 other) refl
      by_dir false = refl

main_list : (l : Layout) → entries_at (fresh l) 4 ≡ map plain_entry main_entries
unfolding fresh
main_list l = refl

pub system_entries : (l : Layout) (n : ℕ) → 1 ≤ n → n ≤ 11 → list_any (is_system_entry n) (entries_at (fresh l) 4) ≡ true
unfolding fresh is_system_entry is_own system_names main_entries
system_entries l n low high =
    by_number (λ k. list_any (is_system_entry k) (entries_at (fresh l) 4) ≡ true) refl refl refl refl refl refl refl refl refl refl refl n low high

marked_none : (l : Layout) (n : ℕ) → 1 ≤ n → n ≤ 11 → is_marked_dir (file_at (fresh l) n) ≡ false
marked_none l n low high = rw (file_of_number l n low high) refl

pub no_marked_dir : (l : Layout) (n : ℕ) → is_marked_dir (file_at (fresh l) n) ≡ false
no_marked_dir l zero = refl
no_marked_dir l (suc m) =
    ⊎_elim (λ (h : 11 < suc m). rw (no_other_file l (suc m) h) refl) (λ (h : suc m ≤ 11). marked_none l (suc m) (omega arith) h) (cases_lt 11 (suc m))

-- ---- chains

-- only the master file directory's own entry leads to it
leads_on : DirEnt → Bool
leads_on e = not (e.fid.num == 4) || is_system_entry 4 e

all_lead_on : list_all leads_on (map plain_entry main_entries) ≡ true
unfolding leads_on is_system_entry is_own system_names main_entries
all_lead_on = refl

at_place : {X : Type 0} (p : X → Bool) (xs : List X) (i : ℕ) (x : X) → list_all p xs ≡ true → slice_get xs i ≡ Some x → p x ≡ true
at_place p [] i x all e = absurd (cc)
at_place {X} p (y ∷ ys) zero x all e = let same : y ≡ x = cc in subst (λ (z : X). p z ≡ true) same (and_parts (p y) (list_all p ys) all).0
at_place {X} p (y ∷ ys) (suc i) x all e = at_place p ys i x (and_parts (p y) (list_all p ys) all).1 e

names_from_main : (l : Layout) (n m : ℕ) → NamesFile (fresh l) n m → (n ≡ 4) × (m ≢ 4)
unfolding leads_on
names_from_main l n m h = ⊎_elim (λ (e : n ≡ 4). (e, from_main e)) (λ (e : n ≢ 4). absurd (from_other e)) (four n) where
  four : (k : ℕ) → (k ≡ 4) ⊎ (k ≢ 4)
  four k = cases_eq k 4

  from_other : n ≢ 4 → ⊥
  from_other e = let there = h.there in let none = no_entries l n e in let past : slice_get [] h.place ≡ Some h.entry = rw none at there in cc

  from_main : n ≡ 4 → m ≢ 4
  from_main e four =
      let there = h.there in
      let listed : slice_get (map plain_entry main_entries) h.place ≡ Some h.entry = ap (λ xs. slice_get xs h.place) (sym (ap (entries_at (fresh l)) e ∙ main_list l)) ∙ there in
      let on = at_place leads_on (map plain_entry main_entries) h.place h.entry all_lead_on listed in
      let number : (h.entry.fid.num == 4) ≡ true = eq-eqb h.entry.fid.num 4 (h.names ∙ four) in
      let own : is_system_entry 4 h.entry ≡ true = rw number at on in
      both_ways (is_system_entry 4 h.entry) (h.other e) own

pub path_from_main : (l : Layout) (n m : ℕ) → Path (fresh l) n m → (n ≡ 4) × (m ≢ 4)
path_from_main l n m (One h) = names_from_main l n m h
path_from_main l n m (More p h) =
    let before = path_from_main l n _ p in
    absurd (before.1 (names_from_main l _ m h).0)

pub no_loop : (l : Layout) (n : ℕ) → Path (fresh l) n n → ⊥
no_loop l n p = let e = path_from_main l n n p in e.1 e.0

-- ---- lost files

-- the places of the master file directory's entries
abbrev pub main_places : List Place
main_places = map (λ e. record { dir = 4; entry = e }) (map plain_entry main_entries)

pub places_are : (l : Layout) → places (fresh l) ≡ main_places
unfolding fresh
places_are l = ap (λ ps. main_places ++ ps) (no_places 12 (l.files - 11) 0) ∙ append-nil main_places

stays_all : (l : Layout) (n : ℕ) → 1 ≤ n → n ≤ 11 → less_entries (fresh l) n (system_slot l n) ≡ system_slot l n
unfolding fresh stays is_own system_names main_entries
stays_all l n low high = by_number (λ k. less_entries (fresh l) k (system_slot l k) ≡ system_slot l k) refl refl refl refl refl refl refl refl refl refl refl n low high

pub stripped_is : (l : Layout) → stripped (fresh l) ≡ fresh l
unfolding fresh
stripped_is l = let same = same_from (less_entries (fresh l)) (system_slot l) (Free 0) 1 11 (l.files - 11) (λ n low high. stays_all l n low (omega arith)) (λ n. refl) in ap (λ (fs : List Slot). record (fresh l) { files = fs }) same

-- the file of a slot is lost
abbrev pub is_lost_in : Cat → ℕ → Slot → Bool
is_lost_in c n (Free seq) = false
is_lost_in c n (Used f) = is_lost c n f

pub none_lost : (l : Layout) (n : ℕ) → 1 ≤ n → n ≤ 11 → is_lost_in (fresh l) n (system_slot l n) ≡ false
unfolding same_fid main_entries
none_lost l n low high = by_number (λ k. is_lost_in (fresh l) k (system_slot l k) ≡ false)
    (rw (places_are l) refl) (rw (places_are l) refl) (rw (places_are l) refl) (rw (places_are l) refl) (rw (places_are l) refl) (rw (places_are l) refl)
    (rw (places_are l) refl) (rw (places_are l) refl) (rw (places_are l) refl) (rw (places_are l) refl) (rw (places_are l) refl) n low high

lost_none : (l : Layout) (empty : Bool) → lost (fresh l) empty ≡ []
unfolding fresh
lost_none l empty = none_from (is_lost_slot (fresh l) empty) (system_slot l) (Free 0) 1 11 (l.files - 11) (λ n low high. rw (none_lost l n low (omega arith)) refl) (λ n. refl)

pub room_for_all : (l : Layout) (n : ℕ) → HasNoRoom (fresh l) n → ⊥
room_for_all l n h =
    let none : lost (stripped (fresh l)) false ≡ [] = ap (λ (c : Cat). lost c false) (stripped_is l) ∙ lost_none l false in
    let waiting = h.waiting in
    no_such h.earlier h.later (sym none ∙ waiting) where
      no_such : (earlier later : List ℕ) → [] ≡ earlier ++ n ∷ later → ⊥
      no_such [] later e = cc
      no_such (x ∷ earlier) later e = cc
