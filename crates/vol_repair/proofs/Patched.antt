-- What holds of the catalogue that mending gets from a repair.
use Rattle.std.proofs.Common.{◌≡◌, ◌≢◌, ◌∙◌, ◌<◌, ◌≤◌, ◌+◌, ◌-◌, ℕ, zero, suc, Bool, true, false, not, List, [], ◌∷◌, Option, Some, None, map, slice_get, refl, sym, ap, subst, inl, inr, arith, cond}
use Rattle.std.specs.Prelude.{◌==◌, ◌&&◌, ◌||◌, nat_le, is_some}
use Rattle.std.specs.List.{range_with_len, list_any}
use Rattle.std.proofs.lemmas.Bool.{and_parts, or_left, or_right, eqb-true, eq-eqb, ne_eqb, le-leb, not-false, cases_Bool}
use Rattle.base_words.proofs.Listing.{same_or_not, any_has, has_any, has_passed}
use Rattle.fx_home.specs.declared.home.Home.{Home}
use Rattle.fx_home.specs.Homes.{IsWithinLimits}
use Rattle.fx_header.specs.declared.slot.Hdr.{Hdr}
use Rattle.fx_dir.specs.Directory.{directory}
use Rattle.base_words.specs.Fields.{Block}
use Rattle.plain_cat.specs.declared.entries.DirEnt.{DirEnt}
use Rattle.plain_cat.specs.declared.ids.Fid.{Fid}
use Rattle.plain_cat.specs.declared.ids.Uic.{Uic}
use Rattle.plain_cat.specs.declared.cat.Cat.{Cat}
use Rattle.plain_cat.specs.declared.cat.File.{File}
use Rattle.plain_cat.specs.declared.cat.Slot.{Slot}
use Rattle.plain_cat.specs.declared.cat.Slot.TheVariants.{Used, Free}
use Rattle.plain_cat.specs.declared.cat.QuotaRow.{QuotaRow}
use Rattle.plain_rules.specs.Lookups.{file_at, file_in, of_seq, in_use, row_of}
use Rattle.plain_rules.specs.Answers.{has_entries}
use Rattle.plain_rules.specs.Mending.{is_own, system_names}
use Rattle.plain_rules.specs.SystemFiles.{system_seq, listed, entries_of, is_system_entry}
use Rattle.plain_mends.specs.Sound.{IsSystemFile}
use Rattle.vol_parts.specs.declared.finding.Finding.{Finding}
use Rattle.vol_parts.specs.declared.finding.Finding.TheVariants as finding
use Rattle.vol_parts.specs.Volumes.{Volume, volume, factor, fields, told, runs, body}
use Rattle.vol_parts.specs.Catalogues.{plain_entry, plain_entries, file_of, slot_of, catalogue}
use Rattle.vol_parts.specs.Fatal.{is_system_header, has_one_header, are_stated, stated_clusters, is_system_file, is_marked_dir, NamesFile, Path}
use Rattle.vol_parts.specs.Fatal.Path.{One, More}
use Rattle.vol_faults.specs.CatFindings.{IsFatalOf}
use Rattle.vol_init.specs.Layouts.{system_owner, main_entries}
use Rattle.vol_init.proofs.Ranges.{by_number}
use Rattle.vol_mends.specs.Weak.{shut}
use Rattle.vol_mends.proofs.WeakSteps.{HasSystems, HasOwners}
use Rattle.vol_sound.specs.Sound.{is_sound}
use Rattle.vol_sound.specs.Freeing.{HasSystem, seq_at}
use Rattle.vol_sound.specs.Begun.{is_kept_file, has_own_entry, lacks_entry, with_listed, emptied, kept_slot, begun_slot, begun_files, begun, each_listed, with_each, names_main, main_without, without_own, loop_without, without_loops, has_row, owned, with_owners, patched}
use Rattle.vol_sound.specs.Leading.{leads_back}
use Rattle.vol_sound.proofs.Cuts.{all_has, range_in}
use Rattle.vol_sound.proofs.KeptFiles.{slot_used, emptied_open, IsSystemHeader, system_fields, main_listed}
use Rattle.vol_sound.proofs.Rowed.{each_rowed}
use Rattle.vol_sound.proofs.Unlooped.{no_loop_is_left}
use Rattle.vol_repair.specs.Alike.{bare, IsSameBut}
use Rattle.vol_sound.proofs.Unlooped.{file_relisted}

-- ---- other entries in each directory

abbrev Change : Type 0
Change = ℕ → List DirEnt → List DirEnt

abbrev refiled : Change → ℕ → Option File → Option File
refiled change n None = None
refiled change n (Some f) = Some (record f { entries = change n f.entries })

systems_relisted : (change : Change) (c : Cat) → HasSystems c → HasSystems (with_each change c)
systems_relisted change c h n from to =
    let s = h n from to in
    (record s.0 { entries = change n s.0.entries }, file_relisted change c n ∙ ap (refiled change n) s.1, record { seq = s.2.seq; dir = s.2.dir; unmarked = s.2.unmarked })

-- a test that holds of an entry of the master file directory, and goes on to hold
any_relisted : (p : DirEnt → Bool) (change : Change) (c : Cat) (f : File) → file_at c 4 ≡ Some f → f.dir ≡ true → ((es : List DirEnt) → list_any p es ≡ true → list_any p (change 4 es) ≡ true)
    → list_any p (entries_of c 4) ≡ true → list_any p (entries_of (with_each change c) 4) ≡ true
any_relisted p change c f there d more e =
    let was : list_any p f.entries ≡ true = sym (ap (λ (o : Option File). list_any p (listed o)) there ∙ ap (λ b. list_any p (cond b f.entries [])) d) ∙ e in
    ap (λ (o : Option File). list_any p (listed o)) (file_relisted change c 4 ∙ ap (refiled change 4) there) ∙ ap (λ b. list_any p (cond b (change 4 f.entries) [])) d ∙ more f.entries was

-- a file that is marked for delete has no entries
abbrev AreMarkedEmpty : Cat → Type 0
AreMarkedEmpty c = (n : ℕ) (f : File) → file_at c n ≡ Some f → f.marked ≡ true → f.entries ≡ []

empty_relisted : (change : Change) (c : Cat) → ((n : ℕ) → change n [] ≡ []) → AreMarkedEmpty c → AreMarkedEmpty (with_each change c)
empty_relisted change c none h n f at m = by_file (file_at c n) refl (sym (file_relisted change c n) ∙ at) where
  by_file : (o : Option File) → file_at c n ≡ o → refiled change n o ≡ Some f → f.entries ≡ []
  by_file None e k = absurd (let z : None ≡ Some f = k in cc)
  by_file (Some g) e k =
      let same : record g { entries = change n g.entries } ≡ f = (let z : Some (record g { entries = change n g.entries }) ≡ Some f = k in cc) in
      let marked : g.marked ≡ true = ap (λ (x : File). x.marked) same ∙ m in
      sym (ap (λ (x : File). x.entries) same) ∙ (ap (change n) (h n g e marked) ∙ none n)

-- ---- other owners

abbrev rowed : Cat → File → File
rowed c f = cond (has_row c f.owner.0) f (record f { owner = record { 0 = system_owner } })

abbrev reslot : Cat → Option Slot → Option Slot
reslot c None = None
reslot c (Some s) = Some (owned c s)

abbrev reowned : Cat → Option File → Option File
reowned c None = None
reowned c (Some f) = Some (rowed c f)

owned_at : (c : Cat) (ss : List Slot) (i : ℕ) → slice_get (map (owned c) ss) i ≡ reslot c (slice_get ss i)
owned_at c [] i = refl
owned_at c (s ∷ ss) zero = refl
owned_at c (s ∷ ss) (suc i) = owned_at c ss i

in_owned : (c : Cat) (o : Option Slot) → file_in (reslot c o) ≡ reowned c (file_in o)
in_owned c None = refl
in_owned c (Some (Free seq)) = refl
in_owned c (Some (Used f)) = by_row (has_row c f.owner.0) where
  by_row : (t : Bool) → file_in (Some (cond t (Used f) (Used (record f { owner = record { 0 = system_owner } })))) ≡ Some (cond t f (record f { owner = record { 0 = system_owner } }))
  by_row true = refl
  by_row false = refl

file_owned : (c : Cat) (n : ℕ) → file_at (with_owners c) n ≡ reowned c (file_at c n)
unfolding with_owners
file_owned c n = by_test (n == 0) where
  by_test : (t : Bool) → file_in (cond t None (slice_get (map (owned c) c.files) (n - 1))) ≡ reowned c (file_in (cond t None (slice_get c.files (n - 1))))
  by_test true = refl
  by_test false = ap file_in (owned_at c c.files (n - 1)) ∙ in_owned c (slice_get c.files (n - 1))

-- the file but for its owner
record IsOwnedOf (g f : File) : Type 0 where
  pub seq : f.seq ≡ g.seq
  pub dir : f.dir ≡ g.dir
  pub marked : f.marked ≡ g.marked
  pub entries : f.entries ≡ g.entries

rowed_of : (c : Cat) (g : File) → IsOwnedOf g (rowed c g)
rowed_of c g = by_row (has_row c g.owner.0) where
  by_row : (t : Bool) → IsOwnedOf g (cond t g (record g { owner = record { 0 = system_owner } }))
  by_row true = record { seq = refl; dir = refl; marked = refl; entries = refl }
  by_row false = record { seq = refl; dir = refl; marked = refl; entries = refl }

systems_owned : (c : Cat) → HasSystems c → HasSystems (with_owners c)
systems_owned c h n from to =
    let s = h n from to in
    let o = rowed_of c s.0 in
    (rowed c s.0, file_owned c n ∙ ap (reowned c) s.1, record { seq = o.seq ∙ s.2.seq; dir = o.dir ∙ s.2.dir; unmarked = o.marked ∙ s.2.unmarked })

listed_owned : (c : Cat) (n : ℕ) → entries_of (with_owners c) n ≡ entries_of c n
listed_owned c n = ap listed (file_owned c n) ∙ by_file (file_at c n) where
  by_file : (o : Option File) → listed (reowned c o) ≡ listed o
  by_file None = refl
  by_file (Some g) = let o = rowed_of c g in ap (λ b. cond b (rowed c g).entries []) o.dir ∙ ap (λ es. cond g.dir es []) o.entries

use_owned : (c : Cat) (fid : Fid) → is_some (in_use (with_owners c) fid) ≡ is_some (in_use c fid)
use_owned c fid = ap (λ o. is_some (of_seq fid.seq o)) (file_owned c fid.num) ∙ by_file (file_at c fid.num) where
  by_seq : (t : Bool) (f g : File) → is_some (cond t (Some f) None) ≡ is_some (cond t (Some g) None)
  by_seq true f g = refl
  by_seq false f g = refl

  by_file : (o : Option File) → is_some (of_seq fid.seq (reowned c o)) ≡ is_some (of_seq fid.seq o)
  by_file None = refl
  by_file (Some g) = ap (λ s. is_some (cond (s == fid.seq) (Some (rowed c g)) None)) (rowed_of c g).seq ∙ by_seq (g.seq == fid.seq) (rowed c g) g

names_owned : (c : Cat) (n m : ℕ) → NamesFile (with_owners c) n m → NamesFile c n m
names_owned c n m h = record {
  place = h.place;
  entry = h.entry;
  there = ap (λ es. slice_get es h.place) (sym (listed_owned c n)) ∙ h.there;
  used = sym (use_owned c h.entry.fid) ∙ h.used;
  names = h.names;
  other = h.other;
}

path_owned : (c : Cat) (n m : ℕ) → Path (with_owners c) n m → Path c n m
path_owned c n m (One h) = One (names_owned c n m h)
path_owned c n m (More {k} p h) = More (path_owned c n k p) (names_owned c k m h)

empty_owned : (c : Cat) → AreMarkedEmpty c → AreMarkedEmpty (with_owners c)
empty_owned c h n f at m = by_file (file_at c n) refl (sym (file_owned c n) ∙ at) where
  by_file : (o : Option File) → file_at c n ≡ o → reowned c o ≡ Some f → f.entries ≡ []
  by_file None e k = absurd (let z : None ≡ Some f = k in cc)
  by_file (Some g) e k =
      let same : rowed c g ≡ f = (let z : Some (rowed c g) ≡ Some f = k in cc) in
      let o = rowed_of c g in
      sym (ap (λ (x : File). x.entries) same) ∙ (o.entries ∙ h n g e (sym o.marked ∙ (ap (λ (x : File). x.marked) same ∙ m)))

-- ---- the entries of the system files

own_stays : (n : ℕ) (es : List DirEnt) → list_any (is_system_entry n) es ≡ true → list_any (is_system_entry n) (main_without 4 es) ≡ true
unfolding is_system_entry
own_stays n es e =
    let h = any_has (is_system_entry n) es e in
    has_any (is_system_entry n) (main_without 4 es) h.0 (has_passed (λ x. not (names_main x) || is_system_entry 4 x) es h.0 h.1 (stays h.0 h.2)) h.2
  where
    stays : (x : DirEnt) → is_system_entry n x ≡ true → (not (names_main x) || is_system_entry 4 x) ≡ true
    stays x s = elim (same_or_not n 4) [
      | inl four ↦ or_right (not (names_main x)) (is_system_entry 4 x) (subst (λ (k : ℕ). is_system_entry k x ≡ true) four s)
      | inr ne ↦ (
          let p = and_parts (is_own (record { dir = 4; entry = x })) ((x.fid.num == n) && (x.fid.seq == system_seq n)) s in
          let num : x.fid.num ≡ n = eqb-true x.fid.num n (and_parts (x.fid.num == n) (x.fid.seq == system_seq n) p.1).0 in
          let other : (x.fid.num == 4) ≡ false = ne_eqb x.fid.num 4 (λ z. ne (sym num ∙ z)) in
          ap (λ b. not (b && (x.fid.seq == 4)) || is_system_entry 4 x) other)
    ]

main_own : (n : ℕ) → 1 ≤ n → n ≤ 11 → list_any (is_system_entry n) (map plain_entry main_entries) ≡ true
unfolding is_system_entry is_own system_names main_entries
main_own n low high = by_number (λ k. list_any (is_system_entry k) (map plain_entry main_entries) ≡ true) refl refl refl refl refl refl refl refl refl refl refl n low high

-- ---- what a repair begins with

along : (f : ℕ → Slot) (a k i : ℕ) → i < k → slice_get (map f (range_with_len a k)) i ≡ Some (f (a + i))
along f a zero i lt = absurd (omega arith)
along f a (suc k) zero lt = ap (λ x. Some (f x)) (let e : a ≡ a + 0 = omega arith in e)
along f a (suc k) (suc i) lt = along f (a + 1) k i (omega arith) ∙ ap (λ x. Some (f x)) (let e : a + 1 + i ≡ a + suc i = omega arith in e)

along_is : (f : ℕ → Slot) (a k i : ℕ) (s : Slot) → slice_get (map f (range_with_len a k)) i ≡ Some s → f (a + i) ≡ s
along_is f a zero i s e = absurd (cc e)
along_is f a (suc k) zero s e = ap f (let z : a + 0 ≡ a = omega arith in z) ∙ (let z : f a ≡ s = cc e in z)
along_is f a (suc k) (suc i) s e = ap f (let z : a + suc i ≡ a + 1 + i = omega arith in z) ∙ along_is f (a + 1) k i s e

begun_at : (v : Volume) (n : ℕ) (f : File) → 1 ≤ n → n ≤ v.home.files → begun_slot v n ≡ Used f → file_at (begun v) n ≡ Some f
unfolding begun begun_files
begun_at v n f from to is =
    let ne : (n == 0) ≡ false = ne_eqb n 0 (omega arith) in
    ap (λ t. file_in (cond t None (slice_get (map (begun_slot v) (range_with_len 1 v.home.files)) (n - 1)))) ne
    ∙ (ap file_in (along (begun_slot v) 1 v.home.files (n - 1) (omega arith))
    ∙ (ap (λ k. file_in (Some (begun_slot v k))) (let z : 1 + (n - 1) ≡ n = omega arith in z) ∙ ap (λ s. file_in (Some s)) is))

slot_file : (o : Option Slot) (f : File) → file_in o ≡ Some f → o ≡ Some (Used f)
slot_file None f e = absurd (let z : None ≡ Some f = e in cc)
slot_file (Some (Free seq)) f e = absurd (let z : None ≡ Some f = e in cc)
slot_file (Some (Used g)) f e = let same : g ≡ f = (let z : Some g ≡ Some f = e in cc) in ap (λ (x : File). Some (Used x)) same

begun_from : (v : Volume) (n : ℕ) (f : File) → file_at (begun v) n ≡ Some f → begun_slot v n ≡ Used f
unfolding begun begun_files
begun_from v n f e = by_test (n == 0) refl e where
  by_test : (t : Bool) → (n == 0) ≡ t → file_in (cond t None (slice_get (map (begun_slot v) (range_with_len 1 v.home.files)) (n - 1))) ≡ Some f → begun_slot v n ≡ Used f
  by_test true z k = absurd (let y : None ≡ Some f = k in cc)
  by_test false z k =
      let ne : n ≢ 0 = (λ y. let x : true ≡ false = sym (eq-eqb n 0 y) ∙ z in cc) in
      ap (begun_slot v) (let y : n ≡ 1 + (n - 1) = omega arith in y) ∙ along_is (begun_slot v) 1 v.home.files (n - 1) (Used f) (slot_file _ f k)

-- what the number of a system file has
record IsBegunSystem (v : Volume) (n : ℕ) (es : List DirEnt) : Type 0 where
  pub file : File
  pub slot : begun_slot v n ≡ Used file
  pub is : IsSystemFile n file
  pub entries : file.entries ≡ es

system_seq_of : (v : Volume) (n : ℕ) (h : Hdr) → is_system_file v n ≡ true → fields v n ≡ Some h → h.seq ≡ system_seq n
unfolding is_system_file
system_seq_of v n h e used =
    let p = and_parts (is_system_header n (fields v n)) (has_one_header (fields v n) (told v n) && are_stated v n (stated_clusters v n) (runs v n)) e in
    let q : is_system_header n (Some h) ≡ true = sym (ap (is_system_header n) used) ∙ p.0 in
    eqb-true h.seq (system_seq n) (and_parts (h.seq == system_seq n) _ q).0

kept_low : (v : Volume) (n : ℕ) → n ≤ 11 → begun_slot v n ≡ kept_slot v n
unfolding begun_slot is_kept_file
kept_low v n to = ap (λ t. cond t (kept_slot v n) (Free (seq_at v n))) (or_left (nat_le n 11) (is_sound v n) (le-leb n 11 to))

neither : (t : Bool) → cond {A = List DirEnt} t [] [] ≡ []
neither true = refl
neither false = refl

module _ (home : Home) (first : List Block) (within : IsWithinLimits home) (system : HasSystem (volume home first)) where
  abbrev v : Volume
  v = volume home first

  header : (n : ℕ) → 1 ≤ n → n ≤ 11 → IsSystemHeader v n
  header n from to = system_fields v n (system.files.sound n from to)

  abbrev file : (n : ℕ) → IsSystemHeader v n → File
  file n h = file_of (factor v) n h.header (body v n)

  file_is : (n : ℕ) (from : 1 ≤ n) (to : n ≤ 11) → IsSystemFile n (file n (header n from to))
  file_is n from to =
      let h = header n from to in
      record { seq = system_seq_of v n h.header (system.files.sound n from to) h.used; dir = h.dir; unmarked = h.unmarked }

  -- a system file with what it had, or with the entries that the master file directory gets
  kept_listed : (n : ℕ) (from : 1 ≤ n) (to : n ≤ 11) → ((n == 4) && lacks_entry v) ≡ true → IsBegunSystem v n (map plain_entry main_entries)
  kept_listed n from to lacks =
      let h = header n from to in
      let i = file_is n from to in
      record {
        file = record (file n h) { entries = map plain_entry main_entries };
        slot = kept_low v n to ∙ (ap (λ t. cond t (with_listed (map plain_entry main_entries) (slot_of v n)) (emptied (slot_of v n))) lacks ∙ ap (with_listed (map plain_entry main_entries)) (slot_used v n h.header h.used));
        is = record { seq = i.seq; dir = i.dir; unmarked = i.unmarked };
        entries = refl;
      }

  kept_whole : (n : ℕ) (from : 1 ≤ n) (to : n ≤ 11) → ((n == 4) && lacks_entry v) ≡ false → IsBegunSystem v n (file n (header n from to)).entries
  kept_whole n from to lacks =
      let h = header n from to in
      record {
        file = file n h;
        slot = kept_low v n to
            ∙ (ap (λ t. cond t (with_listed (map plain_entry main_entries) (slot_of v n)) (emptied (slot_of v n))) lacks
            ∙ (ap emptied (slot_used v n h.header h.used) ∙ emptied_open (factor v) n h.header (body v n) h.unmarked));
        is = file_is n from to;
        entries = refl;
      }

  enough : (n : ℕ) → n ≤ 11 → n ≤ home.files
  enough n to = let low = within.files_low in omega (arith, low)

  begun_systems : HasSystems (begun v)
  begun_systems n from to = elim (cases_Bool ((n == 4) && lacks_entry v)) [
    | inl lacks ↦ (let k = kept_listed n from to lacks in (k.file, begun_at v n k.file from (enough n to) k.slot, k.is))
    | inr whole ↦ (let k = kept_whole n from to whole in (k.file, begun_at v n k.file from (enough n to) k.slot, k.is))
  ]

  -- the entries of the master file directory
  main_by : (es : List DirEnt) → IsBegunSystem v 4 es → entries_of (begun v) 4 ≡ es
  main_by es k =
      ap (λ (o : Option File). listed o) (begun_at v 4 k.file (omega arith) (enough 4 (omega arith)) k.slot) ∙ (ap (λ b. cond b k.file.entries []) k.is.dir ∙ k.entries)

  begun_entries : (n : ℕ) → 1 ≤ n → n ≤ 11 → list_any (is_system_entry n) (entries_of (begun v) 4) ≡ true
  unfolding lacks_entry has_own_entry
  begun_entries n from to = elim (cases_Bool (lacks_entry v)) [
    | inl lacks ↦ ap (λ es. list_any (is_system_entry n) es) (main_by (map plain_entry main_entries) (kept_listed 4 (omega arith) (omega arith) lacks)) ∙ main_own n from to
    | inr whole ↦ (
        let h = header 4 (omega arith) (omega arith) in
        let own : list_any (is_system_entry n) (entries_of (catalogue v) 4) ≡ true = all_has (has_own_entry v) (range_with_len 1 11) n (not-false _ whole) (range_in 1 11 n from (omega (arith, to))) in
        let there : entries_of (catalogue v) 4 ≡ plain_entries (directory (body v 4)) = main_listed v h.header (enough 4 (omega arith)) h.used h.dir in
        let same : (file 4 h).entries ≡ plain_entries (directory (body v 4)) = ap (λ b. cond b (plain_entries (directory (body v 4))) []) h.dir in
        ap (λ es. list_any (is_system_entry n) es) (main_by (file 4 h).entries (kept_whole 4 (omega arith) (omega arith) whole) ∙ (same ∙ sym there)) ∙ own)
  ]

  emptied_none : (s : Slot) (f : File) → emptied s ≡ Used f → f.marked ≡ true → f.entries ≡ []
  emptied_none (Free seq) f e m = absurd (cc e)
  emptied_none (Used g) f e m = by_mark g.marked refl e where
    by_mark : (t : Bool) → g.marked ≡ t → cond t (Used (record g { entries = [] })) (Used g) ≡ Used f → f.entries ≡ []
    by_mark true z k = let same : record g { entries = [] } ≡ f = (let y : Used (record g { entries = [] }) ≡ Used f = k in cc) in sym (ap (λ (x : File). x.entries) same)
    by_mark false z k =
        let same : g ≡ f = (let y : Used g ≡ Used f = k in cc) in
        let y : false ≡ true = sym z ∙ (ap (λ (x : File). x.marked) same ∙ m) in
        absurd (cc y)

  begun_empty : AreMarkedEmpty (begun v)
  unfolding begun_slot
  begun_empty n f at m = by_kept (is_kept_file v n) (begun_from v n f at) where
    four : ((n == 4) && lacks_entry v) ≡ true → f.entries ≡ []
    four t =
        let is : n ≡ 4 = eqb-true n 4 (and_parts (n == 4) (lacks_entry v) t).0 in
        let s = begun_systems 4 (omega arith) (omega arith) in
        let same : Some s.0 ≡ Some f = sym s.1 ∙ (ap (λ k. file_at (begun v) k) (sym is) ∙ at) in
        let one : s.0 ≡ f = cc same in
        let z : false ≡ true = sym s.2.unmarked ∙ (ap (λ (x : File). x.marked) one ∙ m) in
        absurd (cc z)

    by_lack : (t : Bool) → ((n == 4) && lacks_entry v) ≡ t → cond t (with_listed (map plain_entry main_entries) (slot_of v n)) (emptied (slot_of v n)) ≡ Used f → f.entries ≡ []
    by_lack true t k = four t
    by_lack false t k = emptied_none (slot_of v n) f k m

    by_kept : (t : Bool) → cond t (kept_slot v n) (Free (seq_at v n)) ≡ Used f → f.entries ≡ []
    by_kept true k = by_lack ((n == 4) && lacks_entry v) refl k
    by_kept false k = absurd (cc k)

  -- ---- what mending gets

  main_empty : (n : ℕ) → main_without n [] ≡ []
  main_empty n = neither (n == 4)

  loop_empty : (c : Cat) (n : ℕ) → loop_without c n [] ≡ []
  loop_empty c n = neither (not (n == 4) && leads_back c n)

  abbrev own : Cat
  own = without_own (begun v)

  own_systems : HasSystems own
  unfolding without_own
  own_systems = systems_relisted main_without (begun v) begun_systems

  loops_systems : HasSystems (without_loops own)
  unfolding without_loops
  loops_systems = systems_relisted (loop_without own) own own_systems

  pub patched_systems : HasSystems (patched v)
  unfolding patched
  patched_systems = systems_owned (without_loops own) loops_systems

  main_dir : (c : Cat) → HasSystems c → (f : File) × (file_at c 4 ≡ Some f) × (f.dir ≡ true)
  main_dir c h = let s = h 4 (omega arith) (omega arith) in (s.0, s.1, s.2.dir)

  own_entries : (n : ℕ) → 1 ≤ n → n ≤ 11 → list_any (is_system_entry n) (entries_of own 4) ≡ true
  unfolding without_own
  own_entries n from to =
      let d = main_dir (begun v) begun_systems in
      any_relisted (is_system_entry n) main_without (begun v) d.0 d.1 d.2 (own_stays n) (begun_entries n from to)

  loops_entries : (n : ℕ) → 1 ≤ n → n ≤ 11 → list_any (is_system_entry n) (entries_of (without_loops own) 4) ≡ true
  unfolding without_loops
  loops_entries n from to =
      let d = main_dir own own_systems in
      any_relisted (is_system_entry n) (loop_without own) own d.0 d.1 d.2 (λ es e. e) (own_entries n from to)

  patched_entries : (n : ℕ) → 1 ≤ n → n ≤ 11 → list_any (is_system_entry n) (entries_of (patched v) 4) ≡ true
  unfolding patched
  patched_entries n from to = ap (λ es. list_any (is_system_entry n) es) (listed_owned (without_loops own) 4) ∙ loops_entries n from to

  own_empty : AreMarkedEmpty own
  unfolding without_own
  own_empty = empty_relisted main_without (begun v) main_empty begun_empty

  loops_empty : AreMarkedEmpty (without_loops own)
  unfolding without_loops
  loops_empty = empty_relisted (loop_without own) own (loop_empty own) own_empty

  patched_empty : AreMarkedEmpty (patched v)
  unfolding patched
  patched_empty = empty_owned (without_loops own) loops_empty

  patched_marked : (n : ℕ) → is_marked_dir (file_at (patched v) n) ≡ true → ⊥
  patched_marked n e = by_file (file_at (patched v) n) refl e where
    by_file : (o : Option File) → file_at (patched v) n ≡ o → is_marked_dir o ≡ true → ⊥
    by_file None at k = let z : false ≡ true = k in cc
    by_file (Some f) at k =
        let p = and_parts f.marked (has_entries (Some f)) k in
        let none : has_entries (Some (record f { entries = [] })) ≡ true = sym (ap (λ (es : List DirEnt). has_entries (Some (record f { entries = es }))) (patched_empty n f at p.0)) ∙ p.1 in
        by_dir f.dir none
      where
        by_dir : (t : Bool) → (t && false) ≡ true → ⊥
        by_dir true k = let z : false ≡ true = k in cc
        by_dir false k = let z : false ≡ true = k in cc

  patched_loops : (n : ℕ) → Path (patched v) n n → ⊥
  unfolding patched
  patched_loops n p =
      let s = begun_systems 4 (omega arith) (omega arith) in
      no_loop_is_left (begun v) s.0 s.1 s.2.seq n (path_owned (without_loops own) n n p)

  -- the one fatal finding that the patched catalogue can have is that there is no room for a lost file
  pub patched_findings : (f : Finding) → IsFatalOf (patched v) f → (n : ℕ) × (f ≡ finding.NoRoom n)
  patched_findings (finding.NoRoom n) h = (n, refl)
  patched_findings (finding.SystemEntry n) h = absurd (let z : true ≡ false = sym (patched_entries n h.0 h.1) ∙ h.2 in cc)
  patched_findings (finding.MarkedDir n) h = absurd (patched_marked n h)
  patched_findings (finding.DirLoop n) h = absurd (patched_loops n h)
  patched_findings f h = absurd h

-- ---- owners, channels, and what stays

row_there : (owner : Uic) (rs : List QuotaRow) → list_any (λ (r : QuotaRow). r.owner.0 == owner.0) rs ≡ true → is_some (row_of owner rs) ≡ true
row_there owner [] e = e
row_there owner (r ∷ rs) e = by_test (r.owner.0 == owner.0) e (λ k. row_there owner rs k) where
  by_test : (t : Bool) → (t || list_any (λ (x : QuotaRow). x.owner.0 == owner.0) rs) ≡ true → (list_any (λ (x : QuotaRow). x.owner.0 == owner.0) rs ≡ true → is_some (row_of owner rs) ≡ true)
      → is_some (cond t (Some r) (row_of owner rs)) ≡ true
  by_test true k more = refl
  by_test false k more = more k

-- each owner has a row
pub patched_owners : (v : Volume) → HasOwners (patched v)
patched_owners v n f at = row_there f.owner (patched v).quota (each_rowed v n f at)

-- no channel has a file open
pub patched_shut : (v : Volume) → shut (patched v) ≡ patched v
unfolding patched with_owners without_loops without_own begun
patched_shut v = refl

bare_listed : (change : Change) (n : ℕ) (ss : List Slot) → map bare (each_listed change n ss) ≡ map bare ss
bare_listed change n [] = refl
bare_listed change n (Used f ∷ ss) = ap (λ xs. bare (Used f) ∷ xs) (bare_listed change (n + 1) ss)
bare_listed change n (Free seq ∷ ss) = ap (λ xs. Free seq ∷ xs) (bare_listed change (n + 1) ss)

bare_one : (c : Cat) (s : Slot) → bare (owned c s) ≡ bare s
bare_one c (Free seq) = refl
bare_one c (Used f) = by_row (has_row c f.owner.0) where
  by_row : (t : Bool) → bare (cond t (Used f) (Used (record f { owner = record { 0 = system_owner } }))) ≡ bare (Used f)
  by_row true = refl
  by_row false = refl

bare_owned : (c : Cat) (ss : List Slot) → map bare (map (owned c) ss) ≡ map bare ss
bare_owned c [] = refl
bare_owned c (s ∷ ss) = let a = bare_one c s in let b = bare_owned c ss in λ i. a i ∷ b i

-- entries alone differ, or owners
pub own_alike : (c : Cat) → IsSameBut c (without_own c)
unfolding without_own
own_alike c = bare_listed main_without 1 c.files

pub loops_alike : (c : Cat) → IsSameBut c (without_loops c)
unfolding without_loops
loops_alike c = bare_listed (loop_without c) 1 c.files

pub owners_alike : (c : Cat) → IsSameBut c (with_owners c)
unfolding with_owners
owners_alike c = bare_owned c c.files

pub alike_on : (a b c : Cat) → IsSameBut a b → IsSameBut b c → IsSameBut a c
alike_on a b c x y = y ∙ x

pub patched_alike : (v : Volume) → IsSameBut (begun v) (patched v)
unfolding patched
patched_alike v =
    alike_on (begun v) (without_own (begun v)) (patched v) (own_alike (begun v))
    (alike_on (without_own (begun v)) (without_loops (without_own (begun v))) (patched v) (loops_alike (without_own (begun v))) (owners_alike (without_loops (without_own (begun v)))))
