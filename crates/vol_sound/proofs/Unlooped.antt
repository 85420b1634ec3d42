-- No chain of entries returns once directories have lost what leads back to them.
use Rattle.std.proofs.Common.{◌≡◌, ◌≢◌, ◌+◌, ◌-◌, ◌⊎◌, ℕ, zero, suc, Bool, true, false, not, List, [], ◌∷◌, Option, Some, None, filter, slice_get, refl, sym, ap, subst, ◌∙◌, inl, inr, arith, cond}
use Rattle.std.specs.Prelude.{◌==◌, ◌&&◌, ◌||◌, is_some}
use Rattle.std.proofs.lemmas.Bool.{and_from, eqb-true, eq-eqb, ne_eqb, not_from_false}
use Rattle.base_words.specs.Lists.{Has}
use Rattle.base_words.proofs.Listing.{same_or_not, has_at, place_of, has_filtered}
use Rattle.plain_cat.specs.declared.entries.DirEnt.{DirEnt}
use Rattle.plain_cat.specs.declared.ids.Fid.{Fid}
use Rattle.plain_cat.specs.declared.cat.Cat.{Cat}
use Rattle.plain_cat.specs.declared.cat.File.{File}
use Rattle.plain_cat.specs.declared.cat.Slot.{Slot}
use Rattle.plain_cat.specs.declared.cat.Slot.TheVariants.{Used, Free}
use Rattle.plain_rules.specs.Lookups.{file_at, file_in, of_seq, in_use}
use Rattle.plain_rules.specs.SystemFiles.{listed, entries_of, is_system_entry}
use Rattle.vol_parts.specs.Fatal.{NamesFile, Path}
use Rattle.vol_parts.specs.Fatal.Path.{One, More}
use Rattle.vol_faults.proofs.WayLemmas.{path-on}
use Rattle.vol_sound.specs.Begun.{each_listed, with_each, names_main, main_without, without_own, is_dir_in, names_dir, loop_without, without_loops}
use Rattle.vol_sound.specs.Leading.{leads_back}
use Rattle.vol_sound.specs.Unlooped.{NoLoopIsLeft}
use Rattle.vol_sound.proofs.LeadingBack.{loops_are_found}

-- ---- other entries in each directory

abbrev Change : Type 0
Change = ℕ → List DirEnt → List DirEnt

abbrev relisted : Change → ℕ → Option Slot → Option Slot
relisted change n None = None
relisted change n (Some (Used f)) = Some (Used (record f { entries = change n f.entries }))
relisted change n (Some (Free seq)) = Some (Free seq)

abbrev refiled : Change → ℕ → Option File → Option File
refiled change n None = None
refiled change n (Some f) = Some (record f { entries = change n f.entries })

each_at : (change : Change) (a : ℕ) (ss : List Slot) (i : ℕ) → slice_get (each_listed change a ss) i ≡ relisted change (a + i) (slice_get ss i)
each_at change a [] i = refl
each_at change a (Used f ∷ ss) zero = ap (λ k. Some (Used (record f { entries = change k f.entries }))) (let e : a ≡ a + 0 = omega arith in e)
each_at change a (Free seq ∷ ss) zero = refl
each_at change a (Used f ∷ ss) (suc i) = each_at change (a + 1) ss i ∙ ap (λ k. relisted change k (slice_get ss i)) (let e : a + 1 + i ≡ a + suc i = omega arith in e)
each_at change a (Free seq ∷ ss) (suc i) = each_at change (a + 1) ss i ∙ ap (λ k. relisted change k (slice_get ss i)) (let e : a + 1 + i ≡ a + suc i = omega arith in e)

in_slot : (change : Change) (n : ℕ) (o : Option Slot) → file_in (relisted change n o) ≡ refiled change n (file_in o)
in_slot change n None = refl
in_slot change n (Some (Used f)) = refl
in_slot change n (Some (Free seq)) = refl

pub file_relisted : (change : Change) (c : Cat) (n : ℕ) → file_at (with_each change c) n ≡ refiled change n (file_at c n)
file_relisted change c n = by_number (n == 0) refl where
  by_number : (t : Bool) → (n == 0) ≡ t → file_in (cond t None (slice_get (each_listed change 1 c.files) (n - 1))) ≡ refiled change n (file_in (cond t None (slice_get c.files (n - 1))))
  by_number true e = refl
  by_number false e =
      let ne : n ≢ 0 = (λ z. let y : true ≡ false = sym (eq-eqb n 0 z) ∙ e in cc) in
      ap file_in (each_at change 1 c.files (n - 1)) ∙ in_slot change (1 + (n - 1)) (slice_get c.files (n - 1))
      ∙ ap (λ k. refiled change k (file_in (slice_get c.files (n - 1)))) (let z : 1 + (n - 1) ≡ n = omega arith in z)

-- a file has its sequence, and is a directory where it was one
use_same : (change : Change) (c : Cat) (fid : Fid) → is_some (in_use (with_each change c) fid) ≡ is_some (in_use c fid)
use_same change c fid = ap (λ o. is_some (of_seq fid.seq o)) (file_relisted change c fid.num) ∙ by_file (file_at c fid.num) where
  by_seq : (t : Bool) (f g : File) → is_some (cond t (Some f) None) ≡ is_some (cond t (Some g) None)
  by_seq true f g = refl
  by_seq false f g = refl

  by_file : (o : Option File) → is_some (of_seq fid.seq (refiled change fid.num o)) ≡ is_some (of_seq fid.seq o)
  by_file None = refl
  by_file (Some f) = by_seq (f.seq == fid.seq) (record f { entries = change fid.num f.entries }) f

-- an entry of a directory is one that the change left
record IsLeftIn (change : Change) (c : Cat) (n : ℕ) (e : DirEnt) : Type 0 where
  pub file : File
  pub there : file_at c n ≡ Some file
  pub dir : file.dir ≡ true
  pub entry : Has (change n file.entries) e

left_in : (change : Change) (c : Cat) (n : ℕ) (e : DirEnt) → Has (entries_of (with_each change c) n) e → IsLeftIn change c n e
left_in change c n e t = by_file (file_at c n) refl (subst (λ (o : Option File). Has (listed o) e) (file_relisted change c n) t) where
  by_dir : (f : File) → file_at c n ≡ Some f → (b : Bool) → f.dir ≡ b → Has (cond b (change n f.entries) []) e → IsLeftIn change c n e
  by_dir f u true d h = record { file = f; there = u; dir = d; entry = h }
  by_dir f u false d h = absurd h

  by_file : (o : Option File) → file_at c n ≡ o → Has (listed (refiled change n o)) e → IsLeftIn change c n e
  by_file None u h = absurd h
  by_file (Some f) u h = by_dir f u f.dir refl h

-- ---- steps that are left

names_by : (c : Cat) (n m : ℕ) (e : DirEnt) (f : File) → file_at c n ≡ Some f → f.dir ≡ true → Has f.entries e → is_some (in_use c e.fid) ≡ true → e.fid.num ≡ m → ((n ≡ 4) → is_system_entry 4 e ≡ false) → NamesFile c n m
names_by c n m e f there d t used names other =
    let place = place_of f.entries e t in
    record {
      place = place.0;
      entry = e;
      there = ap (λ (o : Option File). slice_get (listed o) place.0) there ∙ ap (λ b. slice_get (cond b f.entries []) place.0) d ∙ place.1;
      used = used;
      names = names;
      other = other;
    }

-- the file in use that an entry names is the one of its number
used_dir : (c : Cat) (e : DirEnt) (m : ℕ) → is_some (in_use c e.fid) ≡ true → e.fid.num ≡ m → names_dir c e ≡ is_dir_in (file_at c m)
used_dir c e m used names = by_file (file_at c e.fid.num) used ∙ ap (λ k. is_dir_in (file_at c k)) names where
  by_seq : (t : Bool) (f : File) → is_some (cond t (Some f) None) ≡ true → is_dir_in (cond t (Some f) None) ≡ f.dir
  by_seq true f u = refl
  by_seq false f u = absurd (let z : false ≡ true = u in cc)

  by_file : (o : Option File) → is_some (of_seq e.fid.seq o) ≡ true → is_dir_in (of_seq e.fid.seq o) ≡ is_dir_in o
  by_file None u = refl
  by_file (Some f) u = by_seq (f.seq == e.fid.seq) f u

-- A step that is left where directories on loops have lost theirs: it was there, and one from a directory on a loop, the master file
-- directory aside, leads to no directory.
record IsStepLeft (c : Cat) (n m : ℕ) : Type 0 where
  pub was : NamesFile c n m
  pub dir : is_dir_in (file_at c n) ≡ true
  pub end : n ≢ 4 → leads_back c n ≡ true → is_dir_in (file_at c m) ≡ false

step_left : (c : Cat) (n m : ℕ) → NamesFile (without_loops c) n m → IsStepLeft c n m
unfolding without_loops
step_left c n m h = by_left (left_in (loop_without c) c n h.entry (has_at (entries_of (with_each (loop_without c) c) n) h.place h.entry h.there)) where
  used : is_some (in_use c h.entry.fid) ≡ true
  used = sym (use_same (loop_without c) c h.entry.fid) ∙ h.used

  by_test : (t : Bool) (es : List DirEnt) → Has (cond t (filter (λ e. not (names_dir c e)) es) es) h.entry → Has es h.entry × (t ≡ true → names_dir c h.entry ≡ false)
  by_test true es x =
      let y = has_filtered (λ e. not (names_dir c e)) es h.entry x in
      (y.0, (λ _. by_not (names_dir c h.entry) y.1))
    where
      by_not : (b : Bool) → not b ≡ true → b ≡ false
      by_not true z = absurd (let w : false ≡ true = z in cc)
      by_not false z = refl
  by_test false es x = (x, (λ z. absurd (let w : false ≡ true = z in cc)))

  by_left : IsLeftIn (loop_without c) c n h.entry → IsStepLeft c n m
  by_left l =
      let t = by_test (not (n == 4) && leads_back c n) l.file.entries l.entry in
      record {
        was = names_by c n m h.entry l.file l.there l.dir t.0 used h.names h.other;
        dir = ap is_dir_in l.there ∙ l.dir;
        end = λ ne back. sym (used_dir c h.entry m used h.names) ∙ t.1 (and_from (not (n == 4)) (leads_back c n) (not_from_false (n == 4) (ne_eqb n 4 ne)) back);
      }

path_was : (c : Cat) (n m : ℕ) → Path (without_loops c) n m → Path c n m
path_was c n m (One h) = One (step_left c n m h).was
path_was c n m (More {k} p h) = More (path_was c n k p) (step_left c k m h).was

-- the first step of a chain
record IsFirstStep (c : Cat) (n m : ℕ) : Type 0 where
  pub to : ℕ
  pub step : NamesFile c n to
  pub on : (to ≡ m) ⊎ Path c to m

first_step : (c : Cat) (n m : ℕ) → Path c n m → IsFirstStep c n m
first_step c n m (One h) = record { to = m; step = h; on = inl refl }
first_step c n m (More {k} p h) =
    let f = first_step c n k p in
    record { to = f.to; step = f.step; on = elim f.on [ inl same ↦ inr (One (subst (λ (j : ℕ). NamesFile c j m) (sym same) h)) | inr q ↦ inr (More q h) ] }

-- what a chain begins with is a directory
begins_dir : (c : Cat) (n m : ℕ) → Path (without_loops c) n m → is_dir_in (file_at c n) ≡ true
begins_dir c n m p = let f = first_step (without_loops c) n m p in (step_left c n f.to f.step).dir

-- no chain returns to another than the master file directory
none_other : (c : Cat) (n : ℕ) → n ≢ 4 → Path (without_loops c) n n → ⊥
none_other c n ne p =
    let f = first_step (without_loops c) n n p in
    let s = step_left c n f.to f.step in
    let back = (loops_are_found c n).1 (path_was c n n p) in
    let to : is_dir_in (file_at c f.to) ≡ true = by_on f.to f.on s.dir in
    let z : true ≡ false = sym to ∙ s.end ne back in
    cc
  where
    by_on : (k : ℕ) → (k ≡ n) ⊎ Path (without_loops c) k n → is_dir_in (file_at c n) ≡ true → is_dir_in (file_at c k) ≡ true
    by_on k (inl same) d = ap (λ j. is_dir_in (file_at c j)) same ∙ d
    by_on k (inr q) d = begins_dir c k n q

-- the master file directory names itself by its own entry alone
none_own : (c : Cat) (f : File) → file_at c 4 ≡ Some f → f.seq ≡ 4 → NamesFile (without_own c) 4 4 → ⊥
unfolding without_own
none_own c f there four h = by_left (left_in main_without c 4 h.entry (has_at (entries_of (with_each main_without c) 4) h.place h.entry h.there)) where
  used : is_some (in_use c h.entry.fid) ≡ true
  used = sym (use_same main_without c h.entry.fid) ∙ h.used

  seq : h.entry.fid.seq ≡ 4
  seq = by_seq (f.seq == h.entry.fid.seq) refl (sym (ap (λ k. is_some (of_seq h.entry.fid.seq (file_at c k))) h.names ∙ ap (λ o. is_some (of_seq h.entry.fid.seq o)) there) ∙ used) where
    by_seq : (t : Bool) → (f.seq == h.entry.fid.seq) ≡ t → is_some (cond t (Some f) None) ≡ true → h.entry.fid.seq ≡ 4
    by_seq true e u = sym (eqb-true f.seq h.entry.fid.seq e) ∙ four
    by_seq false e u = absurd (let z : false ≡ true = u in cc)

  main : names_main h.entry ≡ true
  main = and_from (h.entry.fid.num == 4) (h.entry.fid.seq == 4) (eq-eqb h.entry.fid.num 4 h.names) (eq-eqb h.entry.fid.seq 4 seq)

  by_left : IsLeftIn main_without c 4 h.entry → ⊥
  by_left l =
      let y = has_filtered (λ e. not (names_main e) || is_system_entry 4 e) l.file.entries h.entry l.entry in
      let z : false ≡ true = sym (ap (λ b. not (names_main h.entry) || b) (h.other refl) ∙ ap (λ b. not b || false) main) ∙ y.1 in
      cc

pub no_loop_is_left : NoLoopIsLeft
no_loop_is_left c f there four n p = elim (same_or_not n 4) [
  | inr ne ↦ none_other (without_own c) n ne p
  | inl main ↦ from_main (first_step (without_loops (without_own c)) 4 4 (subst (λ (k : ℕ). Path (without_loops (without_own c)) k k) main p))
] where
  from_main : IsFirstStep (without_loops (without_own c)) 4 4 → ⊥
  from_main s = elim (same_or_not s.to 4) [
    | inl same ↦ none_own c f there four (subst (λ (k : ℕ). NamesFile (without_own c) 4 k) same (step_left (without_own c) 4 s.to s.step).was)
    | inr ne ↦ (elim s.on [
      | inl same ↦ ne same
      | inr q ↦ none_other (without_own c) s.to ne (path-on (without_loops (without_own c)) s.to 4 s.to q (One s.step))
    ])
  ]
