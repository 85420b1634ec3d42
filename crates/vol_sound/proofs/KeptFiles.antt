-- The slots and the directories of what a repair begins with.
use Rattle.std.proofs.Common.{◌≡◌, ◌≢◌, ◌∙◌, ◌<◌, ◌≤◌, ◌+◌, ◌⊎◌, ℕ, zero, suc, Bool, true, false, not, List, [], Option, Some, None, map, slice_get, refl, sym, ap, inl, inr, arith, cond}
use Rattle.std.specs.Prelude.{◌&&◌, ◌||◌, Result, Ok, Err}
use Rattle.std.specs.List.{range_with_len, list_any}
use Rattle.std.proofs.lemmas.Bool.{and_parts, not-true, not-false, cases_Bool}
use Rattle.base_words.specs.Fields.{Block}
use Rattle.fx_header.specs.declared.slot.Hdr.{Hdr}
use Rattle.fx_dir.specs.declared.RawEnt.{RawEnt}
use Rattle.fx_dir.specs.declared.DirFault.{DirFault}
use Rattle.fx_dir.specs.Directory.{directory}
use Rattle.plain_cat.specs.declared.cat.File.{File}
use Rattle.plain_cat.specs.declared.cat.Slot.{Slot}
use Rattle.plain_cat.specs.declared.cat.Slot.TheVariants.{Used}
use Rattle.plain_rules.specs.SystemFiles.{is_system_directory, is_system_entry, listed, entries_of}
use Rattle.plain_rules.specs.Lookups.{file_in}
use Rattle.vol_parts.specs.declared.finding.Finding.TheVariants as finding
use Rattle.vol_parts.specs.Volumes.{Volume, factor, fields, told, runs, body}
use Rattle.vol_parts.specs.Catalogues.{is_structure, plain_entry, plain_entries, file_of, slot_with, slot_of, files_of, catalogue}
use Rattle.vol_parts.specs.Fatal.{is_system_header, is_one_header, has_one_header, are_stated, stated_clusters, is_system_file, has_dir_size, found_in, dir_test, dir_fault}
use Rattle.vol_parts.proofs.Alone.{first-says}
use Rattle.vol_sound.specs.Begun.{has_own_entry, lacks_entry, emptied}
use Rattle.vol_sound.proofs.Cuts.{all_has, range_in}

-- ---- slots of files

pub slot_used : (v : Volume) (n : ℕ) (f : Hdr) → fields v n ≡ Some f → slot_of v n ≡ Used (file_of (factor v) n f (body v n))
unfolding slot_of
slot_used v n f e = ap (λ r. slot_with (factor v) n r (body v n)) (first-says v n f e).0

-- a directory has the entries that its blocks list
pub file_listed : (c n : ℕ) (f : Hdr) (xs ys : List Block) (es : List RawEnt) → f.dir ≡ true → directory xs ≡ Ok es → file_of c n f xs ≡ record (file_of c n f ys) { entries = map plain_entry es }
file_listed c n f xs ys es d e = rw (d, e) refl

pub file_by : (c n : ℕ) (f : Hdr) (xs ys : List Block) → f.dir ≡ true → plain_entries (directory xs) ≡ plain_entries (directory ys) → file_of c n f xs ≡ file_of c n f ys
file_by c n f xs ys d e = rw d (ap (λ es. record (file_of c n (record f { dir = true }) ys) { entries = es }) e)

-- a file that holds the volume's own structures has no contents
pub file_blind : (c n : ℕ) (f : Hdr) (xs ys : List Block) → f.dir ≡ false → is_structure n ≡ true → file_of c n f xs ≡ file_of c n f ys
file_blind c n f xs ys d e = rw (d, e) refl

-- an unmarked file stays, and so does one that is no directory
pub emptied_open : (c n : ℕ) (f : Hdr) (xs : List Block) → f.marked ≡ false → emptied (Used (file_of c n f xs)) ≡ Used (file_of c n f xs)
emptied_open c n f xs m = rw m refl

pub emptied_flat : (c n : ℕ) (f : Hdr) (xs : List Block) → f.dir ≡ false → emptied (Used (file_of c n f xs)) ≡ Used (file_of c n f xs)
emptied_flat c n f xs d = rw d (by_mark f.marked) where
  by_mark : (b : Bool) → cond b (Used (record (file_of c n (record f { dir = false }) xs) { entries = [] })) (Used (file_of c n (record f { dir = false }) xs)) ≡ Used (file_of c n (record f { dir = false }) xs)
  by_mark true = refl
  by_mark false = refl

pub emptied_dir : (c n : ℕ) (f : Hdr) (xs ys : List Block) → f.dir ≡ true → f.marked ≡ true → directory xs ≡ Ok [] → Used (file_of c n f xs) ≡ emptied (Used (file_of c n f ys))
emptied_dir c n f xs ys d m e = ap (λ (x : File). Used x) (file_listed c n f xs ys [] d e) ∙ rw m refl

-- ---- directories

fault_of : (v : Volume) (n : ℕ) (f : Hdr) → fields v n ≡ Some f → dir_fault v n ≡ dir_test v n (Some f)
unfolding dir_fault
fault_of v n f e = ap (dir_test v n) e

-- a directory that has not the wrong size has the size of one
pub sized : (v : Volume) (n : ℕ) (f : Hdr) → fields v n ≡ Some f → f.dir ≡ true → dir_fault v n ≢ Some (finding.DirSize n) → (is_one_header f (told v n) && has_dir_size (factor v) f (runs v n)) ≡ true
sized v n f e d right = by_size (cases_Bool (is_one_header f (told v n) && has_dir_size (factor v) f (runs v n))) where
  by_size : ((is_one_header f (told v n) && has_dir_size (factor v) f (runs v n)) ≡ true) ⊎ ((is_one_header f (told v n) && has_dir_size (factor v) f (runs v n)) ≡ false)
      → (is_one_header f (told v n) && has_dir_size (factor v) f (runs v n)) ≡ true
  by_size (inl t) = t
  by_size (inr t) =
      absurd (right (fault_of v n f e
      ∙ ap (λ x. cond (not x) None (cond (is_one_header f (told v n) && has_dir_size (factor v) f (runs v n)) (found_in n (directory (body v n))) (Some (finding.DirSize n)))) d
      ∙ ap (λ x. cond x (found_in n (directory (body v n))) (Some (finding.DirSize n))) t))

-- and its fault is that of its blocks
pub fault_in : (v : Volume) (n : ℕ) (f : Hdr) → fields v n ≡ Some f → f.dir ≡ true → (is_one_header f (told v n) && has_dir_size (factor v) f (runs v n)) ≡ true
    → dir_fault v n ≡ found_in n (directory (body v n))
fault_in v n f e d t =
    fault_of v n f e
    ∙ ap (λ x. cond (not x) None (cond (is_one_header f (told v n) && has_dir_size (factor v) f (runs v n)) (found_in n (directory (body v n))) (Some (finding.DirSize n)))) d
    ∙ ap (λ x. cond x (found_in n (directory (body v n))) (Some (finding.DirSize n))) t

-- a file that is no directory has no fault as one
pub flat_fault : (v : Volume) (n : ℕ) (f : Hdr) → fields v n ≡ Some f → f.dir ≡ false → dir_fault v n ≡ None
flat_fault v n f e d =
    fault_of v n f e
    ∙ ap (λ x. cond (not x) None (cond (is_one_header f (told v n) && has_dir_size (factor v) f (runs v n)) (found_in n (directory (body v n))) (Some (finding.DirSize n)))) d

-- blocks in which something is wrong list no entries
pub no_entries : (n : ℕ) (r : Result (List RawEnt) DirFault) → found_in n r ≢ None → plain_entries r ≡ []
no_entries n (Ok es) wrong = absurd (wrong refl)
no_entries n (Err fault) wrong = refl

-- and blocks that list some are right
pub right_blocks : (n : ℕ) (r : Result (List RawEnt) DirFault) → plain_entries r ≢ [] → found_in n r ≡ None
right_blocks n (Ok es) some = refl
right_blocks n (Err fault) some = absurd (some refl)

-- ---- what a system file is

pub record IsSystemHeader (v : Volume) (n : ℕ) : Type 0 where
  pub header : Hdr
  pub used : fields v n ≡ Some header
  pub dir : header.dir ≡ is_system_directory n
  pub unmarked : header.marked ≡ false

same_truth : (a b : Bool) → (not a || b) ≡ true → (a || not b) ≡ true → a ≡ b
same_truth true true e f = refl
same_truth true false e f = absurd (let h : false ≡ true = e in cc)
same_truth false true e f = absurd (let h : false ≡ true = f in cc)
same_truth false false e f = refl

pub system_fields : (v : Volume) (n : ℕ) → is_system_file v n ≡ true → IsSystemHeader v n
unfolding is_system_file
system_fields v n e =
    let p = and_parts (is_system_header n (fields v n)) (has_one_header (fields v n) (told v n) && are_stated v n (stated_clusters v n) (runs v n)) e in
    by_fields (fields v n) refl p.0
  where
    by_fields : (o : Option Hdr) → fields v n ≡ o → is_system_header n o ≡ true → IsSystemHeader v n
    by_fields None u t = absurd (let h : false ≡ true = t in cc)
    by_fields (Some f) u t =
        let a = and_parts _ _ t in
        let b = and_parts (not (f.dir) || is_system_directory n) ((f.dir || not (is_system_directory n)) && not f.marked) a.1 in
        let c = and_parts (f.dir || not (is_system_directory n)) (not f.marked) b.1 in
        record { header = f; used = u; dir = same_truth f.dir (is_system_directory n) b.0 c.0; unmarked = not-true f.marked c.1 }

-- the entries of the master file directory are those that its blocks list
along : {A : Type 0} (f : ℕ → A) (a k i : ℕ) → i < k → slice_get (map f (range_with_len a k)) i ≡ Some (f (a + i))
along f a zero i lt = absurd (omega arith)
along f a (suc k) zero lt = ap (λ x. Some (f x)) (let e : a ≡ a + 0 = omega arith in e)
along f a (suc k) (suc i) lt = along f (a + 1) k i (omega arith) ∙ ap (λ x. Some (f x)) (let e : a + 1 + i ≡ a + suc i = omega arith in e)

pub main_listed : (v : Volume) (f : Hdr) → 4 ≤ v.home.files → fields v 4 ≡ Some f → f.dir ≡ true → entries_of (catalogue v) 4 ≡ plain_entries (directory (body v 4))
unfolding catalogue files_of
main_listed v f enough e d =
    let there : slice_get (map (slot_of v) (range_with_len 1 v.home.files)) 3 ≡ Some (slot_of v 4) = along (slot_of v) 1 v.home.files 3 (omega arith) in
    ap (λ (s : Option Slot). listed (file_in s)) there ∙ ap (λ (s : Slot). listed (file_in (Some s))) (slot_used v 4 f e) ∙ rw d refl

-- a master file directory that lacks no entry lists some
pub main_some : (v : Volume) → lacks_entry v ≡ false → entries_of (catalogue v) 4 ≢ []
unfolding lacks_entry has_own_entry
main_some v e none =
    let all = not-false _ e in
    let one = all_has (has_own_entry v) (range_with_len 1 11) 1 all (range_in 1 11 1 (omega arith) (omega arith)) in
    let z : false ≡ true = sym (ap (λ es. list_any (is_system_entry 1) es) none) ∙ one in
    absurd (cc)
