-- What the reader of directories says of one block, and of a directory of the catalogue.
use Rattle.std.proofs.Common.{◌⊎◌, inl, inr, ◌≡◌, ◌≤◌, ◌<◌, ◌+◌, ◌-◌, ◌∙◌, ◌&&◌, ℕ, Bool, true, false, List, [], ◌∷◌, Option, Some, None, Result, Ok, Err, length, map, get_or, drop, refl, sym, ap, arith, length-append, drop-cons, suc}
use Rattle.std.proofs.lemmas.Bool.{false≢true, lt-ltb, le-ltb, cases_lt}
use Rattle.std.proofs.lemmas.List.{length-map}
use Rattle.std.specs.Prelude.{nat_lt, if◌then◌else◌}
use Rattle.base_words.specs.Fields.{Block}
use Rattle.fx_dir.specs.declared.RawEnt.{RawEnt}
use Rattle.fx_dir.specs.declared.DirFault.{DirFault}
use Rattle.fx_dir.specs.declared.DirFault.TheVariants.{BadRecord, BadOrder, Clash, NoMemory}
use Rattle.fx_dir.specs.Lists.{joined}
use Rattle.fx_dir.specs.Entries.{rises, fresh, any_clash}
use Rattle.fx_dir.specs.Records.{block_entries}
use Rattle.fx_dir.specs.Directory.{one_more, and_then, next_vbn, read_on, directory, entries_at}
use Rattle.fx_dir.proofs.Finding.{block-rises, went}
use Rattle.fx_dir.proofs.Meeting.{met}
use Rattle.fx_header.specs.declared.slot.Hdr.{Hdr}
use Rattle.fx_header.specs.declared.slot.HeaderFault.{HeaderFault}
use Rattle.fx_header.specs.declared.slot.Slot.{Slot as Head}
use Rattle.fx_header.specs.declared.slot.Slot.TheVariants as head
use Rattle.plain_cat.specs.declared.cat.File.{File}
use Rattle.plain_cat.specs.declared.cat.Slot.{Slot}
use Rattle.plain_cat.specs.declared.cat.Slot.TheVariants.{Used, Free}
use Rattle.vol_parts.specs.Volumes.{Volume, factor, first_head, fields_in, runs, body, told}
use Rattle.vol_parts.specs.Catalogues.{plain_entry, plain_entries, slot_with, slot_of}
use Rattle.vol_parts.specs.declared.finding.Finding.TheVariants as finding
use Rattle.vol_parts.specs.Fatal.{found_in, is_one_header, has_dir_size, dir_fault}
use Rattle.vol_parts.specs.Warnings.{is_double_dir, has_doubles}
use Rattle.fx_dir.specs.Laws.{has_double}
use Rattle.vol_analyze.proofs.Doubled.{fresh-clean, none-crosses, doubled_is}
use Rattle.fx_dir.proofs.Merging.{clash-nil}
use Rattle.vol_spell.proofs.EntryLists.{never_memory}

abbrev whole : Option (List RawEnt) → Result (List RawEnt) DirFault
whole None = Err (BadRecord 1)
whole (Some es) = Ok es

read_one : (b : Block) (o : Option (List RawEnt)) → o ≡ block_entries b → and_then (one_more 1 [] o) (λ fs. read_on (next_vbn 1) fs []) ≡ whole o
read_one b None k = refl
read_one b (Some fs) k =
    let e : fresh [] fs ≡ fs = fresh-clean [] fs (none-crosses fs) in
    let r : rises fs ≡ true = block-rises b fs (sym k) in
    let n : any_clash [] fs ≡ false = clash-nil fs in
    rw (e, r, n) refl

one-is : (b : Block) → directory (b ∷ []) ≡ whole (block_entries b)
one-is b = read_one b (block_entries b) refl

at_ok : (b : Block) (o : Option (List RawEnt)) (fs : List RawEnt) → o ≡ block_entries b → whole o ≡ Ok fs → fs ≡ entries_at b
at_ok b None fs k h = absurd (cc)
at_ok b (Some es) fs k h = let e : fs ≡ es = cc in rw (← k) e

at_err : (b : Block) (o : Option (List RawEnt)) (fault : DirFault) → o ≡ block_entries b → whole o ≡ Err fault → entries_at b ≡ []
at_err b None fault k h = rw (← k) refl
at_err b (Some es) fault k h = absurd (cc)

-- one block alone gives its entries
pub single_ok : (b : Block) (fs : List RawEnt) → directory (b ∷ []) ≡ Ok fs → length fs ≡ length (entries_at b)
single_ok b fs h = ap length (at_ok b (block_entries b) fs refl (sym (one-is b) ∙ h))

pub single_err : (b : Block) (fault : DirFault) → directory (b ∷ []) ≡ Err fault → 0 ≡ length (entries_at b)
single_err b fault h = ap length (sym (at_err b (block_entries b) fault refl (sym (one-is b) ∙ h)))

-- a directory has doubles where its blocks have more entries than it has
entries_of : (n : ℕ) (bs : List Block) (o : Result (List RawEnt) DirFault) → o ≡ directory bs → found_in n o ≡ None
    → (es : List RawEnt) × (directory bs ≡ Ok es)
entries_of n bs (Ok es) k h = (es, sym k)
entries_of n bs (Err (BadRecord vbn)) k h = absurd (cc)
entries_of n bs (Err BadOrder) k h = absurd (cc)
entries_of n bs (Err Clash) k h = absurd (cc)
entries_of n bs (Err NoMemory) k h = absurd (never_memory 1 [] bs (sym k))

read_doubles : (bs : List Block) (es : List RawEnt) → directory bs ≡ Ok es
    → nat_lt (length (map plain_entry es)) (length (joined (map entries_at bs))) ≡ has_double (map entries_at bs)
read_doubles bs es h =
    let w = went 1 [] bs es refl h in
    let e : length (map plain_entry es) ≡ length (met [] (map entries_at bs)) = length-map es plain_entry ∙ ap length (sym w.entries) in
    ap (λ (k : ℕ). nat_lt k (length (joined (map entries_at bs)))) e ∙ doubled_is (map entries_at bs)

abbrev is_dir : Slot → Bool
is_dir (Used f) = f.dir
is_dir (Free seq) = false

abbrev entry_count : Slot → ℕ
entry_count (Used f) = length f.entries
entry_count (Free seq) = 0

counted : (b : Bool) (o : Result (List RawEnt) DirFault) (es : List RawEnt) → b ≡ true → o ≡ Ok es
    → length (if b then plain_entries o else []) ≡ length (map plain_entry es)
counted b o es t e = rw (t, e) refl

dir_doubles : (v : Volume) (n : ℕ) (bs : List Block) (o : Result Head HeaderFault) (s : Slot) → slot_with (factor v) n o bs ≡ s → is_dir s ≡ true
    → ((h : Hdr) → o ≡ Ok (head.Used h) → h.dir ≡ true → found_in n (directory bs) ≡ None)
    → nat_lt (entry_count s) (length (joined (map entries_at bs))) ≡ is_double_dir (fields_in o) bs
dir_doubles v n bs (Ok (head.Used h)) s e d sound =
    let t : h.dir ≡ true = ap is_dir e ∙ d in
    let r = entries_of n bs (directory bs) refl (sound h refl t) in
    let count : entry_count s ≡ length (map plain_entry r.0) =
    ap entry_count (sym e) ∙ counted h.dir (directory bs) r.0 t r.1 in
    ap (λ (k : ℕ). nat_lt k (length (joined (map entries_at bs)))) count
    ∙ (read_doubles bs r.0 r.1 ∙ ap (λ (b : Bool). b && has_double (map entries_at bs)) (sym t))
dir_doubles v n bs (Ok (head.Free seq)) s e d sound = absurd (false≢true (ap is_dir e ∙ d))
dir_doubles v n bs (Err fault) s e d sound = absurd (false≢true (ap is_dir e ∙ d))

sound_dir : (v : Volume) (n : ℕ) → dir_fault v n ≡ None → (h : Hdr) → first_head v n ≡ Ok (head.Used h) → h.dir ≡ true
    → found_in n (directory (body v n)) ≡ None
unfolding dir_fault
sound_dir v n none h e d =
    let at : fields_in (first_head v n) ≡ Some h = ap fields_in e in
    size (is_one_header h (told v n) && has_dir_size (factor v) h (runs v n)) (rw (at, d) at (none)) where
      size : (b : Bool) → (if b then found_in n (directory (body v n)) else Some (finding.DirSize n)) ≡ None → found_in n (directory (body v n)) ≡ None
      size true k = k
      size false k = absurd (cc)

-- a directory has doubles where its blocks have more entries than it has
pub doubles_dir : (v : Volume) (n : ℕ) (f : File) → slot_of v n ≡ Used f → f.dir ≡ true → dir_fault v n ≡ None
    → nat_lt (length f.entries) (length (joined (map entries_at (body v n)))) ≡ has_doubles v n
unfolding slot_of has_doubles
doubles_dir v n f s d none = dir_doubles v n (body v n) (first_head v n) (Used f) s d (λ h e t. sound_dir v n none h e t)

-- a file that is no directory has none
pub doubles_file : (v : Volume) (n : ℕ) (f : File) → slot_of v n ≡ Used f → f.dir ≡ false → false ≡ has_doubles v n
unfolding slot_of has_doubles
doubles_file v n f s d = file (first_head v n) s where
  file : (o : Result Head HeaderFault) → slot_with (factor v) n o (body v n) ≡ Used f → false ≡ is_double_dir (fields_in o) (body v n)
  file (Ok (head.Used g)) s = let e : g.dir ≡ false = ap is_dir s ∙ d in rw e refl
  file (Ok (head.Free seq)) s = refl
  file (Err fault) s = refl

-- nor has a free number
pub doubles_free : (v : Volume) (n seq : ℕ) → slot_of v n ≡ Free seq → false ≡ has_doubles v n
unfolding slot_of has_doubles
doubles_free v n seq s = free (first_head v n) s where
  free : (o : Result Head HeaderFault) → slot_with (factor v) n o (body v n) ≡ Free seq → false ≡ is_double_dir (fields_in o) (body v n)
  free (Ok (head.Used g)) s = absurd (cc)
  free (Ok (head.Free last)) s = refl
  free (Err fault) s = refl

-- one block further
pub more_entries : (bs : List Block) (i : ℕ) → i < length bs
    → length (joined (map entries_at (drop i bs))) ≡ length (entries_at (get_or bs i [])) + length (joined (map entries_at (drop (i + 1) bs)))
more_entries bs i lt =
    let one : suc i ≡ i + 1 = omega arith in
    let e : drop i bs ≡ get_or bs i [] ∷ drop (i + 1) bs = drop-cons bs i [] lt ∙ ap (λ (k : ℕ). get_or bs i [] ∷ drop k bs) one in
    ap (λ (l : List Block). length (joined (map entries_at l))) e
    ∙ length-append (entries_at (get_or bs i [])) (joined (map entries_at (drop (i + 1) bs)))

pub over_at : (left k rest all : ℕ) (r : Bool) → left < k → all ≡ k + rest → nat_lt left all ≡ r → true ≡ r
over_at left k rest all r less e h = sym (lt-ltb left all (omega arith)) ∙ h

pub over_next : (left k rest all : ℕ) (r : Bool) → k ≤ left → all ≡ k + rest → nat_lt left all ≡ r → nat_lt (left - k) rest ≡ r
over_next left k rest all r le e h = same (cases_lt left all) ∙ h where
  same : (left < all) ⊎ (all ≤ left) → nat_lt (left - k) rest ≡ nat_lt left all
  same (inl less) = lt-ltb (left - k) rest (omega arith) ∙ sym (lt-ltb left all less)
  same (inr more) = le-ltb (left - k) rest (omega arith) ∙ sym (le-ltb left all more)
