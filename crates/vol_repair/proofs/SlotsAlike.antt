-- Slots that are the same but for owners and entries, and what stands in the slots of the catalogues that a repair comes to.
use Rattle.std.proofs.Common.{◌≡◌, ◌∙◌, ◌<◌, ◌≤◌, ◌+◌, ◌-◌, ℕ, Bool, true, false, cond, List, [], ◌∷◌, Option, Some, None, map, slice_get, nat_le, refl, sym, ap, arith}
use Rattle.std.specs.Prelude.{◌==◌, ◌&&◌, ◌||◌, not, option_map}
use Rattle.std.specs.List.{range_with_len}
use Rattle.std.proofs.lemmas.Bool.{and_parts, eqb-true, ne_eqb, le-leb, or_left, or_right}
use Rattle.std.proofs.lemmas.Option.{slice_get-map}
use Rattle.fx_header.specs.declared.slot.Hdr.{Hdr}
use Rattle.plain_cat.specs.declared.entries.DirEnt.{DirEnt}
use Rattle.plain_cat.specs.declared.cat.Cat.{Cat}
use Rattle.plain_cat.specs.declared.cat.File.{File}
use Rattle.plain_cat.specs.declared.cat.Slot.{Slot}
use Rattle.plain_cat.specs.declared.cat.Slot.TheVariants.{Used, Free}
use Rattle.plain_rules.specs.SystemFiles.{system_seq, is_system_directory}
use Rattle.plain_mends.specs.Sound.{IsSystemFile}
use Rattle.vol_init.specs.Layouts.{system_owner, main_entries}
use Rattle.vol_parts.specs.Volumes.{Volume, IsNumber, factor, fields, told, runs, body}
use Rattle.vol_parts.specs.Catalogues.{plain_entry, file_of, slot_of, files_of, catalogue}
use Rattle.vol_parts.specs.Fatal.{has_one_header, is_system_header, stated_clusters, are_stated, is_system_file}
use Rattle.vol_spell.proofs.Viewing.{get_range}
use Rattle.vol_sound.specs.Sound.{is_sound}
use Rattle.vol_sound.specs.Freeing.{HasSystem, seq_at}
use Rattle.vol_sound.specs.Begun.{is_kept_file, lacks_entry, with_listed, emptied, kept_slot, begun_slot, begun_files, begun, each_listed, has_row, owned, with_owners, without_own, without_loops, main_without, loop_without, patched}
use Rattle.vol_sound.proofs.KeptFiles.{slot_used, IsSystemHeader, system_fields}
use Rattle.vol_repair.specs.Alike.{bare, IsSameBut}

-- ---- files but for their owners and entries

abbrev pub bare_file : File → File
bare_file f = record f { owner = record { 0 = 0 }; entries = [] }

pub same_bare : (g f : File) → bare (Used g) ≡ bare (Used f) → bare_file g ≡ bare_file f
same_bare g f e = let z : Used (bare_file g) ≡ Used (bare_file f) = e in cc

-- a slot has a file that is the same but for its owner and its entries
pub record IsUsed (o : Option Slot) (f : File) : Type 0 where
  pub file : File
  pub at : o ≡ Some (Used file)
  pub same : bare_file file ≡ bare_file f

pub used_in : (o : Option Slot) (f : File) → option_map bare o ≡ Some (bare (Used f)) → IsUsed o f
used_in None f e = absurd (let z : None ≡ Some (bare (Used f)) = e in cc)
used_in (Some (Free q)) f e = absurd (let z : Some (Free q) ≡ Some (Used (bare_file f)) = e in cc)
used_in (Some (Used g)) f e = record { file = g; at = refl; same = (let z : Some (Used (bare_file g)) ≡ Some (Used (bare_file f)) = e in cc) }

pub alike_at : (c d : Cat) → IsSameBut c d → (i : ℕ) → option_map bare (slice_get d.files i) ≡ option_map bare (slice_get c.files i)
alike_at c d same i = sym (slice_get-map bare d.files i) ∙ ap (λ (ss : List Slot). slice_get ss i) same ∙ slice_get-map bare c.files i

-- ---- slots by number

numbered : (f : ℕ → Slot) (count n : ℕ) → 1 ≤ n → n ≤ count → slice_get (map f (range_with_len 1 count)) (n - 1) ≡ Some (f n)
numbered f count n from to =
    slice_get-map f (range_with_len 1 count) (n - 1)
    ∙ ap (λ (o : Option ℕ). option_map f o) (get_range 1 count (n - 1) (omega arith))
    ∙ ap (λ (k : ℕ). Some (f k)) (let e : 1 + (n - 1) ≡ n = omega arith in e)

pub told_at : (v : Volume) (n : ℕ) → IsNumber v n → slice_get (catalogue v).files (n - 1) ≡ Some (slot_of v n)
unfolding catalogue files_of
told_at v n is = let from = is.from in let to = is.to in numbered (slot_of v) v.home.files n from to

pub begun_at : (v : Volume) (n : ℕ) → IsNumber v n → slice_get (begun v).files (n - 1) ≡ Some (begun_slot v n)
unfolding begun begun_files
begun_at v n is = let from = is.from in let to = is.to in numbered (begun_slot v) v.home.files n from to

-- ---- what a repair begins with

-- a sound file that is not marked for delete is there as it was
pub begun_sound : (v : Volume) (n : ℕ) (f : File) → 11 < n → is_sound v n ≡ true → slot_of v n ≡ Used f → f.marked ≡ false → begun_slot v n ≡ Used f
unfolding begun_slot is_kept_file
begun_sound v n f above s e unmarked =
    ap (λ t. cond t (kept_slot v n) (Free (seq_at v n))) (or_right (nat_le n 11) (is_sound v n) s)
    ∙ ap (λ t. cond (t && lacks_entry v) (with_listed (map plain_entry main_entries) (slot_of v n)) (emptied (slot_of v n))) (ne_eqb n 4 (λ x. absurd (omega arith)))
    ∙ ap emptied e ∙ ap (λ t. cond t (Used (record f { entries = [] })) (Used f)) unmarked

-- so is a system file, but for its entries
pub record IsSystemSlot (s : Slot) (n : ℕ) : Type 0 where
  pub file : File
  pub used : s ≡ Used file
  pub system : IsSystemFile n file

system_seq_of : (v : Volume) (n : ℕ) (h : Hdr) → is_system_file v n ≡ true → fields v n ≡ Some h → h.seq ≡ system_seq n
unfolding is_system_file
system_seq_of v n h e used =
    let p = and_parts (is_system_header n (fields v n)) (has_one_header (fields v n) (told v n) && are_stated v n (stated_clusters v n) (runs v n)) e in
    let q : is_system_header n (Some h) ≡ true = ap (is_system_header n) (sym used) ∙ p.0 in
    eqb-true h.seq (system_seq n) (and_parts (h.seq == system_seq n) ((not (h.dir) || is_system_directory n) && ((h.dir || not (is_system_directory n)) && not h.marked)) q).0

pub begun_system : (v : Volume) (n : ℕ) → HasSystem v → 1 ≤ n → n ≤ 11 → IsSystemSlot (begun_slot v n) n
unfolding begun_slot is_kept_file
begun_system v n system from to = by_main ((n == 4) && lacks_entry v) refl where
  h : IsSystemHeader v n
  h = system_fields v n (system.files.sound n from to)

  f : File
  f = file_of (factor v) n h.header (body v n)

  there : slot_of v n ≡ Used f
  there = slot_used v n h.header h.used

  seq : f.seq ≡ system_seq n
  seq = system_seq_of v n h.header (system.files.sound n from to) h.used

  kept : cond (nat_le n 11 || is_sound v n) (kept_slot v n) (Free (seq_at v n)) ≡ kept_slot v n
  kept = ap (λ t. cond t (kept_slot v n) (Free (seq_at v n))) (or_left (nat_le n 11) (is_sound v n) (le-leb n 11 to))

  by_main : (t : Bool) → ((n == 4) && lacks_entry v) ≡ t → IsSystemSlot (cond (nat_le n 11 || is_sound v n) (kept_slot v n) (Free (seq_at v n))) n
  by_main true e = record {
    file = record f { entries = map plain_entry main_entries };
    used = kept ∙ ap (λ t. cond t (with_listed (map plain_entry main_entries) (slot_of v n)) (emptied (slot_of v n))) e ∙ ap (with_listed (map plain_entry main_entries)) there;
    system = record { seq = seq; dir = h.dir; unmarked = h.unmarked };
  }
  by_main false e = record {
    file = f;
    used = kept ∙ ap (λ t. cond t (with_listed (map plain_entry main_entries) (slot_of v n)) (emptied (slot_of v n))) e ∙ ap emptied there
        ∙ ap (λ t. cond t (Used (record f { entries = [] })) (Used f)) h.unmarked;
    system = record { seq = seq; dir = h.dir; unmarked = h.unmarked };
  }

-- ---- what mending gets

listed_bare : (change : ℕ → List DirEnt → List DirEnt) (n : ℕ) (ss : List Slot) → map bare (each_listed change n ss) ≡ map bare ss
listed_bare change n [] = refl
listed_bare change n (Used f ∷ ss) = ap (λ (ts : List Slot). bare (Used f) ∷ ts) (listed_bare change (n + 1) ss)
listed_bare change n (Free q ∷ ss) = ap (λ (ts : List Slot). Free q ∷ ts) (listed_bare change (n + 1) ss)

one_owned : (c : Cat) (s : Slot) → bare (owned c s) ≡ bare s
one_owned c (Free q) = refl
one_owned c (Used f) = by_row (has_row c f.owner.0) where
  by_row : (t : Bool) → bare (cond t (Used f) (Used (record f { owner = record { 0 = system_owner } }))) ≡ bare (Used f)
  by_row true = refl
  by_row false = refl

owned_bare : (c : Cat) (ss : List Slot) → map bare (map (owned c) ss) ≡ map bare ss
owned_bare c [] = refl
owned_bare c (s ∷ ss) = let a = one_owned c s in let b = owned_bare c ss in λ i. a i ∷ b i

pub patched_alike : (v : Volume) → IsSameBut (begun v) (patched v)
unfolding patched with_owners without_loops without_own
patched_alike v =
    owned_bare (without_loops (without_own (begun v))) (without_loops (without_own (begun v))).files
    ∙ listed_bare (loop_without (without_own (begun v))) 1 (without_own (begun v)).files
    ∙ listed_bare main_without 1 (begun v).files
