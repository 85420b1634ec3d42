-- Files that stay, with their sequence and what they are.
use Rattle.std.proofs.Common.{◌≡◌, ◌-◌, ◌≤◌, ◌==◌, ◌⊎◌, inl, inr, ℕ, zero, suc, Bool, true, false, cond, not, List, Option, Some, None, slice_get, slice_set, refl, sym, ap, ◌∙◌, arith}
use Rattle.std.proofs.lemmas.Bool.Decides.{nat_tests}
use Rattle.plain_cat.specs.declared.ids.Fid.{Fid}
use Rattle.plain_cat.specs.declared.cat.Cat.{Cat}
use Rattle.plain_cat.specs.declared.cat.File.{File}
use Rattle.plain_cat.specs.declared.cat.Slot.{Slot}
use Rattle.plain_cat.specs.declared.cat.Slot.TheVariants.{Used, Free}
use Rattle.plain_rules.specs.Lookups.{file_in, file_at, of_seq, in_use, is_open}
use Rattle.plain_rules.proofs.Kept.{get_set}
use Rattle.plain_rules.proofs.Standing.{stands_at}
use Rattle.plain_rules.specs.Opens.{is_plain_file}
use Rattle.plain_histories.proofs.Lists.{set_else}

-- at this place stands a file with the sequence of f, which is a directory exactly where f is one
pub record KeptAt (files : List Slot) (j : ℕ) (f : File) : Type 0 where
  pub file : File
  pub at : slice_get files j ≡ Some (Used file)
  pub seq : file.seq ≡ f.seq
  pub dir : file.dir ≡ f.dir

-- all files stay
abbrev pub AllStay : List Slot → List Slot → Type 0
AllStay xs ys = (j : ℕ) (f : File) → slice_get xs j ≡ Some (Used f) → KeptAt ys j f

-- all files that a channel has open in d stay
abbrev pub OpenStay : List Slot → Cat → Type 0
OpenStay xs d = (j : ℕ) (f : File) → slice_get xs j ≡ Some (Used f) → is_open d (suc j) ≡ true → KeptAt d.files j f

pub same_stay : (xs : List Slot) → AllStay xs xs
same_stay xs j f at = record { file = f; at = at; seq = refl; dir = refl }

pub then_stay : (xs ys zs : List Slot) → AllStay xs ys → AllStay ys zs → AllStay xs zs
then_stay xs ys zs h k j f at =
    let a = h j f at in
    let b = k j a.file a.at in
    record { file = b.file; at = b.at; seq = b.seq ∙ a.seq; dir = b.dir ∙ a.dir }

pub then_open : (xs ys : List Slot) (d : Cat) → AllStay xs ys → OpenStay ys d → OpenStay xs d
then_open xs ys d h k j f at is =
    let a = h j f at in
    let b = k j a.file a.at is in
    record { file = b.file; at = b.at; seq = b.seq ∙ a.seq; dir = b.dir ∙ a.dir }

-- the file of a place is changed
pub slot_stay : (xs : List Slot) (i : ℕ) (old new : File) → slice_get xs i ≡ Some (Used old) → new.seq ≡ old.seq → new.dir ≡ old.dir
    → AllStay xs (slice_set xs i (Used new))
slot_stay xs i old new own seq dir j f at = by_place (get_set xs i j (Used new) (Used f) at) where
  by_place : (slice_get (slice_set xs i (Used new)) j ≡ Some (Used f)) ⊎ ((i ≡ j) × (slice_get (slice_set xs i (Used new)) j ≡ Some (Used new)))
      → KeptAt (slice_set xs i (Used new)) j f
  by_place (inl h) = record { file = f; at = h; seq = refl; dir = refl }
  by_place (inr h) =
      let two : Some (Used old) ≡ Some (Used f) = sym own ∙ (ap (slice_get xs) h.0 ∙ at) in
      let e : old ≡ f = cc two in
      record { file = new; at = h.1; seq = seq ∙ ap (λ (x : File). x.seq) e; dir = dir ∙ ap (λ (x : File). x.dir) e }

-- a free place gets a file
pub free_stay : (xs : List Slot) (i q : ℕ) (s : Slot) → slice_get xs i ≡ Some (Free q) → AllStay xs (slice_set xs i s)
free_stay xs i q s own j f at = record { file = f; at = set_else xs i j s apart ∙ at; seq = refl; dir = refl } where
  apart : i ≡ j → ⊥
  apart e = let two : Some (Free q) ≡ Some (Used f) = sym own ∙ (ap (slice_get xs) e ∙ at) in cc two

-- another place is changed
pub else_stay : (xs : List Slot) (i j : ℕ) (s : Slot) (f : File) → (i ≡ j → ⊥) → slice_get xs j ≡ Some (Used f) → KeptAt (slice_set xs i s) j f
else_stay xs i j s f ne at = record { file = f; at = set_else xs i j s ne ∙ at; seq = refl; dir = refl }

-- ---- by number and identifier

pub file_here : (c : Cat) (n : ℕ) (f : File) → 1 ≤ n → slice_get c.files (n - 1) ≡ Some (Used f) → file_at c n ≡ Some f
file_here c n f le e = ap file_in (ap (λ b. cond b None (slice_get c.files (n - 1))) (some n le) ∙ e) where
  some : (k : ℕ) → 1 ≤ k → (k == 0) ≡ false
  some k h = grind (arith, nat_tests)

-- a file of no number but 0
pub file_from : (c : Cat) (n : ℕ) (f : File) → file_at c n ≡ Some f → 1 ≤ n
file_from c zero f e = absurd (let g : None ≡ Some f = e in cc)
file_from c (suc k) f e = omega arith

-- an identifier's file that is no directory
pub record IsPlain (c : Cat) (fid : Fid) : Type 0 where
  pub file : File
  pub at : file_at c fid.num ≡ Some file
  pub seq : (file.seq == fid.seq) ≡ true
  pub plain : file.dir ≡ false

plain_in : (c : Cat) (fid : Fid) (o : Option File) → file_at c fid.num ≡ o → is_plain_file (of_seq fid.seq o) ≡ true → IsPlain c fid
plain_in c fid None at e = absurd (let g : false ≡ true = e in cc)
plain_in c fid (Some f) at e = by_seq (f.seq == fid.seq) refl e where
  by_seq : (b : Bool) → (f.seq == fid.seq) ≡ b → is_plain_file (cond b (Some f) None) ≡ true → IsPlain c fid
  by_seq true same h = record { file = f; at = at; seq = same; plain = by_dir f.dir h } where
    by_dir : (b : Bool) → not b ≡ true → b ≡ false
    by_dir true k = absurd (let g : false ≡ true = k in cc)
    by_dir false k = refl
  by_seq false same h = absurd (let g : false ≡ true = h in cc)

pub plain_from : (c : Cat) (fid : Fid) → is_plain_file (in_use c fid) ≡ true → IsPlain c fid
plain_from c fid e = plain_in c fid (file_at c fid.num) refl e

pub plain_to : (c : Cat) (fid : Fid) (f : File) → file_at c fid.num ≡ Some f → (f.seq == fid.seq) ≡ true → f.dir ≡ false → is_plain_file (in_use c fid) ≡ true
plain_to c fid f at seq plain =
    ap (λ o. is_plain_file (of_seq fid.seq o)) at ∙ (ap (λ b. is_plain_file (cond b (Some f) None)) seq ∙ ap not plain)

-- a plain file that a channel has open in d stays
pub plain_stays : (c d : Cat) (fid : Fid) → OpenStay c.files d → is_open d fid.num ≡ true → is_plain_file (in_use c fid) ≡ true → is_plain_file (in_use d fid) ≡ true
plain_stays c d fid stay is plain =
    let p = plain_from c fid plain in
    let from : 1 ≤ fid.num = file_from c fid.num p.file p.at in
    let back : suc (fid.num - 1) ≡ fid.num = omega arith in
    let k = stay (fid.num - 1) p.file (stands_at c fid.num p.file p.at) (ap (is_open d) back ∙ is) in
    plain_to d fid k.file (file_here d fid.num k.file from k.at) (ap (λ (q : ℕ). q == fid.seq) k.seq ∙ p.seq) (k.dir ∙ p.plain)
