-- Chains of entries: what a search that follows them finds.
use Rattle.std.proofs.Common.{◌≡◌, ◌∙◌, ◌≢◌, ◌+◌, ◌<◌, ◌≤◌, ℕ, suc, Bool, true, false, not, List, [], ◌∷◌, length, get_or, Option, Some, None, refl, sym, ap, take, ⊎_elim}
use Rattle.std.specs.Prelude.{◌&&◌, ◌||◌, ◌==◌, slice_get, is_some}
use Rattle.std.specs.List.{list_any}
use Rattle.std.proofs.lemmas.Bool.{and_parts, eq-eqb, eqb-true}
use Rattle.std.proofs.lemmas.Bool.Decides.{eqb_tells}
use Rattle.std.proofs.lemmas.Option.{slice_get_within, get_or_from_slice_get}
use Rattle.std.proofs.lemmas.List.Folds.{list_any_at, list_any_more}
use Rattle.plain_cat.specs.declared.entries.DirEnt.{DirEnt}
use Rattle.plain_cat.specs.declared.cat.Cat.{Cat}
use Rattle.plain_cat.specs.declared.cat.File.{File}
use Rattle.plain_rules.specs.Lookups.{of_seq, file_at}
use Rattle.vol_parts.specs.Fatal.{NamesFile, Path}
use Rattle.plain_rules.specs.SystemFiles.{is_system_entry}
use Rattle.plain_rules.specs.SystemFiles.{entries_of}
use Rattle.vol_parts.specs.Fatal.Path.{One, More}
use Rattle.vol_faults.specs.Reaching.{is_step, is_step_to, leads}
use Rattle.vol_faults.specs.Walking.{leads_among}
use Rattle.vol_faults.proofs.CatLemmas.{file-number}

-- ---- entries that lead to a number

any-there : {X : Type 0} (p : X → Bool) (x : X) (xs : List X) (t : Bool) → p x ≡ t → (t || list_any p xs) ≡ true
    → (list_any p xs ≡ true → (i : ℕ) × (y : X) × (slice_get xs i ≡ Some y) × (p y ≡ true))
    → (i : ℕ) × (y : X) × (slice_get (x ∷ xs) i ≡ Some y) × (p y ≡ true)
any-there p x xs true e any rest = (0, x, refl, e)
any-there p x xs false e any rest = let w = rest any in (suc w.0, w.1, w.2, w.3)

pub any-place : {X : Type 0} (p : X → Bool) (xs : List X) → list_any p xs ≡ true → (i : ℕ) × (y : X) × (slice_get xs i ≡ Some y) × (p y ≡ true)
any-place p [] any = absurd (cc)
any-place p (x ∷ xs) any = any-there p x xs (p x) refl any (any-place p xs)

place-any : {X : Type 0} (p : X → Bool) (xs : List X) (i : ℕ) (y : X) → slice_get xs i ≡ Some y → p y ≡ true → list_any p xs ≡ true
place-any p xs i y there passes =
    let same : get_or xs i y ≡ y = get_or_from_slice_get xs i y y there in
    list_any_at p xs i y (slice_get_within xs i y there) (ap p same ∙ passes)

other-entry : (t own : Bool) → not (t && own) ≡ true → t ≡ true → own ≡ false
other-entry true true e is = absurd (cc)
other-entry true false e is = refl
other-entry false own e is = absurd (cc)

pub leads-names : (c : Cat) (n m : ℕ) → leads c n m ≡ true → NamesFile c n m
unfolding leads is_step
leads-names c n m e =
    let w = any-place (is_step_to c n m) (entries_of c n) e in
    let step = and_parts _ _ w.3 in
    let use_other = and_parts _ _ step.0 in
    record {
      place = w.0;
      entry = w.1;
      there = w.2;
      used = use_other.0;
      names = eqb-true _ _ step.1;
      other = λ four. other-entry (n == 4) (is_system_entry 4 w.1) use_other.1 (eq-eqb n 4 four);
    }

not-own : (n : ℕ) (own : Bool) → ((n ≡ 4) → own ≡ false) → not ((n == 4) && own) ≡ true
not-own n own other = ⊎_elim
    (λ (h : ((n == 4) ≡ true) × (n ≡ 4)). rw (h.0, other h.1) refl)
    (λ (h : ((n == 4) ≡ false) × (n ≢ 4)). rw h.0 refl)
    (eqb_tells n 4)

pub names-leads : (c : Cat) (n m : ℕ) → NamesFile c n m → leads c n m ≡ true
unfolding leads is_step
names-leads c n m h =
    place-any (is_step_to c n m) (entries_of c n) h.place h.entry h.there
    (rw (h.used, not-own n (is_system_entry 4 h.entry) h.other, eq-eqb h.entry.fid.num m h.names) refl)

pub step-goes : (c : Cat) (n i : ℕ) (e : DirEnt) → slice_get (entries_of c n) i ≡ Some e → is_step c n e ≡ true → leads c n e.fid.num ≡ true
unfolding leads
step-goes c n i e there h = place-any (is_step_to c n e.fid.num) (entries_of c n) i e there (rw (h, eq-eqb e.fid.num e.fid.num refl) refl)

-- ---- numbers

used-file : (seq : ℕ) (o : Option File) → is_some (of_seq seq o) ≡ true → (f : File) × (o ≡ Some f)
used-file seq None e = absurd (cc)
used-file seq (Some f) e = (f, refl)

-- what an entry leads to has one of the numbers
pub step-number : (c : Cat) (n : ℕ) (e : DirEnt) → is_step c n e ≡ true → e.fid.num ≤ length c.files
unfolding is_step
step-number c n e h =
    let w = used-file e.fid.seq (file_at c e.fid.num) (and_parts _ _ h).0 in
    (file-number c e.fid.num w.0 w.1).1

names-number : (c : Cat) (n m : ℕ) → NamesFile c n m → (1 ≤ m) × (m ≤ length c.files)
names-number c n m h =
    let w = used-file h.entry.fid.seq (file_at c h.entry.fid.num) h.used in
    rw (sym h.names) (file-number c h.entry.fid.num w.0 w.1)

pub path-number : (c : Cat) (n m : ℕ) → Path c n m → (1 ≤ m) × (m ≤ length c.files)
path-number c n m (One h) = names-number c n m h
path-number c n m (More p h) = names-number c _ m h

-- ---- the entries of a directory, one by one

step-leads : (c : Cat) (n m : ℕ) (e : DirEnt) (t : Bool) → is_step c n e ≡ t → is_step_to c n m e ≡ (t && (e.fid.num == m))
step-leads c n m e t h = rw h refl

pub more-leads : (c : Cat) (n i m : ℕ) (e : DirEnt) (es : List DirEnt) (t : Bool) → i < length es → e ≡ get_or es i e → is_step c n e ≡ t
    → leads_among c n (take (i + 1) es) m ≡ (leads_among c n (take i es) m || (t && (e.fid.num == m)))
more-leads c n i m e es t inside is h =
    list_any_more (is_step_to c n m) es i e inside
    ∙ ap (λ (x : DirEnt). leads_among c n (take i es) m || is_step_to c n m x) (sym is)
    ∙ ap (λ (b : Bool). leads_among c n (take i es) m || b) (step-leads c n m e t h)
