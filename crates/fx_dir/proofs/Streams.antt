-- Steps through the versions of a record and through the records of a block.
use Rattle.std.proofs.Common.{◌≡◌, ◌+◌, ◌*◌, ◌≤◌, ◌<◌, ◌++◌, true, false, ℕ, zero, suc, List, [], ◌∷◌, Option, Some, None, option_map, drop, length, refl, sym, ap, ◌∙◌, arith, append_assoc}
use Rattle.std.specs.Prelude.{IsSome}
use Rattle.std.proofs.lemmas.List.{drop-drop}
use Rattle.fx_dir.specs.declared.RawEnt.{RawEnt}
use Rattle.fx_dir.specs.Records.{record_length, is_end, is_version, entry_in, versions_in, record_entries, records_in}

more-one : (xs : List RawEnt) (x : RawEnt) (o : Option (List RawEnt)) → option_map (λ es. xs ++ es) (option_map (λ es. x ∷ es) o) ≡ option_map (λ es. (xs ++ x ∷ []) ++ es) o
more-one xs x None = refl
more-one xs x (Some es) = ap Some (sym (append_assoc xs (x ∷ []) es))

more-many : (xs ys : List RawEnt) (o : Option (List RawEnt)) → option_map (λ es. xs ++ es) (option_map (λ es. ys ++ es) o) ≡ option_map (λ es. (xs ++ ys) ++ es) o
more-many xs ys None = refl
more-many xs ys (Some es) = ap Some (sym (append_assoc xs ys es))

pub versions-go : (all : Option (List RawEnt)) (list more : List RawEnt) (head bytes at : List ℕ) (k n : ℕ) → at ≡ drop (8 * k) bytes → is_version at ≡ true
    → all ≡ option_map (λ es. list ++ es) (versions_in head (suc n) (drop (8 * k) bytes)) → more ≡ list ++ entry_in head at ∷ []
    → all ≡ option_map (λ es. more ++ es) (versions_in head n (drop (8 * (k + 1)) bytes))
versions-go all list more head bytes at k n a t h m =
    let e : 8 * k + 8 ≡ 8 * (k + 1) = omega arith in
    let d : drop 8 at ≡ drop (8 * (k + 1)) bytes = ap (drop 8) a ∙ drop-drop 8 (8 * k) bytes ∙ ap (λ o. drop o bytes) e in
    let g : all ≡ option_map (λ es. list ++ es) (option_map (λ es. entry_in head at ∷ es) (versions_in head n (drop 8 at))) = h ∙ rw (← a, t) refl in
    rw (m, ← d) (g ∙ more-one list (entry_in head at) (versions_in head n (drop 8 at)))

pub versions-fail : (all : Option (List RawEnt)) (list : List RawEnt) (head bytes at : List ℕ) (k n : ℕ) → at ≡ drop (8 * k) bytes → is_version at ≡ false
    → all ≡ option_map (λ es. list ++ es) (versions_in head (suc n) (drop (8 * k) bytes)) → all ≡ None
versions-fail all list head bytes at k n a t h = h ∙ rw (← a, t) refl

-- what the records from here on give, where at most as many come as there are bytes
pub Left : Option (List RawEnt) → List RawEnt → List ℕ → Type 0
Left all list bytes = (n : ℕ) × (length bytes ≤ n) × (all ≡ option_map (λ es. list ++ es) (records_in n bytes))

pub records-begin : (list : List RawEnt) (b : List ℕ) → Left (option_map (λ es. list ++ es) (records_in (length b) b)) list b
unfolding Left
records-begin list b = (length b, omega arith, refl)

pub records-end : (all : Option (List RawEnt)) (list : List RawEnt) (bytes : List ℕ) → 2 ≤ length bytes → is_end bytes ≡ true → Left all list bytes → all ≡ Some list
unfolding records_in Left
records-end all list bytes l t (zero, m, h) = absurd (omega arith)
records-end all list bytes l t (suc n, m, h) = h ∙ rw t (λ i. Some (append-none list i)) where
  append-none : (xs : List RawEnt) → xs ++ [] ≡ xs
  append-none [] = refl
  append-none (x ∷ xs) = λ i. x ∷ append-none xs i

pub records-fail : (all : Option (List RawEnt)) (list : List RawEnt) (bytes : List ℕ) → 2 ≤ length bytes → is_end bytes ≡ false → record_entries bytes ≡ None → Left all list bytes → all ≡ None
unfolding records_in Left
records-fail all list bytes l t r (zero, m, h) = absurd (omega arith)
records-fail all list bytes l t r (suc n, m, h) = h ∙ rw (t, r) refl

pub records-go : (all : Option (List RawEnt)) (list more next : List RawEnt) (bytes : List ℕ) → 2 ≤ length bytes → is_end bytes ≡ false → record_entries bytes ≡ Some more → next ≡ list ++ more → length (drop (record_length bytes) bytes) < length bytes
    → Left all list bytes → Left all next (drop (record_length bytes) bytes)
unfolding records_in Left
records-go all list more next bytes l t r e s (zero, m, h) = absurd (omega arith)
records-go all list more next bytes l t r e s (suc n, m, h) = (n, omega arith, rw e (h ∙ rw (t, r) (more-many list more (records_in n (drop (record_length bytes) bytes)))))

-- where all is there, so is the record that begins here
pub record-there : (all : Option (List RawEnt)) (xs list : List RawEnt) (bytes : List ℕ) → 2 ≤ length bytes → is_end bytes ≡ false → all ≡ Some xs → Left all list bytes → IsSome (record_entries bytes)
record-there all xs list bytes l t a left = by_record (record_entries bytes) refl where
  by_record : (o : Option (List RawEnt)) → record_entries bytes ≡ o → IsSome o
  by_record None e = absurd (let n : Some xs ≡ None = sym a ∙ records-fail all list bytes l t e left in cc)
  by_record (Some es) e = refl
