-- The way to a directory, word by word.
use Rattle.std.proofs.Common.{◌≡◌, ◌≢◌, ◌∙◌, ◌-◌, ℕ, zero, suc, Bool, true, false, List, ◌++◌, Option, Some, None, refl, sym, ap, arith}
use Rattle.std.specs.Prelude.{◌==◌, codes, option_map, if◌then◌else◌}
use Rattle.std.proofs.lemmas.Bool.{eq-eqb, ne_eqb}
use Rattle.plain_cat.specs.declared.cat.Cat.{Cat}
use Rattle.plain_rules.specs.declared.places.Place.{Place}
use Rattle.plain_rules.specs.Lookups.{file_at}
use Rattle.plain_rules.specs.Mending.{places}
use Rattle.vol_faults.specs.Places.{first_in}
use Rattle.vol_show.specs.Listing.{is_dir_entry, dir_word, above, path}

-- what stands above an entry, by whether it leads on and whether it is in the master file directory
abbrev shape : Bool → Bool → List ℕ → Option (List ℕ) → Option (List ℕ)
shape t d w o = if t then (if d then Some w else option_map (λ x. x ++ (codes "." ++ w)) o) else None

module _ (c : Cat) where
  abbrev first : ℕ → Option Place
  first n = first_in (places c) n (file_at c n)

  more : (k n : ℕ) → k ≢ 0 → path c k n ≡ above (first n) (path c (k - 1))
  unfolding path
  more zero n ne = absurd (ne refl)
  more (suc k) n ne = let e : k ≡ suc k - 1 = omega arith in ap (λ (j : ℕ). above (first n) (path c j)) e

  pub no_words : (k n : ℕ) → k ≡ 0 → None ≡ path c k n
  unfolding path
  no_words zero n e = refl
  no_words (suc k) n e = absurd (omega arith)

  pub no_first : (k n : ℕ) → k ≢ 0 → None ≡ first n → None ≡ path c k n
  no_first k n ne e = ap (λ (o : Option Place). above o (path c (k - 1))) e ∙ sym (more k n ne)

  shaped : (k n : ℕ) (p : Place) → k ≢ 0 → Some p ≡ first n → shape (is_dir_entry p.entry) (p.dir == 4) (dir_word p.entry) (path c (k - 1) p.dir) ≡ path c k n
  shaped k n p ne e = ap (λ (o : Option Place). above o (path c (k - 1))) e ∙ sym (more k n ne)

  pub no_dir : (k n : ℕ) (p : Place) → k ≢ 0 → Some p ≡ first n → is_dir_entry p.entry ≡ false → None ≡ path c k n
  no_dir k n p ne e t = ap (λ (b : Bool). shape b (p.dir == 4) (dir_word p.entry) (path c (k - 1) p.dir)) (sym t) ∙ shaped k n p ne e

  pub from_main : (k n : ℕ) (p : Place) → k ≢ 0 → Some p ≡ first n → is_dir_entry p.entry ≡ true → p.dir ≡ 4 → Some (dir_word p.entry) ≡ path c k n
  from_main k n p ne e t d =
      ap (λ (b : Bool). shape true b (dir_word p.entry) (path c (k - 1) p.dir)) (sym (eq-eqb p.dir 4 d))
      ∙ ap (λ (b : Bool). shape b (p.dir == 4) (dir_word p.entry) (path c (k - 1) p.dir)) (sym t) ∙ shaped k n p ne e

  pub from_other : (k n : ℕ) (p : Place) → k ≢ 0 → Some p ≡ first n → is_dir_entry p.entry ≡ true → p.dir ≢ 4
      → option_map (λ x. x ++ (codes "." ++ dir_word p.entry)) (path c (k - 1) p.dir) ≡ path c k n
  from_other k n p ne e t d =
      ap (λ (b : Bool). shape true b (dir_word p.entry) (path c (k - 1) p.dir)) (sym (ne_eqb p.dir 4 d))
      ∙ ap (λ (b : Bool). shape b (p.dir == 4) (dir_word p.entry) (path c (k - 1) p.dir)) (sym t) ∙ shaped k n p ne e
