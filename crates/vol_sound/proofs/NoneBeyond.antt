-- Where nothing is beyond repair, the system files and the storage control block are as the structure of a volume asks.
use Rattle.std.proofs.Common.{◌≡◌, ◌≢◌, ◌∙◌, ◌<◌, ◌≤◌, ◌⊎◌, ℕ, Bool, true, false, Option, Some, None, refl, sym, ap, subst, inl, inr, arith}
use Rattle.std.specs.Prelude.{◌==◌, ◌||◌}
use Rattle.std.specs.List.{list_any}
use Rattle.std.proofs.lemmas.Bool.{or_cases, eqb-true, cases_Bool}
use Rattle.base_words.proofs.Listing.{same_or_not}
use Rattle.fx_home.specs.declared.home.Home.{Home}
use Rattle.fx_home.specs.declared.scb.ScbFault.{ScbFault}
use Rattle.fx_home.specs.Homes.{IsWithinLimits}
use Rattle.fx_header.specs.declared.slot.Hdr.{Hdr}
use Rattle.plain_rules.specs.SystemFiles.{is_system_directory}
use Rattle.vol_parts.specs.declared.finding.Finding.{Finding}
use Rattle.vol_parts.specs.declared.finding.Finding.TheVariants as finding
use Rattle.vol_parts.specs.Volumes.{Volume, IsNumber, used_slot, fields, runs}
use Rattle.vol_parts.specs.Fatal.{is_system_file, scb_fault, is_off_bounds, IsInRun, IsShared, dir_fault}
use Rattle.vol_parts.proofs.Alone.{first-says}
use Rattle.vol_faults.specs.Conditions.{has_run_off}
use Rattle.vol_sound.specs.Sound.{has_cut}
use Rattle.vol_sound.specs.Freeing.{HasSystem}
use Rattle.vol_sound.specs.Beyond.{IsOfFixedParts, IsBeyondIn}
use Rattle.vol_sound.proofs.Cuts.{cut_from, IsOneHeader, system_header}

module _ (v : Volume) (within : IsWithinLimits v.home) (none : (f : Finding) → IsBeyondIn v f → ⊥) where
  number : (n : ℕ) → 1 ≤ n → n ≤ 11 → IsNumber v n
  number n a b = let f = within.files_low in record { from = a; to = (let h : n ≤ v.home.files = omega arith in h) }

  stands : (n : ℕ) → 1 ≤ n → n ≤ 11 → is_system_file v n ≡ true
  stands n a b = elim (cases_Bool (is_system_file v n)) [
    | inl right ↦ right
    | inr wrong ↦ absurd (none (finding.SystemFile n) (record { fatal = (a, b, wrong); fixed = tt }))
  ]

  own : (n : ℕ) → 1 ≤ n → n ≤ 11 → has_cut v n ≡ true
  own n a b =
      let h = system_header v n (stands n a b) in
      let said = (first-says v n h.header h.used).1 in
      cut_from v n (record {
        header = h.header;
        used = h.used;
        own = (elim (same_or_not h.header.num n) [ inl same ↦ same | inr ne ↦ absurd (none (finding.WrongNumber n) (record { fatal = (number n a b, (h.header, said, ne)); fixed = b })) ]);
        chain = λ above. absurd (omega arith);
      })

  inside : (n : ℕ) → 1 ≤ n → n ≤ 11 → has_run_off v n ≡ false
  unfolding has_run_off
  inside n a b = elim (cases_Bool (list_any (is_off_bounds v) (runs v n))) [
    | inl wrong ↦ absurd (none (finding.Runs n) (record { fatal = (number n a b, wrong); fixed = b }))
    | inr right ↦ right
  ]

  apart : (q n i m j : ℕ) → n ≤ 11 → m ≤ 11 → IsInRun v q n i → IsInRun v q m j → (n ≡ m) × (i ≡ j)
  apart q n i m j a b r s = elim (same_or_not n m) [
    | inl same ↦ (elim (same_or_not i j) [ inl one ↦ (same, one) | inr ne ↦ absurd (shared (inr ne)) ])
    | inr ne ↦ absurd (shared (inl ne))
  ] where
    shared : (n ≢ m) ⊎ (i ≢ j) → ⊥
    shared d =
        let x : IsShared v q = record { n = n; i = i; m = m; j = j; one = r; other = s; apart = d } in
        none (finding.SharedCluster q) (record { fatal = x; fixed = record { shared = x; one = a; other = b } })

  control : scb_fault v ≡ None
  control = by_fault (scb_fault v) refl where
    by_fault : (o : Option ScbFault) → scb_fault v ≡ o → scb_fault v ≡ None
    by_fault None e = e
    by_fault (Some fault) e = absurd (none (finding.Scb fault) (record { fatal = e; fixed = tt }))

  sizes : (n : ℕ) → is_system_directory n ≡ true → dir_fault v n ≢ Some (finding.DirSize n)
  sizes n d e = elim (or_cases (n == 4) (n == 11) d) [
    | inl four ↦ (let k : n ≡ 4 = eqb-true n 4 four in none (finding.DirSize n) (record { fatal = (number n (omega arith) (omega arith), e); fixed = inl k }))
    | inr last ↦ (let k : n ≡ 11 = eqb-true n 11 last in none (finding.DirSize n) (record { fatal = (number n (omega arith) (omega arith), e); fixed = inr k }))
  ]

  pub has_system : HasSystem v
  has_system = record { files = record { sound = stands }; cuts = own; inside = inside; apart = apart; control = control; sizes = sizes }
