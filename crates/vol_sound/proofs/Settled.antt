-- Where all slots that are not kept are free, nothing is wrong with a header, a chain or a run, and no cluster is in two runs.
use Rattle.std.proofs.Common.{◌≡◌, ◌≢◌, ◌∙◌, ◌<◌, ◌≤◌, ◌⊎◌, ℕ, true, false, List, [], Option, Some, None, slice_get, refl, sym, ap, subst, inl, inr, arith}
use Rattle.std.specs.Prelude.{Result, Ok, Err}
use Rattle.std.specs.List.{list_any}
use Rattle.std.proofs.lemmas.Bool.{cases_lt, cases_Bool}
use Rattle.base_words.specs.Fields.{Block}
use Rattle.base_words.specs.Lists.{Has}
use Rattle.base_words.proofs.Listing.{same_or_not, has_any, has_at}
use Rattle.fx_home.specs.declared.home.Home.{Home}
use Rattle.fx_home.specs.Homes.{IsWithinLimits}
use Rattle.fx_header.specs.declared.slot.Hdr.{Hdr}
use Rattle.fx_header.specs.declared.slot.Slot.{Slot}
use Rattle.fx_header.specs.declared.slot.Slot.TheVariants.{Free}
use Rattle.fx_header.specs.declared.slot.HeaderFault.{HeaderFault}
use Rattle.vol_parts.specs.Chains.{as_first}
use Rattle.vol_parts.specs.Volumes.{Volume, volume, IsNumber, factor, head, fields_in, used_slot, fields, headers_of, Told, told, runs, is_in_run, is_in_file}
use Rattle.vol_parts.specs.Fatal.{chain_test, chain_fault, is_off_bounds, IsInRun, IsShared}
use Rattle.vol_parts.proofs.Alone.{first-says, none_told}
use Rattle.vol_faults.specs.Counts.{times_in}
use Rattle.vol_faults.proofs.PlaceLemmas.{HasPlace, places-count}
use Rattle.vol_faults.specs.Conditions.{has_run_off}
use Rattle.vol_sound.specs.Sound.{has_cut, times_in_cut, is_sound, is_kept}
use Rattle.vol_sound.specs.Freeing.{HasSystem, seq_at, HasSlotsFreed, HasAllFreed, IsSettled}
use Rattle.vol_sound.proofs.Cuts.{IsCut, cut_parts, cut_whole, sound_parts, sound_alone, times_some, file_in_total, IsSoundSlot, kept_parts}
use Rattle.vol_sound.proofs.Freed.{runs_off_same, IsOwn, slots_own, first_of, whole_slots, head_by, kept_same, system_stays, sound_stays}

module _ (home : Home) (old new : List Block) (within : IsWithinLimits home) (system : HasSystem (volume home old)) (all : HasAllFreed home old new) where
  abbrev v : Volume
  v = volume home old

  abbrev p : Volume
  p = volume home new

  abbrev freed : HasSlotsFreed home old new
  freed = all.freed

  -- ---- the slots that are used

  -- a slot that is not kept is used no longer
  gone : (m : ℕ) → IsNumber v m → is_kept v m ≡ false → used_slot p m ≡ None
  gone m is lost = ap fields_in (all.all m is lost)

  pub used_kept : (m : ℕ) (f : Hdr) → IsNumber v m → used_slot p m ≡ Some f → is_kept v m ≡ true
  used_kept m f is e = elim (cases_Bool (is_kept v m)) [
    | inl kept ↦ kept
    | inr lost ↦ absurd (let z : None ≡ Some f = sym (gone m is lost) ∙ e in cc)
  ]

  -- what a slot that is kept says stays, and it is used by a header with its number
  pub kept_head : (m : ℕ) → IsNumber v m → is_kept v m ≡ true → head p m ≡ head v m
  kept_head m is k = head_by home old new freed.count m (kept_same home old new within system freed m is k)

  pub kept_own : (m : ℕ) → IsNumber v m → is_kept v m ≡ true → IsOwn (headers_of v) m
  kept_own m is k = elim (cases_lt 11 m) [ inl above ↦ by_file (kept_parts v m k above) | inr low ↦ by_number (cut_parts v m (system.cuts m is.from low)) ] where
    by_number : IsCut v m → IsOwn (headers_of v) m
    by_number c = record { header = c.header; says = (first-says v m c.header c.used).1; own = c.own }

    by_file : IsSoundSlot v m → IsOwn (headers_of v) m
    by_file k =
        let cut = (sound_parts v k.file k.sound).cut in
        let w = cut_whole v k.file system k.number cut in
        let c = cut_parts v k.file cut in
        let same : w.header ≡ c.header = (let e : Some w.header ≡ Some c.header = sym w.used ∙ c.used in cc) in
        slots_own (headers_of v) 16 k.file w.header w.header.blocks m (first-says v k.file w.header w.used).1 (ap (λ (x : Hdr). x.num) same ∙ c.own)
        (subst (λ (ns : List ℕ). Has ns m) (whole_slots v k.file w) k.slot)

  pub no_bad_header : (n : ℕ) (fault : HeaderFault) → IsNumber v n → head p n ≡ Err fault → ⊥
  no_bad_header n fault is e = elim (cases_Bool (is_kept v n)) [
    | inl kept ↦ (let own = kept_own n is kept in let z : None ≡ Some own.header = sym (ap fields_in e) ∙ ap fields_in (kept_head n is kept) ∙ own.says in absurd (cc))
    | inr lost ↦ (let z : ◌≡◌ {A = Result Slot HeaderFault} (Ok (Free (seq_at v n))) (Err fault) = sym (all.all n is lost) ∙ e in absurd (cc))
  ]

  pub own_numbers : (n : ℕ) (f : Hdr) → IsNumber v n → used_slot p n ≡ Some f → f.num ≡ n
  own_numbers n f is e =
      let kept = used_kept n f is e in
      let own = kept_own n is kept in
      let both : Some f ≡ Some own.header = sym e ∙ ap fields_in (kept_head n is kept) ∙ own.says in
      let same : f ≡ own.header = cc in
      ap (λ (x : Hdr). x.num) same ∙ own.own

  -- ---- the files that are in use

  -- a file in use above number 11 is sound
  pub used_sound : (n : ℕ) (f : Hdr) → IsNumber v n → 11 < n → fields p n ≡ Some f → is_sound v n ≡ true
  used_sound n f is above e =
      let says = (first-says p n f e).1 in
      let kept = used_kept n f is says in
      let k = kept_parts v n kept above in
      let w = cut_whole v k.file system k.number (sound_parts v k.file k.sound).cut in
      let used : fields v n ≡ Some f = sym (ap (λ r. fields_in (as_first r)) (kept_head n is kept)) ∙ e in
      let same : n ≡ k.file = first_of v k.file n w.header f w.used used (subst (λ (ns : List ℕ). Has ns n) (whole_slots v k.file w) k.slot) in
      ap (is_sound v) same ∙ k.sound

  -- the file of a number is a system file, a sound file, or none
  pub data Which (n : ℕ) : Type 0 where
    System : n ≤ 11 → Which n
    Sound : 11 < n → is_sound v n ≡ true → Which n
    Neither : 11 < n → fields p n ≡ None → Which n

  pub which : (n : ℕ) → IsNumber v n → Which n
  which n is = elim (cases_lt 11 n) [ inl above ↦ by_fields above (fields p n) refl | inr low ↦ System low ] where
    by_fields : 11 < n → (o : Option Hdr) → fields p n ≡ o → Which n
    by_fields above None e = Neither above e
    by_fields above (Some f) e = Sound above (used_sound n f is above e)

  no_runs : (n : ℕ) → fields p n ≡ None → runs p n ≡ []
  unfolding runs
  no_runs n e = ap (λ (t : Told). t.runs) (none_told p n e)

  -- nothing is wrong with a chain
  pub no_bad_chain : (n : ℕ) → IsNumber v n → 11 < n → chain_fault p n ≡ None
  unfolding chain_fault
  no_bad_chain n is above = elim (which n is) [
    | System low ↦ absurd (omega arith)
    | Sound _ s ↦ (sound_stays home old new within system freed n is s).chain ∙ (cut_parts v n (sound_parts v n s).cut).chain above
    | Neither _ none ↦ ap (chain_test p n) none
  ]

  -- nor with a run
  pub no_bad_runs : (n : ℕ) → IsNumber v n → has_run_off p n ≡ false
  unfolding has_run_off
  no_bad_runs n is = elim (which n is) [
    | System low ↦ runs_off_same home old new freed.count n (system_stays home old new within system freed n is.from low).told ∙ system.inside n is.from low
    | Sound _ s ↦ runs_off_same home old new freed.count n (sound_stays home old new within system freed n is s).told ∙ (sound_parts v n s).inside
    | Neither _ none ↦ ap (λ rs. list_any (is_off_bounds p) rs) (no_runs n none)
  ]

  -- ---- shared clusters

  -- a run of a file that is in use is one that the file had
  run_was : (q n i : ℕ) → told p n ≡ told v n → IsInRun p q n i → IsInRun v q n i
  unfolding runs
  run_was q n i same r = record { number = record { from = r.number.from; to = r.number.to }; run = r.run; there = ap (λ (t : Told). slice_get t.runs i) (sym same) ∙ r.there; inside = r.inside }

  in_file : (q n i : ℕ) → IsInRun v q n i → is_in_file v q n ≡ true
  in_file q n i r = has_any (is_in_run (factor v) q) (runs v n) r.run (has_at (runs v n) i r.run r.there) r.inside

  two_times : (q n i j : ℕ) → has_cut v n ≡ true → IsInRun v q n i → IsInRun v q n j → i ≢ j → 2 ≤ times_in_cut v q n
  unfolding times_in_cut times_in
  two_times q n i j cut a b ne = rw cut (places-count (is_in_run home.cluster q) (runs v n) i j (place a) (place b) ne) where
    place : {k : ℕ} → IsInRun v q n k → HasPlace (is_in_run home.cluster q) (runs v n) k
    place r = record { value = r.run; there = r.there; passes = r.inside }

  -- no cluster of a sound file is in another run of a cut
  sound_one : (q n i m j : ℕ) → is_sound v n ≡ true → has_cut v m ≡ true → IsInRun v q n i → IsInRun v q m j → (n ≡ m) × (i ≡ j)
  sound_one q n i m j s cut a b =
      let parts = sound_parts v n s in
      let mine = in_file q n i a in
      let same = sound_alone v q n m a.number b.number parts cut mine (in_file q m j b) in
      (same, one same (subst (λ (k : ℕ). IsInRun v q k j) (sym same) b) (same_or_not i j))
    where
      one : n ≡ m → IsInRun v q n j → (i ≡ j) ⊎ (i ≢ j) → i ≡ j
      one same b (inl e) = e
      one same b (inr ne) =
          let parts = sound_parts v n s in
          let two = two_times q n i j parts.cut a b ne in
          let some = times_some v q n a.number in
          let count = parts.unshared q (file_in_total v n q parts.inside (in_file q n i a)) (in_file q n i a) in
          absurd (omega arith)

  -- the file of a run is a system file or a sound file, and the run is one that it had
  pub data IsRunOf (q n i : ℕ) : Type 0 where
    OfSystem : n ≤ 11 → IsInRun v q n i → IsRunOf q n i
    OfSound : is_sound v n ≡ true → IsInRun v q n i → IsRunOf q n i

  run_of : (q n i : ℕ) → IsInRun p q n i → IsRunOf q n i
  run_of q n i r =
      let is : IsNumber v n = record { from = r.number.from; to = r.number.to } in
      elim (which n is) [
        | System low ↦ OfSystem low (run_was q n i (system_stays home old new within system freed n is.from low).told r)
        | Sound _ s ↦ OfSound s (run_was q n i (sound_stays home old new within system freed n is s).told r)
        | Neither _ none ↦ absurd (let z : None ≡ Some r.run = sym (ap (λ rs. slice_get rs i) (no_runs n none)) ∙ r.there in cc)
      ]

  one_run : (q n i m j : ℕ) → IsRunOf q n i → IsRunOf q m j → (n ≡ m) × (i ≡ j)
  one_run q n i m j (OfSystem a r) (OfSystem b s) = system.apart q n i m j a b r s
  one_run q n i m j (OfSound a r) (OfSystem b s) = sound_one q n i m j a (system.cuts m s.number.from b) r s
  one_run q n i m j (OfSound a r) (OfSound b s) = sound_one q n i m j a (sound_parts v m b).cut r s
  one_run q n i m j (OfSystem a r) (OfSound b s) = let h = sound_one q m j n i b (system.cuts n r.number.from a) s r in (sym h.0, sym h.1)

  -- no cluster is in two runs
  pub none_shared : (q : ℕ) → IsShared p q → ⊥
  none_shared q s =
      let h = one_run q s.n s.i s.m s.j (run_of q s.n s.i s.one) (run_of q s.m s.j s.other) in
      elim s.apart [ inl ne ↦ ne h.0 | inr ne ↦ ne h.1 ]

  pub is_settled : IsSettled v p
  is_settled = record { heads = no_bad_header; own = own_numbers; sound = used_sound; chains = no_bad_chain; runs = no_bad_runs; unshared = none_shared }

  -- the file of a number is a system file, a sound file, or there is none and was no sound one
  pub kinds : (n : ℕ) → IsNumber v n → (n ≤ 11) ⊎ (((11 < n) × (is_sound v n ≡ true)) ⊎ ((11 < n) × (fields p n ≡ None) × (is_sound v n ≡ false)))
  kinds n is = elim (which n is) [
    | System low ↦ inl low
    | Sound above s ↦ inr (inl (above, s))
    | Neither above none ↦ inr (inr (above, none, lost none (cases_Bool (is_sound v n))))
  ] where
    lost : fields p n ≡ None → (is_sound v n ≡ true) ⊎ (is_sound v n ≡ false) → is_sound v n ≡ false
    lost none (inr e) = e
    lost none (inl s) =
        let c = cut_parts v n (sound_parts v n s).cut in
        let z : None ≡ Some c.header = sym none ∙ (sound_stays home old new within system freed n is s).fields ∙ c.used in
        absurd (cc)
