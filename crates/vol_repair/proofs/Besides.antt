-- Where the only fatal findings are those on which the spelling of a catalogue does not rest, nothing is beyond repair, and each file
-- above number 11 is sound.
use Rattle.std.proofs.Common.{◌≡◌, ◌<◌, ◌≤◌, ◌+◌, ℕ, Bool, true, false, cond, not, List, Option, Some, None, refl, ap, subst, inl, inr, arith}
use Rattle.std.specs.Prelude.{◌&&◌, Result, Ok, Err}
use Rattle.std.specs.List.{list_any}
use Rattle.std.proofs.lemmas.Bool.{cases_lt, cases_Bool}
use Rattle.base_words.specs.Fields.{Block}
use Rattle.base_words.proofs.Listing.{same_or_not}
use Rattle.fx_home.specs.declared.home.Home.{Home}
use Rattle.fx_home.specs.declared.home.HomeFault.{HomeFault}
use Rattle.fx_home.specs.Homes.{home_read}
use Rattle.fx_header.specs.declared.slot.Hdr.{Hdr}
use Rattle.fx_header.specs.declared.slot.Slot.{Slot as Head}
use Rattle.fx_header.specs.declared.slot.Slot.TheVariants as head
use Rattle.fx_header.specs.declared.slot.HeaderFault.{HeaderFault}
use Rattle.fx_dir.specs.declared.RawEnt.{RawEnt}
use Rattle.fx_dir.specs.declared.DirFault.{DirFault}
use Rattle.fx_dir.specs.declared.DirFault.TheVariants as dir
use Rattle.fx_dir.specs.Directory.{directory}
use Rattle.plain_cat.specs.declared.cat.File.{File}
use Rattle.plain_cat.specs.declared.cat.Slot.TheVariants.{Used, Free}
use Rattle.vol_parts.specs.declared.finding.Finding.{Finding}
use Rattle.vol_parts.specs.declared.finding.Finding.TheVariants as finding
use Rattle.vol_parts.specs.Chains.{chain_of, is_broken, is_well_split}
use Rattle.vol_parts.specs.Volumes.{Volume, volume, IsNumber, factor, first_head, fields_in, fields, headers_of, told, runs, body, is_in_run, is_in_file}
use Rattle.vol_parts.specs.Catalogues.{slot_with, slot_of}
use Rattle.vol_parts.specs.Fatal.{is_one_header, chain_test, chain_fault, is_off_bounds, IsInRun, IsShared, has_dir_size, found_in, dir_test, dir_fault, IsFatalIn}
use Rattle.vol_parts.specs.Findings.{home_at}
use Rattle.vol_parts.proofs.Alone.{first-says}
use Rattle.vol_faults.specs.Conditions.{has_run_off}
use Rattle.vol_faults.specs.Counts.{times_in}
use Rattle.vol_faults.proofs.PlaceLemmas.{HasPlace, one-place, two-places, HasTerm, HasTwoTerms, two-terms}
use Rattle.vol_spell.specs.Accepting.{IsBeside}
use Rattle.vol_sound.specs.Sound.{has_cut, times_in_cut, times_cut, is_sound}
use Rattle.vol_sound.specs.Beyond.{IsOfFixedParts, IsBeyondBy}
use Rattle.vol_sound.proofs.Cuts.{cut_from, sound_from, cut_counts, times_some}
use Rattle.vol_repair.specs.Keeping.{NoneIsBeyond}
use Rattle.vol_repair.specs.Laws.{BesideIsSound}

-- the fatal findings of a volume are such alone
abbrev pub AreBeside : Volume → Type 0
AreBeside v = (f : Finding) → IsFatalIn v f → IsBeside f

-- ---- nothing is beyond repair

-- no such finding is one of the fixed parts
none_fixed : (v : Volume) (f : Finding) → IsBeside f → IsOfFixedParts v f → ⊥
none_fixed v (finding.NoQuotaRow n) b x = x
none_fixed v (finding.SystemEntry n) b x = x
none_fixed v (finding.MarkedDir n) b x = x
none_fixed v (finding.DirLoop n) b x = x
none_fixed v (finding.NoRoom n) b x = x
none_fixed v f b x = b

pub none_beyond : (home : Home) (bs : List Block) → home_read (home_at bs) ≡ Ok home → AreBeside (volume home bs) → NoneIsBeyond bs
none_beyond home bs read beside f h =
    let b = subst (λ (r : Result Home HomeFault). IsBeyondBy bs r f) read h in none_fixed (volume home bs) f (beside f b.fatal) b.fixed

-- ---- the file of a slot

-- a slot that has a file has the header of one
pub used_header : (v : Volume) (n : ℕ) (f : File) → slot_of v n ≡ Used f → (h : Hdr) × (fields v n ≡ Some h)
unfolding slot_of
used_header v n f e = by_head (first_head v n) refl e where
  by_head : (r : Result Head HeaderFault) → first_head v n ≡ r → slot_with (factor v) n r (body v n) ≡ Used f → (h : Hdr) × (fields v n ≡ Some h)
  by_head (Err fault) u t = absurd (let z : Free 0 ≡ Used f = t in cc)
  by_head (Ok (head.Free seq)) u t = absurd (let z : Free seq ≡ Used f = t in cc)
  by_head (Ok (head.Used h)) u t = (h, ap fields_in u)

module _ (v : Volume) (beside : AreBeside v) where
  -- its header has its own number
  own : (n : ℕ) (h : Hdr) → IsNumber v n → fields v n ≡ Some h → h.num ≡ n
  own n h is used = elim (same_or_not h.num n) [
    | inl same ↦ same
    | inr ne ↦ absurd (beside (finding.WrongNumber n) (is, (h, (first-says v n h used).1, ne)))
  ]

  -- nothing is wrong with its chain of headers
  chain : (n : ℕ) → IsNumber v n → 11 < n → chain_fault v n ≡ None
  unfolding chain_fault
  chain n is above = by_fields (fields v n) refl where
    by_tests : (f : Hdr) (a b : Bool)
        → chain_test v n (fields v n) ≡ cond a (Some (finding.ChainBroken n)) (cond b None (Some (finding.ChainSplit n))) → chain_test v n (fields v n) ≡ None
    by_tests f true b e = absurd (beside (finding.ChainBroken n) (is, above, e))
    by_tests f false true e = e
    by_tests f false false e = absurd (beside (finding.ChainSplit n) (is, above, e))

    by_fields : (o : Option Hdr) → fields v n ≡ o → chain_test v n (fields v n) ≡ None
    by_fields None u = ap (chain_test v n) u
    by_fields (Some f) u = by_tests f (is_broken f (chain_of (headers_of v) n f)) (is_well_split (factor v) (chain_of (headers_of v) n f)) (ap (chain_test v n) u)

  -- nor with a run
  inside : (n : ℕ) → IsNumber v n → has_run_off v n ≡ false
  unfolding has_run_off
  inside n is = elim (cases_Bool (list_any (is_off_bounds v) (runs v n))) [
    | inl wrong ↦ absurd (beside (finding.Runs n) (is, wrong))
    | inr right ↦ right
  ]

  -- nor with a directory
  directory_right : (n : ℕ) → IsNumber v n → dir_fault v n ≡ None
  unfolding dir_fault
  directory_right n is = by_fields (fields v n) refl where
    by_found : (r : Result (List RawEnt) DirFault) → dir_test v n (fields v n) ≡ found_in n r → dir_test v n (fields v n) ≡ None
    by_found (Ok es) e = e
    by_found (Err (dir.BadRecord vbn)) e = absurd (beside (finding.DirRecord n) (is, e))
    by_found (Err dir.BadOrder) e = absurd (beside (finding.DirOrder n) (is, e))
    by_found (Err dir.Clash) e = absurd (beside (finding.DirClash n) (is, e))
    by_found (Err dir.NoMemory) e = e

    by_tests : (d z : Bool) → dir_test v n (fields v n) ≡ cond (not d) None (cond z (found_in n (directory (body v n))) (Some (finding.DirSize n))) → dir_test v n (fields v n) ≡ None
    by_tests false z e = e
    by_tests true true e = by_found (directory (body v n)) e
    by_tests true false e = absurd (beside (finding.DirSize n) (is, e))

    by_fields : (o : Option Hdr) → fields v n ≡ o → dir_test v n (fields v n) ≡ None
    by_fields None u = ap (dir_test v n) u
    by_fields (Some f) u = by_tests f.dir (is_one_header f (told v n) && has_dir_size (factor v) f (runs v n)) (ap (dir_test v n) u)

  -- ---- clusters

  in_run : (q n i : ℕ) → IsNumber v n → HasPlace (is_in_run (factor v) q) (runs v n) i → IsInRun v q n i
  in_run q n i is h = record { number = is; run = h.value; there = h.there; inside = h.passes }

  -- a cut counts no more than the file's runs
  cut_few : (q n k : ℕ) → k ≤ times_in_cut v q n → k ≤ times_in v q n
  unfolding times_in_cut
  cut_few q n k le = by_cut (has_cut v n) le where
    by_cut : (t : Bool) → k ≤ cond t (times_in v q n) 0 → k ≤ times_in v q n
    by_cut true h = h
    by_cut false h = omega arith

  -- a cluster that is counted twice is in two runs
  two_runs : (q : ℕ) → 2 ≤ times_cut v q → IsShared v q
  unfolding times_cut times_in
  two_runs q much = elim (two-terms (times_in_cut v q) 1 v.home.files much) [
    | inl w ↦ once w
    | inr w ↦ twice w
  ] where
    number : (n : ℕ) → 1 ≤ n → n < 1 + v.home.files → IsNumber v n
    number n a b = record { from = a; to = (let le : n ≤ v.home.files = omega arith in le) }

    once : HasTerm (times_in_cut v q) 1 v.home.files 2 → IsShared v q
    once w =
        let is = number w.n w.from w.to in
        let two = two-places (is_in_run (factor v) q) (runs v w.n) (cut_few q w.n 2 w.high) in
        record { n = w.n; i = two.i; m = w.n; j = two.j; one = in_run q w.n two.i is two.one; other = in_run q w.n two.j is two.other; apart = inr two.apart }

    twice : HasTwoTerms (times_in_cut v q) 1 v.home.files → IsShared v q
    twice w =
        let below = w.below in
        let a = one-place (is_in_run (factor v) q) (runs v w.n) (cut_few q w.n 1 w.one) in
        let b = one-place (is_in_run (factor v) q) (runs v w.m) (cut_few q w.m 1 w.other) in
        let from = w.from in
        let to = w.to in
        record {
          n = w.n;
          i = a.0;
          m = w.m;
          j = b.0;
          one = in_run q w.n a.0 (number w.n from (omega arith)) a.1;
          other = in_run q w.m b.0 (number w.m (omega arith) to) b.1;
          apart = inl (λ e. omega arith);
        }

  -- each cluster of a cut is counted once
  once : (q n : ℕ) → IsNumber v n → has_cut v n ≡ true → is_in_file v q n ≡ true → times_cut v q ≡ 1
  once q n is cut t =
      let some = times_some v q n is in
      let one = cut_counts v q n cut t in
      elim (cases_lt 1 (times_cut v q)) [
        | inl more ↦ absurd (beside (finding.SharedCluster q) (two_runs q more))
        | inr few ↦ omega arith
      ]

  -- ---- soundness

  pub beside_sound : (n : ℕ) (f : File) → IsNumber v n → 11 < n → slot_of v n ≡ Used f → is_sound v n ≡ true
  beside_sound n f is above e =
      let h = used_header v n f e in
      let cut = cut_from v n (record { header = h.0; used = h.1; own = own n h.0 is h.1; chain = λ _. chain n is above }) in
      sound_from v n (record { above = above; cut = cut; inside = inside n is; dir = directory_right n is; unshared = λ q lt t. once q n is cut t })

pub beside_is_sound : BesideIsSound
beside_is_sound = record { none = λ home bs read beside. none_beyond home bs read beside; sound = λ home bs n f within beside is above e. beside_sound (volume home bs) beside n f is above e }
