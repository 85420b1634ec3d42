-- Of any blocks there is a first finding beyond repair, or none.
use Rattle.std.proofs.Common.{◌≡◌, ◌∙◌, ◌≤◌, ◌⊎◌, ℕ, zero, suc, Bool, true, false, Option, Some, None, Result, Ok, Err, List, refl, sym, ap, subst, arith, inl, inr}
use Rattle.std.specs.Prelude.{nat_le}
use Rattle.std.proofs.lemmas.Bool.{false≢true, cases_Bool, cases_lt}
use Rattle.base_words.specs.Fields.{Block}
use Rattle.base_words.proofs.Listing.{same_or_not}
use Rattle.fx_home.specs.declared.home.Home.{Home}
use Rattle.fx_home.specs.declared.home.HomeFault.{HomeFault}
use Rattle.fx_home.specs.Homes.{home_read}
use Rattle.vol_parts.specs.declared.finding.Finding.{Finding}
use Rattle.vol_parts.specs.declared.finding.Finding.TheVariants as finding
use Rattle.vol_parts.specs.Lowest.{IsLowest}
use Rattle.vol_parts.specs.Volumes.{Volume, volume, total}
use Rattle.vol_parts.specs.Fatal.{dir_fault}
use Rattle.vol_parts.specs.Findings.{home_at}
use Rattle.vol_spell.proofs.Accepted.{limits_of}
use Rattle.vol_analyze.proofs.Seeking.{IsSettled}
use Rattle.vol_analyze.proofs.Ranks.{headers, systems, control, run_bounds}
use Rattle.vol_sound.specs.Beyond.{IsFoundBeyond}
use Rattle.vol_sound.specs.Clusters.{system_times}
use Rattle.vol_sound.specs.Ranks.{only_of_system, IsBeyondOf, NoneBeyond, IsFoundBelow}
use Rattle.vol_sound.proofs.RankLemmas.{step, none-first, of-system, of-parts, no-chain, no-clusters, found-volume, found-home}
use Rattle.vol_sound.proofs.SharedLemmas.{none-shared, first-shared}
use Rattle.vol_sound.proofs.SizeLemmas.{size-four, size-eleven, size-none}
use Rattle.vol_repair.specs.Firsts.{FirstBeyondIsThere}

-- ---- searches

-- the lowest number that passes a test
lowest : (test : ℕ → Bool) (from count : ℕ) → (o : Option ℕ) × IsLowest test from count o
lowest test from zero = (None, λ n a b. absurd (omega (arith, a, b)))
lowest test from (suc k) = by_first (cases_Bool (test from)) (lowest test (suc from) k) where
  here : (test from ≡ true) → IsLowest test from (suc k) (Some from)
  here e = (omega arith, omega arith, e, λ m a b. absurd (omega (arith, a, b)))

  behind : (test from ≡ false) → (o : Option ℕ) → IsLowest test (suc from) k o → IsLowest test from (suc k) o
  behind e None none = λ n a b. elim (cases_lt from n) [
    | inl later ↦ none n later (omega (arith, b))
    | inr same ↦ subst (λ (m : ℕ). test m ≡ false) (let z : from ≡ n = omega (arith, a, same) in z) e
  ]
  behind e (Some n) l =
      let low = l.0 in
      let high = l.1 in (
        omega (arith, low),
        omega (arith, high),
        l.2,
        λ m a b. elim (cases_lt from m) [
          | inl later ↦ l.3 m later b
          | inr same ↦ subst (λ (j : ℕ). test j ≡ false) (let z : from ≡ m = omega (arith, a, same) in z) e
        ],
      )

  by_first : (test from ≡ true) ⊎ (test from ≡ false) → ((o : Option ℕ) × IsLowest test (suc from) k o) → (o : Option ℕ) × IsLowest test from (suc k) o
  by_first (inl e) rest = (Some from, here e)
  by_first (inr e) rest = (rest.0, behind e rest.0 rest.1)

-- a finding is that of a directory's size
is_size : Finding → Bool
is_size (finding.DirSize m) = true
is_size f = false

size_of : (f : Finding) → is_size f ≡ true → (m : ℕ) × (f ≡ finding.DirSize m)
unfolding is_size
size_of (finding.DirSize m) e = (m, refl)
size_of f e = absurd (false≢true e)

some_same : (f g : Finding) → ◌≡◌ {A = Option Finding} (Some f) (Some g) → f ≡ g
some_same f g e = cc e

size_same : (m n : ℕ) → finding.DirSize m ≡ finding.DirSize n → m ≡ n
size_same m n e = cc e

-- whether a directory has this fault
size_settled : (o : Option Finding) (n : ℕ) → IsSettled (o ≡ Some (finding.DirSize n))
unfolding is_size
size_settled None n = inr (λ e. let h : None ≡ Some (finding.DirSize n) = e in cc h)
size_settled (Some f) n = by_size (cases_Bool (is_size f)) where
  by_number : (m : ℕ) → f ≡ finding.DirSize m → (m ≡ n) ⊎ (m ≡ n → ⊥) → IsSettled (Some f ≡ Some (finding.DirSize n))
  by_number m is (inl same) = inl (ap Some is ∙ ap (λ (k : ℕ). Some (finding.DirSize k)) same)
  by_number m is (inr other) = inr (λ e. other (size_same m n (sym is ∙ some_same f (finding.DirSize n) e)))

  by_size : (is_size f ≡ true) ⊎ (is_size f ≡ false) → IsSettled (Some f ≡ Some (finding.DirSize n))
  by_size (inl e) = let k = size_of f e in by_number k.0 k.1 (same_or_not k.0 n)
  by_size (inr e) = inr (λ h. false≢true (sym e ∙ ap is_size (some_same f (finding.DirSize n) h)))

-- ---- rank by rank

module _ (v : Volume) (files : 11 ≤ v.home.files) where
  abbrev IsFound : ℕ → Type 0
  IsFound k = (o : Option Finding) × IsFoundBelow v k o

  next : (k : ℕ) → IsFound k → (NoneBeyond v k → (r : Option Finding) × IsBeyondOf v k r) → IsFound (suc k)
  next k (Some f, there) more = (Some f, there)
  next k (None, none) more = let r = more none in (r.0, step v k (suc k) r.0 none r.1 refl)

  shared : NoneBeyond v 7 → (r : Option Finding) × IsBeyondOf v 7 r
  shared none = by_lowest (lowest (λ q. nat_le 2 (system_times v q)) 0 (total v)) where
    by_lowest : ((o : Option ℕ) × IsLowest (λ q. nat_le 2 (system_times v q)) 0 (total v) o) → (r : Option Finding) × IsBeyondOf v 7 r
    by_lowest (None, low) = (None, none-shared v none low)
    by_lowest (Some q, low) = (Some (finding.SharedCluster q), first-shared v q files none low)

  sized : (r : Option Finding) × IsBeyondOf v 8 r
  sized = by_four (size_settled (dir_fault v 4) 4) where
    by_eleven : (dir_fault v 4 ≡ Some (finding.DirSize 4) → ⊥) → IsSettled (dir_fault v 11 ≡ Some (finding.DirSize 11)) → (r : Option Finding) × IsBeyondOf v 8 r
    by_eleven other (inl e) = (Some (finding.DirSize 11), size-eleven v files other e)
    by_eleven other (inr neither) = (None, size-none v other neither)

    by_four : IsSettled (dir_fault v 4 ≡ Some (finding.DirSize 4)) → (r : Option Finding) × IsBeyondOf v 8 r
    by_four (inl e) = (Some (finding.DirSize 4), size-four v files e)
    by_four (inr other) = by_eleven other (size_settled (dir_fault v 11) 11)

  found : IsFound 9
  found =
      let none : IsFound 1 = (None, none-first v) in
      let one = next 1 none (λ n. (only_of_system (headers v).0, of-system v 1 (headers v).0 (inl refl) (headers v).1)) in
      let two = next 2 one (λ n. ((systems v).0, of-parts v 2 (systems v).0 (inl refl) (systems v).1)) in
      let three = next 3 two (λ n. ((control v).0, of-parts v 3 (control v).0 (inr refl) (control v).1)) in
      let four = next 4 three (λ n. (None, no-chain v)) in
      let five = next 5 four (λ n. (only_of_system (run_bounds v).0, of-system v 5 (run_bounds v).0 (inr refl) (run_bounds v).1)) in
      let six = next 6 five (λ n. (None, no-clusters v)) in
      let seven = next 7 six shared in
      next 8 seven (λ n. sized)

-- ---- of blocks

by_home : (bs : List Block) (read : Result Home HomeFault) → home_read (home_at bs) ≡ read → (first : Option Finding) × IsFoundBeyond bs first
by_home bs (Err fault) e = (Some (finding.Home fault), found-home bs fault e)
by_home bs (Ok home) e =
    let within = limits_of (home_at bs) home e in
    let low = within.files_low in
    let r = found (volume home bs) (let h : 11 ≤ home.files = omega arith in h) in
    (r.0, found-volume bs home r.0 e r.1)

pub first_beyond_is_there : FirstBeyondIsThere
first_beyond_is_there bs = by_home bs (home_read (home_at bs)) refl
