-- The first finding beyond repair, rank by rank.
use Rattle.std.proofs.Common.{◌≡◌, ◌∙◌, ◌⊎◌, ◌<◌, ◌≤◌, ℕ, Bool, true, false, suc, Option, Some, None, Result, Ok, Err, List, refl, sym, subst, inl, inr, arith}
use Rattle.std.specs.Prelude.{if◌then◌else◌}
use Rattle.std.proofs.lemmas.Bool.{false≢true, cases_lt, lt-ltb, le-leb, eq-eqb, leb-true, leb-false, and_from, or_left, or_right}
use Rattle.base_words.specs.Fields.{Block}
use Rattle.fx_home.specs.declared.home.Home.{Home}
use Rattle.fx_home.specs.declared.home.HomeFault.{HomeFault}
use Rattle.fx_home.specs.Homes.{home_read}
use Rattle.vol_parts.specs.declared.finding.Finding.{Finding}
use Rattle.vol_parts.specs.declared.finding.Finding.TheVariants as finding
use Rattle.vol_parts.specs.Volumes.{Volume, volume}
use Rattle.vol_parts.specs.Findings.{home_at, rank, subject, is_no_later}
use Rattle.vol_parts.specs.Firsts.{IsFirstOf}
use Rattle.vol_sound.specs.Beyond.{IsOfFixedParts, IsBeyondIn, IsBeyondBy, IsFoundBeyond}
use Rattle.vol_sound.specs.Ranks.{is_of_system, only_of_system, IsBeyondOf, IsLeastBeyond, NoneBeyond, IsFoundBelow}

by-rank : (f g : Finding) → rank f < rank g → is_no_later f g ≡ true
unfolding is_no_later
by-rank f g less = or_left _ _ (lt-ltb (rank f) (rank g) less)

by-subject : (f g : Finding) → rank f ≡ rank g → subject f ≤ subject g → is_no_later f g ≡ true
unfolding is_no_later
by-subject f g same less = or_right _ _ (and_from _ _ (eq-eqb (rank f) (rank g) same) (le-leb (subject f) (subject g) less))

-- the least of a rank comes no later than each of that rank and of later ones
least-first : (v : Volume) (k : ℕ) (f g : Finding) → IsLeastBeyond v k f → k ≤ rank g → IsBeyondIn v g → is_no_later f g ≡ true
least-first v k f g least from h =
    let is = least.rank_is in
    elim (cases_lt k (rank g)) [
      | inl later ↦ by-rank f g (omega arith)
      | inr same ↦
          let e : rank g ≡ k = omega arith in
          let both : rank f ≡ rank g = is ∙ sym e in
          by-subject f g both (least.least g e h)
    ]

-- the first of a rank, where nothing of the ranks before holds, is the first of all
pub step : (v : Volume) (k m : ℕ) (r : Option Finding) → NoneBeyond v k → IsBeyondOf v k r → suc k ≡ m → IsFoundBelow v m r
step v k m None none first next = λ g below h.
    elim (cases_lt (rank g) k) [
      | inl lower ↦ none g lower h
      | inr upper ↦ let e : rank g ≡ k = omega arith in first g e h
    ]
step v k m (Some f) none least next = record {
  beyond = least.beyond;
  first = λ g h.
      elim (cases_lt (rank g) k) [
        | inl lower ↦ absurd (none g lower h)
        | inr upper ↦ least-first v k f g least upper h
      ];
}

-- ---- the kinds

-- nothing is of a rank below that of the headers, once the home block is read
pub none-first : (v : Volume) → NoneBeyond v 1
none-first v (finding.Home fault) low h = h.fatal
none-first v g low h = absurd (omega arith)

-- headers and runs
system-fixed : (v : Volume) (f : Finding) → is_of_system f ≡ true → IsOfFixedParts v f
system-fixed v (finding.Header n fault) e = leb-true n 11 e
system-fixed v (finding.WrongNumber n) e = leb-true n 11 e
system-fixed v (finding.Runs n) e = leb-true n 11 e
system-fixed v f e = absurd (false≢true e)

abbrev IsTold : ℕ → Type 0
IsTold k = (k ≡ 1) ⊎ (k ≡ 5)

not-told : (k : ℕ) → IsTold k → (k ≡ 1 → ⊥) → (k ≡ 5 → ⊥) → ⊥
not-told k (inl e) one five = one e
not-told k (inr e) one five = five e

high-subject : (f : Finding) → IsTold (rank f) → is_of_system f ≡ false → 11 < subject f
high-subject (finding.Header n fault) told e = leb-false n 11 e
high-subject (finding.WrongNumber n) told e = leb-false n 11 e
high-subject (finding.Runs n) told e = leb-false n 11 e
high-subject f told e = absurd (not-told (rank f) told (λ o. omega arith) (λ o. omega arith))

low-subject : (v : Volume) (g : Finding) → IsTold (rank g) → IsOfFixedParts v g → subject g ≤ 11
low-subject v (finding.Header n fault) told fixed = fixed
low-subject v (finding.WrongNumber n) told fixed = fixed
low-subject v (finding.Runs n) told fixed = fixed
low-subject v f told fixed = absurd (not-told (rank f) told (λ o. omega arith) (λ o. omega arith))

pub of-system : (v : Volume) (k : ℕ) (o : Option Finding) → IsTold k → IsFirstOf v k o → IsBeyondOf v k (only_of_system o)
of-system v k None told first = λ g r b. first g r b.fatal
of-system v k (Some f) told least = by_test (is_of_system f) refl where
  by_test : (t : Bool) → is_of_system f ≡ t → IsBeyondOf v k (if t then Some f else None)
  by_test true e = record {
    rank_is = least.rank_is;
    beyond = record { fatal = least.fatal; fixed = system-fixed v f e };
    least = λ g r b. least.least g r b.fatal;
  }
  by_test false e = λ g r b.
      let high = high-subject f (subst IsTold (sym least.rank_is) told) e in
      let low = low-subject v g (subst IsTold (sym r) told) b.fixed in
      let no_more = least.least g r b.fatal in
      absurd (omega (arith, high, low, no_more))

-- system files and the control block
whole-fixed : (v : Volume) (f : Finding) → (rank f ≡ 2) ⊎ (rank f ≡ 3) → IsOfFixedParts v f
whole-fixed v (finding.SystemFile n) is = tt
whole-fixed v (finding.Scb fault) is = tt
whole-fixed v f (inl e) = absurd (omega arith)
whole-fixed v f (inr e) = absurd (omega arith)

pub of-parts : (v : Volume) (k : ℕ) (o : Option Finding) → (k ≡ 2) ⊎ (k ≡ 3) → IsFirstOf v k o → IsBeyondOf v k o
of-parts v k None is first = λ g r b. first g r b.fatal
of-parts v k (Some f) is least = record {
  rank_is = least.rank_is;
  beyond = record { fatal = least.fatal; fixed = whole-fixed v f (subst (λ (j : ℕ). (j ≡ 2) ⊎ (j ≡ 3)) (sym least.rank_is) is) };
  least = λ g r b. least.least g r b.fatal;
}

-- chains and sizes of files
pub no-chain : (v : Volume) → IsBeyondOf v 4 None
no-chain v (finding.ChainBroken n) r b = b.fixed
no-chain v (finding.ChainSplit n) r b = b.fixed
no-chain v g r b = absurd (omega arith)

pub no-clusters : (v : Volume) → IsBeyondOf v 6 None
no-clusters v (finding.Clusters n) r b = b.fixed
no-clusters v g r b = absurd (omega arith)

-- ---- the blocks

-- each is of a rank below 9
fixed-rank : (v : Volume) (g : Finding) → IsOfFixedParts v g → rank g < 9
fixed-rank v (finding.Home fault) fixed = omega arith
fixed-rank v (finding.Header n fault) fixed = omega arith
fixed-rank v (finding.WrongNumber n) fixed = omega arith
fixed-rank v (finding.SystemFile n) fixed = omega arith
fixed-rank v (finding.Scb fault) fixed = omega arith
fixed-rank v (finding.Runs n) fixed = omega arith
fixed-rank v (finding.SharedCluster q) fixed = omega arith
fixed-rank v (finding.DirSize n) fixed = omega arith
fixed-rank v g fixed = absurd fixed

-- what is found of the volume is what is found of its blocks
pub found-volume : (bs : List Block) (home : Home) (r : Option Finding) → home_read (home_at bs) ≡ Ok home → IsFoundBelow (volume home bs) 9 r → IsFoundBeyond bs r
found-volume bs home None e none = λ g h.
    let b : IsBeyondIn (volume home bs) g = subst (λ (x : Result Home HomeFault). IsBeyondBy bs x g) e h in
    none g (fixed-rank (volume home bs) g b.fixed) b
found-volume bs home (Some f) e there = record {
  beyond = subst (λ (x : Result Home HomeFault). IsBeyondBy bs x f) (sym e) there.beyond;
  first = λ g h. there.first g (subst (λ (x : Result Home HomeFault). IsBeyondBy bs x g) e h);
}

home-first : (fault : HomeFault) (g : Finding) → g ≡ finding.Home fault → is_no_later (finding.Home fault) g ≡ true
home-first fault g e = let same : rank (finding.Home fault) ≡ rank g = rw e refl in by-subject (finding.Home fault) g same (rw e (omega arith))

-- the fault of the home block is the first finding
pub found-home : (bs : List Block) (fault : HomeFault) → home_read (home_at bs) ≡ Err fault → IsFoundBeyond bs (Some (finding.Home fault))
found-home bs fault e = record {
  beyond = subst (λ (x : Result Home HomeFault). IsBeyondBy bs x (finding.Home fault)) (sym e) refl;
  first = λ g h. home-first fault g (subst (λ (x : Result Home HomeFault). IsBeyondBy bs x g) e h);
}

-- the runs, and the sizes of files behind them
pub through-runs : (v : Volume) (o r : Option Finding) → NoneBeyond v 5 → IsFirstOf v 5 o → r ≡ only_of_system o → IsFoundBelow v 7 r
through-runs v o r none first is = by_found r (subst (λ (x : Option Finding). IsBeyondOf v 5 x) (sym is) (of-system v 5 o (inr refl) first)) where
  by_found : (x : Option Finding) → IsBeyondOf v 5 x → IsFoundBelow v 7 x
  by_found None five = step v 6 7 None (step v 5 6 None none five refl) (no-clusters v) refl
  by_found (Some f) five = step v 5 6 (Some f) none five refl
