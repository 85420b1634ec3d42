-- The first fatal finding of all, rank by rank.
use Rattle.std.proofs.Common.{◌≡◌, ◌∙◌, ◌<◌, ◌≤◌, ℕ, true, suc, Option, Some, None, Result, Ok, Err, List, refl, sym, subst, inl, inr, arith}
use Rattle.std.specs.Prelude.{IfOk}
use Rattle.std.proofs.lemmas.Bool.{cases_lt, lt-ltb, le-leb, eq-eqb, and_from, or_left, or_right}
use Rattle.base_words.specs.Fields.{Block}
use Rattle.fx_home.specs.declared.home.Home.{Home}
use Rattle.fx_home.specs.declared.home.HomeFault.{HomeFault}
use Rattle.fx_home.specs.Homes.{home_read}
use Rattle.plain_cat.specs.declared.cat.Cat.{Cat}
use Rattle.vol_parts.specs.declared.finding.Finding.{Finding}
use Rattle.vol_parts.specs.declared.finding.Finding.TheVariants as finding
use Rattle.vol_parts.specs.Volumes.{Volume, volume}
use Rattle.vol_parts.specs.Catalogues.{catalogue}
use Rattle.vol_parts.specs.Fatal.{IsFatalIn}
use Rattle.vol_parts.specs.Findings.{home_at, rank, subject, is_no_later, IsFatalBy, IsCatalogueBy}
use Rattle.vol_parts.specs.Firsts.{IsFirstOf, IsLeastOf}
use Rattle.vol_faults.specs.CatFindings.{IsFirstIn}
use Rattle.vol_faults.specs.Whole.{NoneBelow, IsFirstThere, IsFirstBelow, IsReadOf, IsRead}
use Rattle.vol_faults.proofs.LiftLemmas.{first-of-volume}

by-rank : (f g : Finding) → rank f < rank g → is_no_later f g ≡ true
unfolding is_no_later
by-rank f g less = or_left _ _ (lt-ltb (rank f) (rank g) less)

by-subject : (f g : Finding) → rank f ≡ rank g → subject f ≤ subject g → is_no_later f g ≡ true
unfolding is_no_later
by-subject f g same less = or_right _ _ (and_from _ _ (eq-eqb (rank f) (rank g) same) (le-leb (subject f) (subject g) less))

-- the least of a rank comes no later than each of that rank and of later ones
least-first : (v : Volume) (k : ℕ) (f g : Finding) → IsLeastOf v k f → k ≤ rank g → IsFatalIn v g → is_no_later f g ≡ true
least-first v k f g least from h =
    let is = least.rank_is in
    elim (cases_lt k (rank g)) [
      | inl later ↦ by-rank f g (omega arith)
      | inr same ↦
          let e : rank g ≡ k = omega arith in
          let both : rank f ≡ rank g = is ∙ sym e in
          by-subject f g both (least.least g e h)
    ]

-- the first of a rank, where nothing of the ranks before holds, is the first of all
pub step : (v : Volume) (k m : ℕ) (r : Option Finding) → NoneBelow v k → IsFirstOf v k r → suc k ≡ m → IsFirstBelow v m r
step v k m None none first next = λ g below h.
    elim (cases_lt (rank g) k) [
      | inl lower ↦ none g lower h
      | inr upper ↦ let e : rank g ≡ k = omega arith in first g e h
    ]
step v k m (Some f) none least next =
    let is = least.rank_is in
    record {
      below = omega arith;
      fatal = least.fatal;
      first = λ g h.
          elim (cases_lt (rank g) k) [
            | inl lower ↦ absurd (none g lower h)
            | inr upper ↦ least-first v k f g least upper h
          ];
    }

-- the first of all stays the first where more ranks are looked at
pub wider : (v : Volume) (k m : ℕ) (f : Finding) → IsFirstThere v k f → k ≤ m → IsFirstThere v m f
wider v k m f there more = let low = there.below in record { below = omega arith; fatal = there.fatal; first = there.first }

-- nothing is of a rank below that of the headers, once the home block is read
pub none-first : (v : Volume) → NoneBelow v 1
none-first v (finding.Home fault) low h = h
none-first v g low h = absurd (omega arith)

-- the same for a kind that the catalogue tells
pub cat-step : (v : Volume) (c : Cat) (k m : ℕ) (r : Option Finding) → catalogue v ≡ c → 13 ≤ k → k ≤ 16 → NoneBelow v k → IsFirstIn c k r → suc k ≡ m
    → IsFirstBelow v m r
cat-step v c k m r e low high none first next =
    let told : IsFirstIn (catalogue v) k r = subst (λ (x : Cat). IsFirstIn x k r) (sym e) first in
    step v k m r none (first-of-volume v k r low high told) next

-- the loops, behind the two kinds before them
pub cat-loops : {E : Type 0} (c : Cat) (r : Result (Option Finding) E) → IsFirstIn c 13 None → IsFirstIn c 14 None → IfOk r (IsFirstIn c 15)
    → IfOk r (λ first. (v : Volume) → catalogue v ≡ c → NoneBelow v 13 → IsFirstBelow v 16 first)
cat-loops c (Ok first) entries marked loops = λ v e none.
    let fourteen = cat-step v c 13 14 None e (omega arith) (omega arith) none entries refl in
    let fifteen = cat-step v c 14 15 None e (omega arith) (omega arith) fourteen marked refl in
    cat-step v c 15 16 first e (omega arith) (omega arith) fifteen loops refl
cat-loops c (Err fault) entries marked loops = loops

-- ---- the blocks

fatal-none : (v : Volume) (f : Finding) → NoneBelow v 16 → IsFatalIn v f → (n : ℕ) × (f ≡ finding.NoRoom n)
fatal-none v (finding.NoRoom n) none h = (n, refl)
fatal-none v (finding.Home fault) none h = absurd h
fatal-none v (finding.Header n fault) none h = absurd (none (finding.Header n fault) (omega arith) h)
fatal-none v (finding.WrongNumber n) none h = absurd (none (finding.WrongNumber n) (omega arith) h)
fatal-none v (finding.SystemFile n) none h = absurd (none (finding.SystemFile n) (omega arith) h)
fatal-none v (finding.Scb fault) none h = absurd (none (finding.Scb fault) (omega arith) h)
fatal-none v (finding.ChainBroken n) none h = absurd (none (finding.ChainBroken n) (omega arith) h)
fatal-none v (finding.ChainSplit n) none h = absurd (none (finding.ChainSplit n) (omega arith) h)
fatal-none v (finding.Runs n) none h = absurd (none (finding.Runs n) (omega arith) h)
fatal-none v (finding.Clusters n) none h = absurd (none (finding.Clusters n) (omega arith) h)
fatal-none v (finding.SharedCluster q) none h = absurd (none (finding.SharedCluster q) (omega arith) h)
fatal-none v (finding.DirSize n) none h = absurd (none (finding.DirSize n) (omega arith) h)
fatal-none v (finding.DirRecord n) none h = absurd (none (finding.DirRecord n) (omega arith) h)
fatal-none v (finding.DirOrder n) none h = absurd (none (finding.DirOrder n) (omega arith) h)
fatal-none v (finding.DirClash n) none h = absurd (none (finding.DirClash n) (omega arith) h)
fatal-none v (finding.QuotaRow owner) none h = absurd (none (finding.QuotaRow owner) (omega arith) h)
fatal-none v (finding.NoQuotaRow n) none h = absurd (none (finding.NoQuotaRow n) (omega arith) h)
fatal-none v (finding.FreeCluster q) none h = absurd (none (finding.FreeCluster q) (omega arith) h)
fatal-none v (finding.FreeNumber n) none h = absurd (none (finding.FreeNumber n) (omega arith) h)
fatal-none v (finding.SystemEntry n) none h = absurd (none (finding.SystemEntry n) (omega arith) h)
fatal-none v (finding.MarkedDir n) none h = absurd (none (finding.MarkedDir n) (omega arith) h)
fatal-none v (finding.DirLoop n) none h = absurd (none (finding.DirLoop n) (omega arith) h)
fatal-none v g none h = absurd h

-- what is read of the volume is what is read of its blocks
pub read-volume : (bs : List Block) (home : Home) (r : Result Cat Finding) → home_read (home_at bs) ≡ Ok home → IsReadOf (volume home bs) r → IsRead bs r
read-volume bs home (Err f) e there = (
  there.below,
  record {
    fatal = subst (λ (x : Result Home HomeFault). IsFatalBy bs x f) (sym e) there.fatal;
    first = λ g h. there.first g (subst (λ (x : Result Home HomeFault). IsFatalBy bs x g) e h);
  },
)
read-volume bs home (Ok c) e h = (
  λ f fatal. fatal-none (volume home bs) f h.0 (subst (λ (x : Result Home HomeFault). IsFatalBy bs x f) e fatal),
  subst (λ (x : Result Home HomeFault). IsCatalogueBy bs x c) (sym e) h.1,
)

home-first : (fault : HomeFault) (g : Finding) → g ≡ finding.Home fault → is_no_later (finding.Home fault) g ≡ true
home-first fault g e = let same : rank (finding.Home fault) ≡ rank g = rw e refl in by-subject (finding.Home fault) g same (rw e (omega arith))

-- the fault of the home block is the first finding
pub read-home-fault : (bs : List Block) (fault : HomeFault) → home_read (home_at bs) ≡ Err fault → IsRead bs (Err (finding.Home fault))
read-home-fault bs fault e = (
  omega arith,
  record {
    fatal = subst (λ (x : Result Home HomeFault). IsFatalBy bs x (finding.Home fault)) (sym e) refl;
    first = λ g h. home-first fault g (subst (λ (x : Result Home HomeFault). IsFatalBy bs x g) e h);
  },
)
