-- The first finding of a rank is found by looking at each number, cluster or owner below a bound.
use Rattle.std.proofs.Common.{◌≡◌, ◌∙◌, ◌<◌, ◌≤◌, ◌⊎◌, ℕ, zero, suc, Bool, true, false, Option, Some, None, true≢false, refl, sym, ap, subst, arith, inl, inr, ⊎_elim}
use Rattle.std.proofs.lemmas.Bool.{cases_lt}
use Rattle.vol_parts.specs.declared.finding.Finding.{Finding}
use Rattle.vol_parts.specs.Volumes.{Volume, IsNumber}
use Rattle.vol_parts.specs.Fatal.{IsFatalIn}
use Rattle.vol_parts.specs.Findings.{rank, subject}
use Rattle.vol_parts.specs.Firsts.{IsFirstOf, IsLeastOf}

-- ---- what is settled

-- something holds, or it does not
abbrev pub IsSettled : Type 0 → Type 0
IsSettled A = A ⊎ (A → ⊥)

pub both : {A B : Type 0} → IsSettled A → IsSettled B → IsSettled (A × B)
both (inl a) (inl b) = inl (a, b)
both (inl a) (inr not_b) = inr (λ h. not_b h.1)
both (inr not_a) s = inr (λ h. not_a h.0)

pub three : {A B C : Type 0} → IsSettled A → IsSettled B → IsSettled C → IsSettled (A × B × C)
three (inl a) (inl b) (inl c) = inl (a, b, c)
three (inl a) (inl b) (inr not_c) = inr (λ h. not_c h.2)
three (inl a) (inr not_b) s = inr (λ h. not_b h.1)
three (inr not_a) s t = inr (λ h. not_a h.0)

pub moved : {A B : Type 0} → (A → B) → (B → A) → IsSettled A → IsSettled B
moved to from (inl a) = inl (to a)
moved to from (inr not_a) = inr (λ b. not_a (from b))

pub same : (a b : Bool) → IsSettled (a ≡ b)
same true true = inl refl
same false false = inl refl
same true false = inr true≢false
same false true = inr (λ e. true≢false (sym e))

pub nothing : {X : Type 0} (o : Option X) → IsSettled (o ≡ None)
nothing None = inl refl
nothing (Some x) = inr (λ e. absurd (cc))

pub at_most : (a b : ℕ) → IsSettled (a ≤ b)
at_most a b = ⊎_elim (λ (less : b < a). inr (λ h. omega arith)) inl (cases_lt b a)

pub number : (v : Volume) (n : ℕ) → IsSettled (IsNumber v n)
number v n = moved (λ h. record { from = h.0; to = h.1 }) (λ h. (h.from, h.to)) (both (at_most 1 n) (at_most n v.home.files))

-- ---- the search

-- the first finding of a rank, or that none holds
abbrev pub HasFirst : Volume → ℕ → Type 0
HasFirst v k = (first : Option Finding) × IsFirstOf v k first

-- a finding of this rank about this number holds
pub record IsAbout (v : Volume) (k n : ℕ) (f : Finding) : Type 0 where
  pub ranked : rank f ≡ k
  pub about : subject f ≡ n
  pub fatal : IsFatalIn v f

-- there is one, or none is
abbrev pub IsJudged : Volume → ℕ → ℕ → Type 0
IsJudged v k n = ((f : Finding) × IsAbout v k n f) ⊎ ((f : Finding) → IsAbout v k n f → ⊥)

abbrev NoneUnder : Volume → ℕ → ℕ → Type 0
NoneUnder v k b = (f : Finding) → rank f ≡ k → subject f < b → IsFatalIn v f → ⊥

abbrev IsSought : Volume → ℕ → ℕ → Type 0
IsSought v k b = ((f : Finding) × IsLeastOf v k f) ⊎ NoneUnder v k b

-- one number more
one_more : (v : Volume) (k b : ℕ) → NoneUnder v k b → IsJudged v k b → IsSought v k (suc b)
one_more v k b none (inl w) =
    let f = w.0 in
    let is = w.1.about in
    inl (
      f,
      record {
        rank_is = w.1.ranked;
        fatal = w.1.fatal;
        least = λ g e h. ⊎_elim (λ (less : subject g < b). absurd (none g e less h)) (λ (more : b ≤ subject g). omega arith) (cases_lt (subject g) b);
      },
    )
one_more v k b none (inr none_here) =
    inr (λ f e low h. ⊎_elim (λ (less : subject f < b). none f e less h)
    (λ (more : b ≤ subject f). none_here f (record { ranked = e; about = omega arith; fatal = h })) (cases_lt (subject f) b))

under : (v : Volume) (k b : ℕ) → ((n : ℕ) → IsJudged v k n) → IsSought v k b
under v k zero judge = inr (λ f e low h. absurd (omega arith))
under v k (suc b) judge = ⊎_elim inl (λ none. one_more v k b none (judge b)) (under v k b judge)

sought : (v : Volume) (k b : ℕ) → ((f : Finding) → rank f ≡ k → IsFatalIn v f → subject f < b) → IsSought v k b → HasFirst v k
sought v k b low (inl w) = (Some w.0, w.1)
sought v k b low (inr none) = (None, λ f e h. none f e (low f e h) h)

pub seek : (v : Volume) (k b : ℕ) → ((n : ℕ) → IsJudged v k n) → ((f : Finding) → rank f ≡ k → IsFatalIn v f → subject f < b) → HasFirst v k
seek v k b judge low = sought v k b low (under v k b judge)

-- ---- ranks of one kind

-- the findings of a rank are these, one for each number
pub record IsKind (v : Volume) (k : ℕ) (make : ℕ → Finding) : Type 0 where
  pub ranked : (n : ℕ) → rank (make n) ≡ k
  pub about : (n : ℕ) → subject (make n) ≡ n
  pub only : (f : Finding) → rank f ≡ k → f ≡ make (subject f)

kind_judged : (v : Volume) (k : ℕ) (make : ℕ → Finding) (n : ℕ) → IsKind v k make → IsSettled (IsFatalIn v (make n)) → IsJudged v k n
kind_judged v k make n kind (inl h) = inl (make n, record { ranked = kind.ranked n; about = kind.about n; fatal = h })
kind_judged v k make n kind (inr none) = inr (λ f a. none (subst (IsFatalIn v) (kind.only f a.ranked ∙ ap make a.about) a.fatal))

pub seek_kind : (v : Volume) (k : ℕ) (make : ℕ → Finding) (b : ℕ) → IsKind v k make → ((n : ℕ) → IsSettled (IsFatalIn v (make n)))
    → ((n : ℕ) → IsFatalIn v (make n) → n < b) → HasFirst v k
seek_kind v k make b kind settled low =
    seek v k b (λ n. kind_judged v k make n kind (settled n)) (λ f e h. low (subject f) (subst (IsFatalIn v) (kind.only f e) h))
