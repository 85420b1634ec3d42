-- Two rising lists, the entries met and those of one more block, gone through side by side.
use Rattle.std.proofs.Common.{◌≡◌, ◌∙◌, ◌≤◌, ◌<◌, ◌+◌, ◌&&◌, ◌||◌, ◌⊎◌, inl, inr, not, Bool, true, false, ℕ, zero, suc, List, [], ◌∷◌, ◌++◌, Some, Result, Ok, Err, cond, take, drop, length, get_or, append-nil, drop_of_length-le, refl, sym, ap, subst, arith, if◌then◌else◌}
use Rattle.std.specs.List.{list_all, list_any}
use Rattle.fx_dir.specs.declared.RawEnt.{RawEnt}
use Rattle.fx_dir.specs.declared.DirFault.{DirFault}
use Rattle.fx_dir.specs.declared.DirFault.TheVariants.{BadOrder, Clash}
use Rattle.fx_dir.specs.Entries.{same, clash, before, rises, has, fresh, any_clash}
use Rattle.fx_dir.specs.Directory.{one_more}
use Rattle.fx_dir.specs.Moves.{on_entries}
use Rattle.fx_dir.proofs.Order.{and_cases, both, is_true_or, not_both, same-self, same-both, before-other, before-total, before-trans, bytes_is, eqb_eq}
use Rattle.fx_dir.proofs.Rising.{all-trans}
use Rattle.fx_dir.proofs.Order.{no_or as or-false}
use Rattle.fx_dir.proofs.Groups.{all-filter}
use Rattle.fx_dir.proofs.Mixing.{take-all}
use Rattle.fx_dir.proofs.Steps.{drop-here}

-- The walk: of those of the block, the ones behind all that were met, where the others were met. `c` says that a clash
-- has been seen.
abbrev pub walk : Bool → List RawEnt → List RawEnt → Result (List RawEnt) DirFault
walk c [] fs = if c then Err Clash else Ok fs
walk c (e ∷ es) [] = if c then Err Clash else Ok []
walk c (e ∷ es) (f ∷ fs) = if before e f then walk c es (f ∷ fs) else (if same e f then walk (c || clash f e) es fs else Err BadOrder)

-- ---- one name and version

pub same-sym : (a b : RawEnt) → same a b ≡ true → same b a ≡ true
same-sym a b s = same-both a a b (same-self a) s

before-same : (a b x : RawEnt) → same a b ≡ true → before b x ≡ true → before a x ≡ true
unfolding same before
before-same a b x s h =
    let p = and_cases _ _ s in
    let n : a.name ≡ b.name = bytes_is a.name b.name p.0 in
    let v : a.ver ≡ b.ver = eqb_eq a.ver b.ver p.1 in
    rw (n, v) h

all-same : (a b : RawEnt) (es : List RawEnt) → same a b ≡ true → list_all (before b) es ≡ true → list_all (before a) es ≡ true
all-same a b [] s h = refl
all-same a b (x ∷ es) s h = let p = and_cases _ _ h in both _ _ (before-same a b x s p.0) (all-same a b es s p.1)

clash-other : (a b : RawEnt) → same a b ≡ false → clash a b ≡ false
unfolding clash
clash-other a b s = rw s refl

not-same : (a x : RawEnt) → before a x ≡ true → same a x ≡ false
not-same a x h = elim (is_true_or (same a x)) [
  | inl s ↦ absurd (not_both (same x a) (same-sym a x s) (before-other a x h))
  | inr s ↦ s
]

-- what is before all is not there
pub none-there : (f : RawEnt) (es : List RawEnt) → list_all (before f) es ≡ true → has es f ≡ false
none-there f [] h = refl
none-there f (x ∷ es) h = let p = and_cases _ _ h in or-false _ _ (not-same f x p.0) (none-there f es p.1)

none-clashes : (f : RawEnt) (es : List RawEnt) → list_all (before f) es ≡ true → list_any (clash f) es ≡ false
none-clashes f [] h = refl
none-clashes f (x ∷ es) h = let p = and_cases _ _ h in or-false _ _ (clash-other f x (not-same f x p.0)) (none-clashes f es p.1)

-- ---- an entry before all of the block may be left out

fresh-skip : (e : RawEnt) (es fs : List RawEnt) → list_all (before e) fs ≡ true → fresh (e ∷ es) fs ≡ fresh es fs
fresh-skip e es [] h = refl
fresh-skip e es (f ∷ fs) h =
    let p = and_cases _ _ h in
    rw (before-other e f p.0) (ap (λ (t : List RawEnt). cond (not (has es f)) (f ∷ t) t) (fresh-skip e es fs p.1))

clash-skip : (e : RawEnt) (es fs : List RawEnt) → list_all (before e) fs ≡ true → any_clash (e ∷ es) fs ≡ any_clash es fs
clash-skip e es [] h = refl
clash-skip e es (f ∷ fs) h =
    let p = and_cases _ _ h in
    rw (clash-other f e (before-other e f p.0)) (ap (λ (t : Bool). list_any (clash f) es || t) (clash-skip e es fs p.1))

fresh-nil : (fs : List RawEnt) → fresh [] fs ≡ fs
fresh-nil [] = refl
fresh-nil (f ∷ fs) = λ i. f ∷ fresh-nil fs i

pub clash-nil : (fs : List RawEnt) → any_clash [] fs ≡ false
clash-nil [] = refl
clash-nil (f ∷ fs) = clash-nil fs

all-append : (p : RawEnt → Bool) (xs ys : List RawEnt) → list_all p xs ≡ true → list_all p ys ≡ true → list_all p (xs ++ ys) ≡ true
all-append p [] ys h k = k
all-append p (x ∷ xs) ys h k = let q = and_cases _ _ h in both _ _ q.0 (all-append p xs ys q.1 k)

all-fails : (p : RawEnt → Bool) (xs ys : List RawEnt) (f : RawEnt) → p f ≡ false → list_all p (xs ++ f ∷ ys) ≡ false
all-fails p [] ys f h = rw h refl
all-fails p (x ∷ xs) ys f h = elim (p x) as (λ q. (q && list_all p (xs ++ f ∷ ys)) ≡ false) [ true ↦ all-fails p xs ys f h | false ↦ refl ]

-- ---- the walk answers what the definition says

-- the answer, where `ordered` says that what is new rises behind what was met
abbrev answer : Bool → Bool → List RawEnt → Result (List RawEnt) DirFault
answer ordered clashes fs = if ordered then (if clashes then Err Clash else Ok fs) else Err BadOrder

abbrev outcome : Bool → List RawEnt → List RawEnt → Result (List RawEnt) DirFault
outcome c es fs = answer (rises (es ++ fresh es fs)) (c || any_clash es fs) (fresh es fs)

or-nothing : (c : Bool) → (c || false) ≡ c
or-nothing true = refl
or-nothing false = refl

or-moves : (c d x : Bool) → (c || ((d || false) || x)) ≡ ((c || d) || x)
or-moves true d x = refl
or-moves false true x = refl
or-moves false false x = refl

leading : (e : RawEnt) (es fs : List RawEnt) → list_all (before e) es ≡ true → list_all (before e) fs ≡ true → rises (e ∷ (es ++ fresh es fs)) ≡ rises (es ++ fresh es fs)
leading e es fs h k = ap (λ (t : Bool). t && rises (es ++ fresh es fs)) (all-append (before e) es (fresh es fs) h (all-filter (λ f. not (has es f)) (before e) fs k))

-- an entry met that is before all others
goes-by : (c : Bool) (e : RawEnt) (es fs : List RawEnt) → list_all (before e) es ≡ true → list_all (before e) fs ≡ true → outcome c (e ∷ es) fs ≡ outcome c es fs
goes-by c e es fs h k =
    (λ i. answer (rises (e ∷ (es ++ fresh-skip e es fs k i))) (c || clash-skip e es fs k i) (fresh-skip e es fs k i))
    ∙ ap (λ (t : Bool). answer t (c || any_clash es fs) (fresh es fs)) (leading e es fs h k)

-- an entry that was met
meets : (c : Bool) (e f : RawEnt) (es fs : List RawEnt) → same e f ≡ true → list_all (before e) es ≡ true → list_all (before f) fs ≡ true → outcome c (e ∷ es) (f ∷ fs) ≡ outcome (c || clash f e) es fs
meets c e f es fs s h k =
    let t : same f e ≡ true = same-sym e f s in
    let m : list_all (before e) fs ≡ true = all-same e f fs s k in
    let n : list_any (clash f) es ≡ false = none-clashes f es (all-same f e es t h) in
    let a : fresh (e ∷ es) (f ∷ fs) ≡ fresh es fs = ap (λ (q : Bool). cond (not (q || has es f)) (f ∷ fresh (e ∷ es) fs) (fresh (e ∷ es) fs)) t ∙ fresh-skip e es fs m in
    let b : any_clash (e ∷ es) (f ∷ fs) ≡ ((clash f e || false) || any_clash es fs) = λ i. (clash f e || n i) || clash-skip e es fs m i in
    (λ i. answer (rises (e ∷ (es ++ a i))) (c || b i) (a i))
    ∙ (λ i. answer (leading e es fs h m i) (or-moves c (clash f e) (any_clash es fs) i) (fresh es fs))

-- an entry that was not met, and comes before one that was
strays : (c : Bool) (e f : RawEnt) (es fs : List RawEnt) → before e f ≡ false → same e f ≡ false → list_all (before e) es ≡ true → outcome c (e ∷ es) (f ∷ fs) ≡ Err BadOrder
strays c e f es fs b s h =
    let l : before f e ≡ true = before-total e f s b in
    let n : has (e ∷ es) f ≡ false = none-there f (e ∷ es) (both _ _ l (all-trans f e es l h)) in
    let a : fresh (e ∷ es) (f ∷ fs) ≡ f ∷ fresh (e ∷ es) fs = ap (λ (q : Bool). cond (not q) (f ∷ fresh (e ∷ es) fs) (fresh (e ∷ es) fs)) n in
    (λ i. answer (rises (e ∷ (es ++ a i))) (c || any_clash (e ∷ es) (f ∷ fs)) (a i))
    ∙ ap (λ (t : Bool). answer (t && rises (es ++ f ∷ fresh (e ∷ es) fs)) (c || any_clash (e ∷ es) (f ∷ fs)) (f ∷ fresh (e ∷ es) fs)) (all-fails (before e) es (fresh (e ∷ es) fs) f b)

walk-is : (c : Bool) (es fs : List RawEnt) → rises es ≡ true → rises fs ≡ true → outcome c es fs ≡ walk c es fs
walk-is c [] fs r s =
    (λ i. answer (rises (fresh-nil fs i)) (c || clash-nil fs i) (fresh-nil fs i)) ∙ (λ i. answer (s i) (or-nothing c i) fs)
walk-is c (e ∷ es) [] r s =
    (λ i. answer (rises (append-nil (e ∷ es) i)) (or-nothing c i) []) ∙ ap (λ (t : Bool). answer t c []) r
walk-is c (e ∷ es) (f ∷ fs) r s =
    let p = and_cases _ _ r in
    let q = and_cases _ _ s in
    go p.0 q.0 (before e f) refl (walk-is c es (f ∷ fs) p.1 s) (walk-is (c || clash f e) es fs p.1 q.1) where
      go : list_all (before e) es ≡ true → list_all (before f) fs ≡ true → (b : Bool) → b ≡ before e f → outcome c es (f ∷ fs) ≡ walk c es (f ∷ fs) → outcome (c || clash f e) es fs ≡ walk (c || clash f e) es fs
          → outcome c (e ∷ es) (f ∷ fs) ≡ (if b then walk c es (f ∷ fs) else (if same e f then walk (c || clash f e) es fs else Err BadOrder))
      go h k true b i j = goes-by c e es (f ∷ fs) h (both _ _ (sym b) (all-trans e f fs (sym b) k)) ∙ i
      go h k false b i j = next (same e f) refl where
        next : (t : Bool) → t ≡ same e f → outcome c (e ∷ es) (f ∷ fs) ≡ (if t then walk (c || clash f e) es fs else Err BadOrder)
        next true t = meets c e f es fs (sym t) h k ∙ j
        next false t = strays c e f es fs (sym b) (sym t) h

pub walk-says : (vbn : ℕ) (es fs : List RawEnt) → rises es ≡ true → rises fs ≡ true → one_more vbn es (Some fs) ≡ on_entries (λ gs. es ++ gs) (walk false es fs)
walk-says vbn es fs r s = step (rises (es ++ fresh es fs)) (any_clash es fs) ∙ ap (on_entries (λ gs. es ++ gs)) (walk-is false es fs r s) where
  step : (q c : Bool) → (if q then (if c then Err Clash else Ok (es ++ fresh es fs)) else Err BadOrder) ≡ on_entries (λ gs. es ++ gs) (answer q c (fresh es fs))
  step true true = refl
  step true false = refl
  step false c = refl

-- what one block more leaves is in order
pub more-rises : (vbn : ℕ) (es fs all : List RawEnt) → one_more vbn es (Some fs) ≡ Ok all → rises all ≡ true
more-rises vbn es fs all h = go (rises (es ++ fresh es fs)) (any_clash es fs) refl h where
  go : (q c : Bool) → q ≡ rises (es ++ fresh es fs) → (if q then (if c then Err Clash else Ok (es ++ fresh es fs)) else Err BadOrder) ≡ Ok all → rises all ≡ true
  go true true k h = absurd (cc)
  go true false k h = let e : es ++ fresh es fs ≡ all = cc in subst (λ (t : List RawEnt). rises t ≡ true) e (sym k)
  go false c k h = absurd (cc)

-- ---- steps of the walk

-- entries met before all of the block are gone by at once
pub walk-begins : (es fs : List RawEnt) (i : ℕ) → list_all (λ e. list_all (before e) fs) (take i es) ≡ true → walk false (drop i es) fs ≡ walk false es fs
walk-begins es fs zero h = refl
walk-begins [] fs (suc i) h = refl
walk-begins (e ∷ es) [] (suc i) h = nothing (drop i es) where
  nothing : (xs : List RawEnt) → walk false xs [] ≡ Ok []
  nothing [] = refl
  nothing (x ∷ xs) = refl
walk-begins (e ∷ es) (f ∷ fs) (suc i) h =
    let p = and_cases _ _ h in
    let q = and_cases _ _ p.0 in
    walk-begins es (f ∷ fs) i p.1 ∙ sym (ap (λ (b : Bool). if b then walk false es (f ∷ fs) else (if same e f then walk (clash f e) es fs else Err BadOrder)) q.0)

module _ (c : Bool) (es fs : List RawEnt) (i j : ℕ) (e f : RawEnt) (in-es : i < length es) (in-fs : j < length fs) (e-is : e ≡ get_or es i e) (f-is : f ≡ get_or fs j f) where
  at : walk c (drop i es) (drop j fs) ≡ walk c (e ∷ drop (i + 1) es) (f ∷ drop (j + 1) fs)
  at = λ k. walk c (drop-here es i e in-es e-is k) (drop-here fs j f in-fs f-is k)

  pub walk-goes : before e f ≡ true → walk c (drop (i + 1) es) (drop j fs) ≡ walk c (drop i es) (drop j fs)
  walk-goes b = ap (walk c (drop (i + 1) es)) (drop-here fs j f in-fs f-is) ∙ sym (at ∙ rw b refl)

  pub walk-meets : before e f ≡ false → same e f ≡ true → walk (c || clash f e) (drop (i + 1) es) (drop (j + 1) fs) ≡ walk c (drop i es) (drop j fs)
  walk-meets b s = sym (at ∙ rw (b, s) refl)

  pub walk-strays : before e f ≡ false → same e f ≡ false → walk c (drop i es) (drop j fs) ≡ Err BadOrder
  walk-strays b s = at ∙ rw (b, s) refl

walk-nothing : (c : Bool) (es : List RawEnt) → walk c es [] ≡ (if c then Err Clash else Ok [])
walk-nothing c [] = refl
walk-nothing c (e ∷ es) = refl

pub walk-ends : (c : Bool) (es fs : List RawEnt) (i j : ℕ) → (length es ≤ i) ⊎ (length fs ≤ j) → walk c (drop i es) (drop j fs) ≡ (if c then Err Clash else Ok (drop j fs))
walk-ends c es fs i j (inl h) = ap (λ (t : List RawEnt). walk c t (drop j fs)) (drop_of_length-le es h)
walk-ends c es fs i j (inr h) =
    let n : drop j fs ≡ [] = drop_of_length-le fs h in
    subst (λ (t : List RawEnt). walk c (drop i es) t ≡ (if c then Err Clash else Ok t)) (sym n) (walk-nothing c (drop i es))

-- ---- where the last entry met is before the first of the block, all are

last-before : (es : List RawEnt) (e f : RawEnt) (n : ℕ) → rises es ≡ true → suc n ≡ length es → e ≡ get_or es n e → before e f ≡ true → list_all (λ x. before x f) es ≡ true
last-before [] e f n r l k b = absurd (omega arith)
last-before (x ∷ []) e f zero r l k b = both _ _ (subst (λ (t : RawEnt). before t f ≡ true) k b) refl
last-before (x ∷ []) e f (suc n) r l k b = absurd (omega arith)
last-before (x ∷ y ∷ es) e f zero r l k b = absurd (omega arith)
last-before (x ∷ y ∷ es) e f (suc n) r l k b =
    let p : (list_all (before x) (y ∷ es) ≡ true) × (rises (y ∷ es) ≡ true) = and_cases _ _ r in
    let h = last-before (y ∷ es) e f n p.1 (omega arith) k b in
    both _ _ (before-trans x y f (and_cases _ _ p.0).0 (and_cases _ _ h).0) h

before-each : (es fs : List RawEnt) (f : RawEnt) → list_all (λ x. before x f) es ≡ true → list_all (before f) fs ≡ true → list_all (λ x. list_all (before x) (f ∷ fs)) es ≡ true
before-each [] fs f h k = refl
before-each (x ∷ es) fs f h k = let p = and_cases _ _ h in both _ _ (both _ _ p.0 (all-trans x f fs p.0 k)) (before-each es fs f p.1 k)

pub all-passed : (es fs : List RawEnt) (e f : RawEnt) (n : ℕ) → rises es ≡ true → rises fs ≡ true → suc n ≡ length es → 0 < length fs → e ≡ get_or es n e → f ≡ get_or fs 0 f → before e f ≡ true
    → list_all (λ x. list_all (before x) fs) (take (length es) es) ≡ true
all-passed es [] e f n r s l m k j b = absurd (omega arith)
all-passed es (g ∷ fs) e f n r s l m k j b =
    let h : before e g ≡ true = subst (λ (t : RawEnt). before e t ≡ true) j b in
    subst (λ (t : List RawEnt). list_all (λ x. list_all (before x) (g ∷ fs)) t ≡ true) (sym (take-all (length es) es (omega arith))) (before-each es fs g (last-before es e g n r l k h) (and_cases _ _ s).0)
