-- Where entries pack into some blocks, fewer of them do.
use Rattle.std.proofs.Common.{◌≡◌, ◌≤◌, ◌+◌, ◌⊎◌, inl, inr, ℕ, zero, suc, Bool, true, false, cond, List, [], ◌∷◌, Option, Some, None, refl, sym, ap, subst, arith}
use Rattle.std.specs.Prelude.{leb}
use Rattle.std.specs.Str.{bytes_eq}
use Rattle.std.proofs.lemmas.Bool.{leb-true, le-leb}
use Rattle.std.proofs.lemmas.Slice.Eq.{bytes_eq-Decides}
use Rattle.base_words.specs.Packing.{padded, cost, unfilled, over}
use Rattle.plain_cat.specs.declared.entries.DirEnt.{DirEnt}
use Rattle.plain_rules.specs.Directories.{before, inserted, is_nil, fits}

-- the one list is the other without some of its items
abbrev pub Among : {A : Type 0} → List A → List A → Type 0
Among es [] = es ≡ []
Among {A} es (f ∷ fs) = Among es fs ⊎ ((rest : List A) × (es ≡ f ∷ rest) × Among rest fs)

among_tail : {A : Type 0} (e : A) (es fs : List A) → Among (e ∷ es) fs → Among es fs
among_tail e es [] h = absurd (cc h)
among_tail e es (f ∷ fs) (inl h) = inl (among_tail e es fs h)
among_tail e es (f ∷ fs) (inr h) = let same : h.0 ≡ es = cc in inl (subst (λ xs. Among xs fs) same h.2)

cost_most : (last : Option (List ℕ)) (n : List ℕ) → cost last n ≤ 14 + padded n
unfolding cost
cost_most None n = omega arith
cost_most (Some last) n = by_case (bytes_eq last n) where
  by_case : (b : Bool) → cond b 8 (14 + padded n) ≤ 14 + padded n
  by_case true = omega arith
  by_case false = omega arith

cost_skip : (last : Option (List ℕ)) (f n : List ℕ) → cost last n ≤ cost last f + cost (Some f) n
unfolding cost
cost_skip last f n = by_case (bytes_eq f n) refl where
  most : cost last n ≤ 14 + padded n
  most = cost_most last n

  by_case : (b : Bool) → b ≡ bytes_eq f n → cost last n ≤ cost last f + cond b 8 (14 + padded n)
  by_case true e =
      let same : f ≡ n = (bytes_eq-Decides f n).0 (sym e) in
      let k : cost last f ≡ cost last n = ap (cost last) same in
      omega arith
  by_case false e = let m : cost last n ≤ 14 + padded n = most in omega arith

module _ {A : Type 0} (name : A → List ℕ) where
  among_unfilled : (last : Option (List ℕ)) (used : ℕ) (es fs : List A) → Among es fs → Among (unfilled name last used es) fs
  among_unfilled last used [] fs h = h
  among_unfilled last used (e ∷ es) fs h =
      by_case (leb (used + cost last (name e)) 510) (among_unfilled (Some (name e)) (used + cost last (name e)) es fs (among_tail e es fs h))
    where
      by_case : (b : Bool) → Among (unfilled name (Some (name e)) (used + cost last (name e)) es) fs
          → Among (cond b (unfilled name (Some (name e)) (used + cost last (name e)) es) (e ∷ es)) fs
      by_case true ih = ih
      by_case false ih = h

  -- whatever comes next, it ends no later behind the one than behind the other
  abbrev IsAhead : Option (List ℕ) → ℕ → Option (List ℕ) → ℕ → Type 0
  IsAhead last used other more = (n : List ℕ) → used + cost last n ≤ more + cost other n

  -- behind the block that is begun k blocks are enough for fewer, where they are enough
  abbrev Passes : ℕ → Type 0
  Passes k = (fs es : List A) (last other : Option (List ℕ)) (used more : ℕ) → Among es fs → IsAhead last used other more
      → over name k (unfilled name other more fs) ≡ [] → over name k (unfilled name last used es) ≡ []

  abbrev Below : ℕ → Type 0
  Below zero = Unit {0}
  Below (suc k) = Passes k

  next_block : (k : ℕ) → Below k → (f : A) (fs es : List A) (last : Option (List ℕ)) (used : ℕ) → Among es (f ∷ fs) → over name k (f ∷ fs) ≡ []
      → over name k (unfilled name last used es) ≡ []
  next_block zero below f fs es last used h o = absurd (cc o)
  next_block (suc k) below f fs es last used h o =
      below (f ∷ fs) (unfilled name last used es) None None 0 0 (among_unfilled last used es (f ∷ fs) h) (λ n. omega arith) o

  abbrev Rest : ℕ → List A → Type 0
  Rest k fs = (ys : List A) (l m : Option (List ℕ)) (u v : ℕ) → Among ys fs → IsAhead l u m v → over name k (unfilled name m v fs) ≡ [] → over name k (unfilled name l u ys) ≡ []

  passes : (k : ℕ) → Below k → Passes k
  passes k below [] es last other used more h a o = subst (λ (xs : List A). over name k (unfilled name last used xs) ≡ []) (sym h) o
  passes k below (f ∷ fs) es last other used more h a o = by_room (leb (more + cost other (name f)) 510) refl o h (passes k below fs) where
    by_item : leb (more + cost other (name f)) 510 ≡ true → over name k (unfilled name (Some (name f)) (more + cost other (name f)) fs) ≡ []
        → Among es fs ⊎ ((rest : List A) × (es ≡ f ∷ rest) × Among rest fs) → Rest k fs → over name k (unfilled name last used es) ≡ []
    by_item room p (inl sub) rest =
        rest es last (Some (name f)) used (more + cost other (name f)) sub (λ n. let x = a n in let y = cost_skip other (name f) n in omega arith) p
    by_item room p (inr (ys, e, sub)) rest =
        let le : more + cost other (name f) ≤ 510 = leb-true _ _ room in
        let here = a (name f) in
        let fit : leb (used + cost last (name f)) 510 ≡ true = le-leb (used + cost last (name f)) 510 (omega arith) in
        let on : over name k (unfilled name (Some (name f)) (used + cost last (name f)) ys) ≡ [] =
        rest ys (Some (name f)) (Some (name f)) (used + cost last (name f)) (more + cost other (name f)) sub (λ n. omega arith) p in
        subst (λ (xs : List A). over name k (unfilled name last used xs) ≡ []) (sym e)
        (subst (λ (b : Bool). over name k (cond b (unfilled name (Some (name f)) (used + cost last (name f)) ys) (f ∷ ys)) ≡ []) (sym fit) on)

    by_room : (b : Bool) → leb (more + cost other (name f)) 510 ≡ b → over name k (cond b (unfilled name (Some (name f)) (more + cost other (name f)) fs) (f ∷ fs)) ≡ []
        → Among es fs ⊎ ((rest : List A) × (es ≡ f ∷ rest) × Among rest fs) → Rest k fs → over name k (unfilled name last used es) ≡ []
    by_room true room p h rest = by_item room p h rest
    by_room false room p h rest = next_block k below f fs es last used h p

  all_pass : (k : ℕ) → Passes k
  all_pass zero = passes zero tt
  all_pass (suc k) = passes (suc k) (all_pass k)

  pub fewer_fit : (k : ℕ) (es fs : List A) → Among es fs → over name k fs ≡ [] → over name k es ≡ []
  fewer_fit zero es fs h o = subst (λ (xs : List A). xs ≡ []) refl (none es fs h o) where
    none : (xs ys : List A) → Among xs ys → ys ≡ [] → xs ≡ []
    none xs [] k e = k
    none xs (y ∷ ys) k e = absurd (cc e)
  fewer_fit (suc k) es fs h o = all_pass k fs es None None 0 0 h (λ n. omega arith) o

pub among_same : {A : Type 0} (es : List A) → Among es es
among_same [] = refl
among_same (e ∷ es) = inr (es, refl, among_same es)

pub among_inserted : (e : DirEnt) (es : List DirEnt) → Among es (inserted e es)
among_inserted e [] = inl refl
among_inserted e (x ∷ xs) = by_case (before e x) (among_inserted e xs) where
  by_case : (b : Bool) → Among xs (inserted e xs) → Among (x ∷ xs) (cond b (e ∷ x ∷ xs) (x ∷ inserted e xs))
  by_case true ih = inl (among_same (x ∷ xs))
  by_case false ih = inr (xs, refl, ih)

pub nil_is : (es : List DirEnt) → is_nil es ≡ true → es ≡ []
nil_is [] h = refl
nil_is (e ∷ es) h = absurd (cc h)

-- where there is no room for an entry, there is none once another one is there
pub room_stays_lacking : (k : ℕ) (e : DirEnt) (es : List DirEnt) → fits k (inserted e es) ≡ true → fits k es ≡ true
unfolding fits
room_stays_lacking k e es h =
    let all : over (λ (x : DirEnt). x.name) k (inserted e es) ≡ [] = nil_is _ h in
    ap is_nil (fewer_fit (λ (x : DirEnt). x.name) k es (inserted e es) (among_inserted e es) all)
