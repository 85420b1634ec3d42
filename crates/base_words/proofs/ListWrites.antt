-- Writes to a list by place.
use Rattle.std.proofs.Common.{◌≡◌, ◌≢◌, ◌<◌, ◌⊎◌, ℕ, List, [], ◌∷◌, Some, None, length, slice_get, slice_set, take, zero, suc, refl, sym, ap, subst, ◌∙◌, inl, inr, arith, length-set, ◌++◌}
use Rattle.base_words.specs.Lists.{written, Touches, StandsIn}
use Rattle.base_words.specs.ListLaws.{WrittenJoined, WritesLand, TouchedAlike, TouchesJoined, StandsJoined, StandsStill}
use Rattle.base_words.proofs.Listing.{same_or_not}

-- an item that is set elsewhere leaves this one
pub get-set_else : {A : Type 0} (bs : List A) (k l : ℕ) (b : A) → k ≢ l → slice_get (slice_set bs k b) l ≡ slice_get bs l
get-set_else [] k l b ne = refl
get-set_else (x ∷ bs) zero zero b ne = absurd (ne refl)
get-set_else (x ∷ bs) zero (suc l) b ne = refl
get-set_else (x ∷ bs) (suc k) zero b ne = refl
get-set_else (x ∷ bs) (suc k) (suc l) b ne = get-set_else bs k l b (λ e. ne (ap suc e))

pub get-set_here : {A : Type 0} (bs : List A) (k : ℕ) (b : A) → k < length bs → slice_get (slice_set bs k b) k ≡ Some b
get-set_here [] k b lt = absurd (omega arith)
get-set_here (x ∷ bs) zero b lt = refl
get-set_here (x ∷ bs) (suc k) b lt = get-set_here bs k b (omega arith)

-- an item that stands there already is set for nothing
pub set-get : {A : Type 0} (bs : List A) (k : ℕ) (b : A) → slice_get bs k ≡ Some b → slice_set bs k b ≡ bs
set-get [] k b e = refl
set-get (x ∷ bs) zero b e = let f : b ≡ x = (let h : Some x ≡ Some b = e in cc) in ap (λ y. y ∷ bs) f
set-get (x ∷ bs) (suc k) b e = ap (λ ys. x ∷ ys) (set-get bs k b e)

pub length-written : {A : Type 0} (ws : List (ℕ × A)) (bs : List A) → length (written ws bs) ≡ length bs
length-written [] bs = refl
length-written (w ∷ ws) bs = length-written ws (slice_set bs w.0 w.1) ∙ length-set bs w.0 w.1

pub get-written_else : {A : Type 0} (ws : List (ℕ × A)) (bs : List A) (l : ℕ) → (Touches ws l → ⊥) → slice_get (written ws bs) l ≡ slice_get bs l
get-written_else [] bs l never = refl
get-written_else (w ∷ ws) bs l never = get-written_else ws (slice_set bs w.0 w.1) l (λ t. never (inr t)) ∙ get-set_else bs w.0 l w.1 (λ e. never (inl e))

pub writes_land : {A : Type 0} → WritesLand A
writes_land = record { count = λ ws bs. length-written ws bs; untouched = λ ws bs l never. get-written_else ws bs l never }

pub written_joined : {A : Type 0} → WrittenJoined A
written_joined [] vs bs = refl
written_joined (w ∷ ws) vs bs = written_joined ws vs (slice_set bs w.0 w.1)

-- a place is touched or not
pub touches_or_not : {A : Type 0} (ws : List (ℕ × A)) (l : ℕ) → Touches ws l ⊎ (Touches ws l → ⊥)
touches_or_not [] l = inr (λ t. t)
touches_or_not (w ∷ ws) l = elim (same_or_not w.0 l) [
  | inl e ↦ inl (inl e)
  | inr ne ↦ elim (touches_or_not ws l) [ inl t ↦ inl (inr t) | inr f ↦ inr (λ t. elim t [ inl e ↦ ne e | inr u ↦ f u ]) ]
]

-- the same item set in two lists of one length
set_alike : {A : Type 0} (bs cs : List A) (l : ℕ) (b : A) → length bs ≡ length cs → slice_get (slice_set bs l b) l ≡ slice_get (slice_set cs l b) l
set_alike [] [] l b len = refl
set_alike [] (c ∷ cs) l b len = absurd (omega arith)
set_alike (x ∷ bs) [] l b len = absurd (omega arith)
set_alike (x ∷ bs) (c ∷ cs) zero b len = refl
set_alike (x ∷ bs) (c ∷ cs) (suc l) b len = set_alike bs cs l b (omega arith)

pub touched_alike : {A : Type 0} → TouchedAlike A
touched_alike [] bs cs l len t = absurd t
touched_alike {A} (w ∷ ws) bs cs l len t = elim (touches_or_not ws l) [
  | inl u ↦ touched_alike ws (slice_set bs w.0 w.1) (slice_set cs w.0 w.1) l (length-set bs w.0 w.1 ∙ len ∙ sym (length-set cs w.0 w.1)) u
  | inr f ↦ get-written_else ws (slice_set bs w.0 w.1) l f ∙ here (elim t [ inl e ↦ e | inr u ↦ absurd (f u) ]) ∙ sym (get-written_else ws (slice_set cs w.0 w.1) l f)
] where
  here : w.0 ≡ l → slice_get (slice_set bs w.0 w.1) l ≡ slice_get (slice_set cs w.0 w.1) l
  here e = subst (λ (k : ℕ). slice_get (slice_set bs w.0 w.1) k ≡ slice_get (slice_set cs w.0 w.1) k) e (set_alike bs cs w.0 w.1 len)

pub touches_joined : {A : Type 0} → TouchesJoined A
touches_joined [] vs l = ((λ t. inr t), (λ t. elim t [ inl f ↦ absurd f | inr u ↦ u ]))
touches_joined (w ∷ ws) vs l =
    let rest = touches_joined ws vs l in (
      (λ t. elim t [ inl e ↦ inl (inl e) | inr u ↦ elim (rest.0 u) [ inl v ↦ inl (inr v) | inr v ↦ inr v ] ]),
      (λ t. elim t [ inl u ↦ elim u [ inl e ↦ inl e | inr v ↦ inr (rest.1 (inl v)) ] | inr v ↦ inr (rest.1 (inr v)) ]),
    )

-- what the first writes touch, all of them touch
pub touches_taken : {A : Type 0} (k : ℕ) (ws : List (ℕ × A)) (l : ℕ) → Touches (take k ws) l → Touches ws l
touches_taken zero ws l t = absurd t
touches_taken (suc k) [] l t = absurd t
touches_taken (suc k) (w ∷ ws) l (inl e) = inl e
touches_taken (suc k) (w ∷ ws) l (inr t) = inr (touches_taken k ws l t)

-- a write touches its place
pub touches_at : {A : Type 0} (ws : List (ℕ × A)) (k : ℕ) (w : ℕ × A) → slice_get ws k ≡ Some w → Touches ws w.0
touches_at [] k w e = absurd (let f : None ≡ Some w = e in cc)
touches_at (x ∷ ws) zero w e = let f : x ≡ w = (let h : Some x ≡ Some w = e in cc) in inl (ap (λ y. y.0) f)
touches_at (x ∷ ws) (suc k) w e = inr (touches_at ws k w e)

pub stands_first : {A : Type 0} (bs : List A) (ss ts : List (ℕ × A)) → StandsIn bs (ss ++ ts) → StandsIn bs ss
stands_first bs [] ts h = tt
stands_first bs (s ∷ ss) ts h = (h.0, stands_first bs ss ts h.1)

pub stands_second : {A : Type 0} (bs : List A) (ss ts : List (ℕ × A)) → StandsIn bs (ss ++ ts) → StandsIn bs ts
stands_second bs [] ts h = h
stands_second bs (s ∷ ss) ts h = stands_second bs ss ts h.1

pub stands_in_a_row : {A : Type 0} (bs : List A) (ss ts : List (ℕ × A)) → StandsIn bs ss → StandsIn bs ts → StandsIn bs (ss ++ ts)
stands_in_a_row bs [] ts g h = h
stands_in_a_row bs (s ∷ ss) ts g h = (g.0, stands_in_a_row bs ss ts g.1 h)

pub stands_joined : {A : Type 0} → StandsJoined A
stands_joined bs ss ts = ((λ h. (stands_first bs ss ts h, stands_second bs ss ts h)), (λ p. stands_in_a_row bs ss ts p.0 p.1))

pub stands_still : {A : Type 0} → StandsStill A
stands_still ws bs [] away h = tt
stands_still ws bs (s ∷ ss) away h = (get-written_else ws bs s.0 (λ t. away s.0 t (inl refl)) ∙ h.0, stands_still ws bs ss (λ l t u. away l t (inr u)) h.1)
