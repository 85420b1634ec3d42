-- The clusters of a new file, and their blocks.
use Rattle.std.proofs.Common.{◌≡◌, ◌<◌, ◌+◌, ◌*◌, ◌∙◌, ◌++◌, ℕ, zero, suc, List, [], ◌∷◌, length, map, take, get_or, refl, sym, ap, subst, arith, inl, inr, All, append_assoc}
use Rattle.std.specs.List.{range_with_len}
use Rattle.std.proofs.lemmas.List.{take_more, map-append}
use Rattle.std.proofs.lemmas.Grind.{flat_map-append}
use Rattle.std.proofs.lemmas.List.{append-nil}
use Rattle.base_words.specs.Lists.{Has}
use Rattle.vol_spell.specs.Spread.{spread}
use Rattle.vol_parts.specs.declared.geometry.Geometry.{Geometry}
use Rattle.vol_parts.proofs.Ranges.{range-more}
use Rattle.vol_spell.specs.Reading.{total_of}
use Rattle.fx_header.specs.declared.run.Run.{Run}
use Rattle.op_law.specs.Readable.{EndsInside}

-- what holds of all holds of one
pub one : (g : Geometry) (qs : List ℕ) (p q : ℕ) → ((x : ℕ) → Has qs x → x < total_of g) → Has qs p → Has (p ∷ []) q → q < total_of g
one g qs p q all has (inl e) = subst (λ x. x < total_of g) e (all p has)
one g qs p q all has (inr none) = absurd none

-- one place more
pub more_places : {X : Type 0} (f : ℕ → X) (old : List X) (a n : ℕ) → (old ++ map f (range_with_len a n)) ++ f (a + n) ∷ [] ≡ old ++ map f (range_with_len a (n + 1))
more_places f old a n =
    let e : map f (range_with_len a (n + 1)) ≡ map f (range_with_len a n) ++ f (a + n) ∷ [] = ap (map f) (range-more a n (a + n) refl) ∙ map-append f (range_with_len a n) ((a + n) ∷ []) in
    append_assoc old (map f (range_with_len a n)) (f (a + n) ∷ []) ∙ ap (λ z. old ++ z) (sym e)

-- the places of one cluster more
pub more_spread : {X : Type 0} (f : ℕ → X) (old : List X) (w : ℕ) (qs : List ℕ) (k d : ℕ) → k < length qs
    → (old ++ map f (spread w (take k qs))) ++ map f (range_with_len (get_or qs k d * w) w) ≡ old ++ map f (spread w (take (k + 1) qs))
more_spread f old w qs k d lt =
    let e : spread w (take (k + 1) qs) ≡ spread w (take k qs) ++ (range_with_len (get_or qs k d * w) w ++ []) =
    ap (spread w) (take_more qs k d lt) ∙ flat_map-append (λ q. range_with_len (q * w) w) (take k qs) (get_or qs k d ∷ []) in
    let h : spread w (take (k + 1) qs) ≡ spread w (take k qs) ++ range_with_len (get_or qs k d * w) w = e ∙ ap (λ z. spread w (take k qs) ++ z) (append-nil (range_with_len (get_or qs k d * w) w)) in
    let m : map f (spread w (take (k + 1) qs)) ≡ map f (spread w (take k qs)) ++ map f (range_with_len (get_or qs k d * w) w) = ap (map f) h ∙ map-append f (spread w (take k qs)) (range_with_len (get_or qs k d * w) w) in
    append_assoc old (map f (spread w (take k qs))) (map f (range_with_len (get_or qs k d * w) w)) ∙ ap (λ z. old ++ z) (sym m)

-- what holds at each place holds of each that is listed
pub all_listed : (n : ℕ) (qs : List ℕ) → ((k : ℕ) → k < length qs → get_or qs k 0 < n) → (q : ℕ) → Has qs q → q < n
all_listed n [] all q none = absurd none
all_listed n (p ∷ qs) all q (inl e) = subst (λ x. x < n) e (all 0 (omega arith))
all_listed n (p ∷ qs) all q (inr has) = all_listed n qs (λ k lt. all (suc k) (omega arith)) q has

-- a run of two blocks at LBN 50
pub one_run_inside : All EndsInside (record { lbn = 50; count = 2 } ∷ [])
one_run_inside = λ k d lt. at k d lt where
  at : (k : ℕ) (d : Run) → k < 1 → EndsInside (get_or (record { lbn = 50; count = 2 } ∷ []) k d)
  at zero d lt = omega arith
  at (suc k) d lt = absurd (omega arith)
