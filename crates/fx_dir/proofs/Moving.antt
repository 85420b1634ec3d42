-- Steps of the code that makes moves.
use Rattle.std.proofs.Common.{◌≡◌, ◌∙◌, ◌≢◌, ◌==◌, ◌+◌, ◌≤◌, ◌++◌, not, Bool, true, false, ℕ, suc, List, [], ◌∷◌, Some, None, cond, length, refl, sym, ap, arith, if◌then◌else◌}
use Rattle.std.specs.Prelude.{position, unwrap_or, nat_lt}
use Rattle.std.specs.List.{insert, position_or_len}
use Rattle.std.proofs.lemmas.List.Sums.{prefix_len-le-length}
use Rattle.std.specs.Str.{bytes_eq}
use Rattle.fx_dir.specs.declared.RawEnt.{RawEnt}
use Rattle.fx_dir.specs.declared.Move.{Move}
use Rattle.fx_dir.specs.Entries.{before}
use Rattle.fx_dir.specs.Moves.{less_last, inserted, as_new}
use Rattle.fx_dir.proofs.Numbers.{eqb_yes, eqb_no, ltb_no}

pub less_last-push : (j : ℕ) (ws : List Move) (w : Move) → less_last j (ws ++ w ∷ []) ≡ (if w.vbn == j then ws else ws ++ w ∷ [])
less_last-push j [] w = refl
less_last-push j (v ∷ []) w = elim (w.vbn == j) as (λ q. v ∷ (if q then [] else w ∷ []) ≡ (if q then v ∷ [] else v ∷ w ∷ [])) [ true ↦ refl | false ↦ refl ]
less_last-push j (v ∷ u ∷ ws) w = ap (λ (t : List Move). v ∷ t) (less_last-push j (u ∷ ws) w) ∙ elim (w.vbn == j) as (λ q. v ∷ (if q then u ∷ ws else u ∷ (ws ++ w ∷ [])) ≡ (if q then v ∷ u ∷ ws else v ∷ u ∷ (ws ++ w ∷ []))) [ true ↦ refl | false ↦ refl ]

pub less_last-drops : (j : ℕ) (ws all : List Move) (w : Move) → all ≡ ws ++ w ∷ [] → w.vbn ≡ j → less_last j all ≡ ws
less_last-drops j ws all w e h = ap (less_last j) e ∙ less_last-push j ws w ∙ rw (eqb_yes w.vbn j h) refl

pub less_last-keeps : (j : ℕ) (ws all : List Move) (w : Move) → all ≡ ws ++ w ∷ [] → w.vbn ≢ j → less_last j all ≡ ws ++ w ∷ []
less_last-keeps j ws all w e h = ap (less_last j) e ∙ less_last-push j ws w ∙ rw (eqb_no w.vbn j h) refl

-- ---- positions

pub position_or_len-le : {X : Type 0} (p : X → Bool) (xs : List X) → position_or_len p xs ≤ length xs
position_or_len-le p xs = prefix_len-le-length (λ x. not (p x)) xs

pub position-or : {X : Type 0} (p : X → Bool) (xs : List X) → unwrap_or (position p xs) (length xs) ≡ position_or_len p xs
position-or p xs = step (nat_lt (position_or_len p xs) (length xs)) refl where
  step : (q : Bool) → q ≡ nat_lt (position_or_len p xs) (length xs) → unwrap_or (cond q (Some (position_or_len p xs)) None) (length xs) ≡ position_or_len p xs
  step true h = refl
  step false h = let l = position_or_len-le p xs in let m = ltb_no (position_or_len p xs) (length xs) (sym h) in omega arith

pub insert-spot : (e : RawEnt) (es : List RawEnt) → insert es (position_or_len (λ x. before e x) es) e ≡ inserted e es
insert-spot e [] = refl
insert-spot e (x ∷ es) = step (before e x) (insert-spot e es) where
  step : (q : Bool) → insert es (position_or_len (λ x. before e x) es) e ≡ inserted e es → insert (x ∷ es) (cond (not q) (1 + position_or_len (λ x. before e x) es) 0) e ≡ (if q then e ∷ x ∷ es else x ∷ inserted e es)
  step true h = refl
  step false h =
      let n : 1 + position_or_len (λ x. before e x) es ≡ suc (position_or_len (λ x. before e x) es) = omega arith in
      rw n (λ i. x ∷ h i)

pub as_new-parts : (es : List RawEnt) (e : RawEnt) → as_new es e ≡ record e { limit = (as_new es e).limit; flags = (as_new es e).flags }
as_new-parts [] e = refl
as_new-parts (x ∷ es) e = step (bytes_eq x.name e.name) (as_new-parts es e) where
  step : (q : Bool) → as_new es e ≡ record e { limit = (as_new es e).limit; flags = (as_new es e).flags }
      → (if q then record e { limit = x.limit; flags = x.flags } else as_new es e) ≡ record e { limit = (if q then record e { limit = x.limit; flags = x.flags } else as_new es e).limit; flags = (if q then record e { limit = x.limit; flags = x.flags } else as_new es e).flags }
  step true h = refl
  step false h = h
