-- Blocks that are laid down one behind another, from an LBN on.
use Rattle.std.proofs.Common.{◌≡◌, ◌∙◌, ◌<◌, ◌≤◌, ◌+◌, ℕ, zero, suc, List, [], ◌∷◌, Some, length, map, take, get_or, slice_get, slice_set, unwrap_or, refl, sym, ap, inl, inr, arith}
use Rattle.std.specs.Prelude.{slice_index_or}
use Rattle.std.specs.List.{range_with_len}
use Rattle.std.proofs.lemmas.Option.{unwrap_or-slice_get}
use Rattle.std.proofs.lemmas.List.{length-set}
use Rattle.base_words.specs.Fields.{Block}
use Rattle.base_words.specs.Lists.{Has, written, Touches}
use Rattle.base_words.proofs.ListWrites.{get-set_here, get-written_else}
use Rattle.vol_repair.specs.Remaking.{laid}
use Rattle.vol_rebuild.proofs.Stepping.{written_next}

-- number i of them stands i behind the first
pub laid_at : (l : ℕ) (bs : List Block) (i : ℕ) (d : Block) → i < length bs → slice_get (laid l bs) i ≡ Some (l + i, get_or bs i d)
laid_at l [] i d lt = absurd (omega arith)
laid_at l (b ∷ bs) zero d lt = let e : l ≡ l + 0 = omega arith in ap (λ (k : ℕ). Some (k, b)) e
laid_at l (b ∷ bs) (suc i) d lt =
    let e : l + 1 + i ≡ l + suc i = omega arith in
    laid_at (l + 1) bs i d (omega arith) ∙ ap (λ (k : ℕ). Some (k, get_or bs i d)) e

-- each is a write to one of as many places
pub laid_has : (l : ℕ) (bs : List Block) (w : ℕ × Block) → Has (laid l bs) w → (l ≤ w.0) × (w.0 < l + length bs) × Has bs w.1
laid_has l [] w t = absurd t
laid_has l (b ∷ bs) w (inl e) =
    let at : l ≡ w.0 = ap (λ (x : ℕ × Block). x.0) e in
    (omega (arith, at), omega (arith, at), inl (ap (λ (x : ℕ × Block). x.1) e))
laid_has l (b ∷ bs) w (inr t) =
    let h = laid_has (l + 1) bs w t in
    let lo = h.0 in
    let hi = h.1 in
    (omega arith, omega arith, inr h.2)

pub laid_touches : (l : ℕ) (bs : List Block) (k : ℕ) → Touches (laid l bs) k → (l ≤ k) × (k < l + length bs)
laid_touches l [] k t = absurd t
laid_touches l (b ∷ bs) k (inl e) = (omega (arith, e), omega (arith, e))
laid_touches l (b ∷ bs) k (inr t) =
    let h = laid_touches (l + 1) bs k t in
    let lo = h.0 in
    let hi = h.1 in
    (omega arith, omega arith)

-- a place that no write touches has its block
pub same_elsewhere : (ws : List (ℕ × Block)) (bs : List Block) (l : ℕ) → (Touches ws l → ⊥) → slice_index_or (written ws bs) l [] ≡ slice_index_or bs l []
same_elsewhere ws bs l never =
    sym (unwrap_or-slice_get (written ws bs) l []) ∙ (ap (λ o. unwrap_or o []) (get-written_else ws bs l never) ∙ unwrap_or-slice_get bs l [])

-- the place of a write has its block
there_now : (bs : List Block) (l : ℕ) (b : Block) → l < length bs → slice_index_or (slice_set bs l b) l [] ≡ b
there_now bs l b lt = sym (unwrap_or-slice_get (slice_set bs l b) l []) ∙ ap (λ o. unwrap_or o []) (get-set_here bs l b lt)

-- the places of blocks that are laid down have these blocks
pub laid_there : (l : ℕ) (bs now : List Block) → l + length bs ≤ length now → map (λ k. slice_index_or (written (laid l bs) now) k []) (range_with_len l (length bs)) ≡ bs
laid_there l [] now fits = refl
laid_there l (b ∷ bs) now fits =
    let count = length-set now l b in
    let here = same_elsewhere (laid (l + 1) bs) (slice_set now l b) l (λ t. let lo = (laid_touches (l + 1) bs l t).0 in omega arith) ∙ there_now now l b (omega arith) in
    let rest = laid_there (l + 1) bs (slice_set now l b) (omega arith) in
    λ i. here i ∷ rest i

-- what holds before writes and stays with each of them holds after each number of them
pub through_all : (R : List Block → Type 0) (ws : List (ℕ × Block)) (bs : List Block) → ((w : ℕ × Block) (x : List Block) → Has ws w → R x → R (slice_set x w.0 w.1)) → R bs → R (written ws bs)
through_all R [] bs each r = r
through_all R (w ∷ ws) bs each r = through_all R ws (slice_set bs w.0 w.1) (λ v x t. each v x (inr t)) (each w bs (inl refl) r)

pub through_some : (R : List Block → Type 0) (ws : List (ℕ × Block)) (bs : List Block) → ((w : ℕ × Block) (x : List Block) → Has ws w → R x → R (slice_set x w.0 w.1)) → R bs
    → (k : ℕ) → R (written (take k ws) bs)
through_some R ws bs each r zero = r
through_some R [] bs each r (suc k) = r
through_some R (w ∷ ws) bs each r (suc k) = through_some R ws (slice_set bs w.0 w.1) (λ v x t. each v x (inr t)) (each w bs (inl refl) r) k

-- one block more is written
pub laid_next : (l i : ℕ) (bs old now : List Block) → i < length bs → now ≡ written (take i (laid l bs)) old → slice_set now (l + i) (get_or bs i []) ≡ written (take (i + 1) (laid l bs)) old
laid_next l i bs old now lt is =
    let next : suc i ≡ i + 1 = omega arith in
    (λ j. slice_set (is j) (l + i) (get_or bs i []))
    ∙ (sym (written_next (laid l bs) i (l + i, get_or bs i []) old (laid_at l bs i [] lt)) ∙ (λ j. written (take (next j) (laid l bs)) old))

pub laid_made : (l i : ℕ) (bs old now new : List Block) → i < length bs → now ≡ written (take i (laid l bs)) old → new ≡ slice_set now (l + i) (get_or bs i []) → new ≡ written (take (i + 1) (laid l bs)) old
laid_made l i bs old now new lt is e = e ∙ laid_next l i bs old now lt is

-- all are written
pub laid_all : (l i : ℕ) (bs : List Block) → length bs ≤ i → take i (laid l bs) ≡ laid l bs
laid_all l zero [] le = refl
laid_all l (suc i) [] le = refl
laid_all l zero (b ∷ bs) le = absurd (omega (arith, le))
laid_all l (suc i) (b ∷ bs) le = ap (λ ws. (l, b) ∷ ws) (laid_all (l + 1) i bs (omega (arith, le)))
