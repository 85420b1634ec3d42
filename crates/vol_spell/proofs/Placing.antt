-- Blocks at a list of places, and the places of clusters.
use Rattle.std.proofs.Common.{◌≡◌, ◌≢◌, ◌<◌, ◌≤◌, ◌+◌, ◌-◌, ◌*◌, ◌/◌, ℕ, List, [], ◌∷◌, Some, None, length, slice_set, slice_index_or, zero, suc, refl, sym, ap, subst, ◌∙◌, inl, inr, arith, get_or-set_other, length-set, length-append, append_assoc, zero-mul, slice_get, ◌++◌}
use Rattle.std.proofs.lemmas.Option.{get_or_from_slice_get}
use Rattle.std.proofs.lemmas.List.FromFn.{length-range_with_len}
use Rattle.std.specs.List.{range_with_len, zip}
use Rattle.std.proofs.lemmas.Nat.{div-mul-add}
use Rattle.std.proofs.Math.Nat.{lt-div-mul-add, div-mul-le_self}
use Rattle.base_words.specs.Fields.{Block}
use Rattle.base_words.specs.Lists.{Has, Once, written, Touches}
use Rattle.vol_spell.specs.Spread.{blocks_at, spread, BlocksStay, BlocksSet, InSpread, SpreadOnce, BlocksJoined, BlocksKept, BlocksSeen, BlocksWritten, SpreadJoined, SpreadPlaces}
use Rattle.base_words.proofs.Listing.{same_or_not, has_at, has_parted, has_first, has_second, once_in_a_row}
use Rattle.base_words.proofs.ListWrites.{get-set_here, get-written_else}

pub blocks_stay : BlocksStay
blocks_stay bs l b [] away = refl
blocks_stay bs l b (k ∷ ls) away = λ i. get_or-set_other bs l k b [] (λ e. away (inl e)) i ∷ blocks_stay bs l b ls (λ t. away (inr t)) i

pub index-set_here : (bs : List Block) (l : ℕ) (b : Block) → l < length bs → slice_index_or (slice_set bs l b) l [] ≡ b
index-set_here [] l b lt = absurd (omega arith)
index-set_here (x ∷ bs) zero b lt = refl
index-set_here (x ∷ bs) (suc l) b lt = index-set_here bs l b (omega arith)

pub length-blocks_at : (bs : List Block) (ls : List ℕ) → length (blocks_at bs ls) ≡ length ls
length-blocks_at bs [] = refl
length-blocks_at bs (l ∷ ls) = ap suc (length-blocks_at bs ls)

pub blocks_set : BlocksSet
blocks_set bs l b [] v e o lt = absurd (let f : None ≡ Some l = e in cc)
blocks_set bs l b (k ∷ ls) zero e o lt =
    let f : k ≡ l = (let h : Some k ≡ Some l = e in cc) in
    let away : Has ls l → ⊥ = subst (λ (j : ℕ). Has ls j → ⊥) f o.0 in
    let at : slice_index_or (slice_set bs l b) k [] ≡ b = ap (λ j. slice_index_or (slice_set bs l b) j []) f ∙ index-set_here bs l b lt in
    λ i. at i ∷ blocks_stay bs l b ls away i
blocks_set bs l b (k ∷ ls) (suc v) e o lt =
    let ne : k ≢ l = λ h. o.0 (subst (λ (j : ℕ). Has ls j) (sym h) (has_at ls v l e)) in
    λ i. get_or-set_other bs l k b [] ne i ∷ blocks_set bs l b ls v e o.1 lt i

-- what is in a range
pub has_ranged : (a k x : ℕ) → Has (range_with_len a k) x → (a ≤ x) × (x < a + k)
has_ranged a zero x t = absurd t
has_ranged a (suc k) x (inl e) = (omega arith, omega arith)
has_ranged a (suc k) x (inr t) = let h = has_ranged (a + 1) k x t in (let lo = h.0 in omega arith, let hi = h.1 in omega arith)

pub ranged_has : (a k x : ℕ) → a ≤ x → x < a + k → Has (range_with_len a k) x
ranged_has a zero x lo hi = absurd (omega arith)
ranged_has a (suc k) x lo hi = elim (same_or_not a x) [ inl e ↦ inl e | inr ne ↦ inr (ranged_has (a + 1) k x (omega arith) (omega arith)) ]

once_ranged : (a k : ℕ) → Once (range_with_len a k)
once_ranged a zero = tt
once_ranged a (suc k) = ((λ t. let h = (has_ranged (a + 1) k a t).0 in absurd (omega arith)), once_ranged (a + 1) k)

-- the blocks of a cluster are those that lie in it
of_cluster : (f q x : ℕ) → Has (range_with_len (q * f) f) x → x / f ≡ q
of_cluster f q x t =
    let h = has_ranged (q * f) f x t in
    let lo : q * f ≤ x = h.0 in
    let hi : x < q * f + f = h.1 in
    let r : x - q * f < f = omega arith in
    let e : q * f + (x - q * f) ≡ x = omega arith in
    ap (λ y. y / f) (sym e) ∙ div-mul-add q f (x - q * f) r

in_cluster : (f q x : ℕ) → 1 ≤ f → q ≡ x / f → Has (range_with_len (q * f) f) x
in_cluster f q x low e =
    let P : ℕ → Type 0 = λ k. Has (range_with_len (k * f) f) x in
    let lo : x / f * f ≤ x = div-mul-le_self x f in
    let hi : x < x / f * f + f = lt-div-mul-add low in
    subst P (sym e) (ranged_has (x / f * f) f x lo hi)

pub spread_in : (f : ℕ) (cs : List ℕ) (x : ℕ) → Has (spread f cs) x → Has cs (x / f)
spread_in f [] x t = t
spread_in f (q ∷ qs) x t = elim (has_parted (range_with_len (q * f) f) (spread f qs) x t) [ inl a ↦ inl (sym (of_cluster f q x a)) | inr b ↦ inr (spread_in f qs x b) ]

pub in_spread : InSpread
in_spread f cs x low = ((λ t. spread_in f cs x t), (λ t. back cs t)) where
  back : (qs : List ℕ) → Has qs (x / f) → Has (spread f qs) x
  back [] t = t
  back (q ∷ qs) (inl e) = has_first (range_with_len (q * f) f) (spread f qs) x (in_cluster f q x low e)
  back (q ∷ qs) (inr t) = has_second (range_with_len (q * f) f) (spread f qs) x (back qs t)

pub spread_once : SpreadOnce
spread_once f [] o = tt
spread_once f (q ∷ qs) o = once_in_a_row (range_with_len (q * f) f) (spread f qs) (once_ranged (q * f) f) (spread_once f qs o.1)
    (λ x t u. o.0 (subst (λ (k : ℕ). Has qs k) (of_cluster f q x t) (spread_in f qs x u)))

pub blocks_joined : BlocksJoined
blocks_joined bs [] ks = refl
blocks_joined bs (l ∷ ls) ks = ap (λ xs. slice_index_or bs l [] ∷ xs) (blocks_joined bs ls ks)

pub blocks_kept : BlocksKept
blocks_kept [] bs ls away = refl
blocks_kept (w ∷ ws) bs ls away = blocks_kept ws (slice_set bs w.0 w.1) ls (λ l t u. away l (inr t) u) ∙ blocks_stay bs w.0 w.1 ls (λ u. away w.0 (inl refl) u)

pub blocks_seen : BlocksSeen
blocks_seen bs [] [] e s = refl
blocks_seen bs [] (b ∷ seen) e s = absurd (omega arith)
blocks_seen bs (l ∷ ls) [] e s = absurd (omega arith)
blocks_seen bs (l ∷ ls) (b ∷ seen) e s =
    let h : slice_index_or bs l [] ≡ b = get_or_from_slice_get bs l b [] s.0 in
    let r : blocks_at bs ls ≡ seen = blocks_seen bs ls seen (omega arith) s.1 in
    λ i. h i ∷ r i

touches_zipped : (ls : List ℕ) (body : List Block) (l : ℕ) → Touches (zip ls body) l → Has ls l
touches_zipped [] body l t = t
touches_zipped (k ∷ ls) [] l t = absurd t
touches_zipped (k ∷ ls) (b ∷ body) l (inl e) = inl e
touches_zipped (k ∷ ls) (b ∷ body) l (inr t) = inr (touches_zipped ls body l t)

pub blocks_written : BlocksWritten
blocks_written bs [] [] once len lt = refl
blocks_written bs [] (b ∷ body) once len lt = absurd (omega arith)
blocks_written bs (l ∷ ls) [] once len lt = absurd (omega arith)
blocks_written bs (l ∷ ls) (b ∷ body) once len lt =
    let rest : blocks_at (written (zip ls body) (slice_set bs l b)) ls ≡ body = blocks_written (slice_set bs l b) ls body once.1 (omega arith) (λ k t. let h = lt k (inr t) in let e = length-set bs l b in omega arith) in
    let stays : slice_get (written (zip ls body) (slice_set bs l b)) l ≡ Some b = get-written_else (zip ls body) (slice_set bs l b) l (λ t. once.0 (touches_zipped ls body l t)) ∙ get-set_here bs l b (lt l (inl refl)) in
    let head : slice_index_or (written (zip ls body) (slice_set bs l b)) l [] ≡ b = get_or_from_slice_get (written (zip ls body) (slice_set bs l b)) l b [] stays in
    λ i. head i ∷ rest i

pub spread_joined : SpreadJoined
spread_joined f [] ds = refl
spread_joined f (c ∷ cs) ds = ap (λ xs. range_with_len (c * f) f ++ xs) (spread_joined f cs ds) ∙ sym (append_assoc (range_with_len (c * f) f) (spread f cs) (spread f ds))

length-spread : (f : ℕ) (cs : List ℕ) → length (spread f cs) ≡ length cs * f
length-spread f [] = sym (zero-mul f)
length-spread f (c ∷ cs) =
    let a = length-append (range_with_len (c * f) f) (spread f cs) in
    let b = length-range_with_len (c * f) f in
    let r = length-spread f cs in
    let e : suc (length cs) * f ≡ f + length cs * f = omega arith in
    omega arith

-- what stands in a range and behind it
get_ranged : (a n r : ℕ) (ys : List ℕ) → r < n → slice_get (range_with_len a n ++ ys) r ≡ Some (a + r)
get_ranged a zero r ys lt = absurd (omega arith)
get_ranged a (suc n) zero ys lt = ap (λ k. Some k) (let e : a ≡ a + 0 = omega arith in e)
get_ranged a (suc n) (suc r) ys lt = get_ranged (a + 1) n r ys (omega arith) ∙ ap (λ k. Some k) (let e : a + 1 + r ≡ a + suc r = omega arith in e)

get_behind : (a n j : ℕ) (ys : List ℕ) → slice_get (range_with_len a n ++ ys) (n + j) ≡ slice_get ys j
get_behind a zero j ys = ap (slice_get ys) (let e : 0 + j ≡ j = omega arith in e)
get_behind a (suc n) j ys = ap (slice_get (range_with_len a (suc n) ++ ys)) (let e : suc n + j ≡ suc (n + j) = omega arith in e) ∙ get_behind (a + 1) n j ys

get-spread : (f : ℕ) (cs : List ℕ) (k r q : ℕ) → r < f → slice_get cs k ≡ Some q → slice_get (spread f cs) (k * f + r) ≡ Some (q * f + r)
get-spread f [] k r q lt e = absurd (let h : None ≡ Some q = e in cc)
get-spread f (c ∷ cs) zero r q lt e =
    let same : c ≡ q = (let h : Some c ≡ Some q = e in cc) in
    ap (slice_get (spread f (c ∷ cs))) (let z : 0 * f + r ≡ r = omega arith in z) ∙ get_ranged (c * f) f r (spread f cs) lt ∙ ap (λ x. Some (x * f + r)) same
get-spread f (c ∷ cs) (suc k) r q lt e =
    ap (slice_get (spread f (c ∷ cs))) (let z : suc k * f + r ≡ f + (k * f + r) = omega arith in z) ∙ get_behind (c * f) f (k * f + r) (spread f cs) ∙ get-spread f cs k r q lt e

pub spread_places : SpreadPlaces
spread_places = record { count = length-spread; each = get-spread }
