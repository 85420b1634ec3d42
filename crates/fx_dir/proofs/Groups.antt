-- One entry put into the groups of a packing, or taken out of them.
use Rattle.std.proofs.Common.{◌≡◌, ◌≤◌, ◌<◌, ◌⊎◌, ◌||◌, not, Bool, true, false, ℕ, zero, suc, List, [], ◌∷◌, ◌++◌, Some, None, filter, map, length, slice_get, slice_set, slice_index_or, refl, sym, ap, subst, ◌∙◌, inl, inr, arith, cond, if◌then◌else◌}
use Rattle.std.specs.List.{list_all}
use Rattle.std.proofs.lemmas.List.Elements.{filter-append}
use Rattle.base_words.specs.Packing.{size, pack, over}
use Rattle.fx_dir.specs.declared.RawEnt.{RawEnt}
use Rattle.fx_dir.specs.Lists.{Each, In, joined}
use Rattle.fx_dir.specs.Entries.{same, before, rises, has, without}
use Rattle.fx_dir.specs.Writing.{name_of}
use Rattle.fx_dir.specs.Moves.{place, inserted}
use Rattle.fx_dir.proofs.Meeting.{Reads}
use Rattle.fx_dir.proofs.Order.{and_cases, both, is_true_or, not_both, or_cases, or_left, or_right, same-self, same-both, before-total}
use Rattle.fx_dir.proofs.Rising.{all-trans}
use Rattle.fx_dir.proofs.Cover.{rises-right, later}
use Rattle.fx_dir.proofs.Order.{no_or as or-false}
use Rattle.fx_dir.proofs.Greedy.{size-filter, pack-room}
use Rattle.fx_dir.proofs.Mixing.{parts-read, pack-joined}

pub joined-without : (e : RawEnt) (bs : List (List RawEnt)) → joined (map (without e) bs) ≡ without e (joined bs)
joined-without e [] = refl
joined-without e (b ∷ bs) = ap (λ (v : List RawEnt). without e b ++ v) (joined-without e bs) ∙ sym (filter-append (λ x. not (same e x)) b (joined bs))

pub without-room : (e : RawEnt) (bs : List (List RawEnt)) → Each (λ b. size name_of None b ≤ 510) bs → Each (λ b. size name_of None b ≤ 510) (map (without e) bs)
without-room e [] n = tt
without-room e (b ∷ bs) n = ((let h = size-filter (λ x. not (same e x)) None b in let k : size name_of None b ≤ 510 = n.0 in omega arith), without-room e bs n.1)

pub none-has : (e x : RawEnt) (es : List RawEnt) → has (x ∷ es) e ≡ false → (same e x ≡ false) × (has es e ≡ false)
none-has e x es h = split (same e x) h where
  split : (q : Bool) → (q || has es e) ≡ false → (q ≡ false) × (has es e ≡ false)
  split true h = absurd (cc)
  split false h = (refl, h)

pub without-none : (e : RawEnt) (es : List RawEnt) → has es e ≡ false → without e es ≡ es
without-none e [] h = refl
without-none e (x ∷ es) h = let p = none-has e x es h in rw (p.0) (λ i. x ∷ without-none e es p.1 i)

-- the entry that was put in, taken out
pub without-inserted : (e : RawEnt) (es : List RawEnt) → has es e ≡ false → without e (inserted e es) ≡ es
without-inserted e [] h = rw (same-self e) refl
without-inserted e (x ∷ es) h =
    let p = none-has e x es h in
    elim (before e x) as (λ q. without e (if q then e ∷ x ∷ es else x ∷ inserted e es) ≡ x ∷ es) [
      | true ↦ rw (same-self e) (without-none e (x ∷ es) h)
      | false ↦ rw (p.0) (λ i. x ∷ without-inserted e es p.1 i)
    ]

all-inserted : (x e : RawEnt) (es : List RawEnt) → before x e ≡ true → list_all (before x) es ≡ true → list_all (before x) (inserted e es) ≡ true
all-inserted x e [] h a = both _ _ h refl
all-inserted x e (y ∷ es) h a =
    let p = and_cases _ _ a in
    elim (before e y) as (λ q. list_all (before x) (if q then e ∷ y ∷ es else y ∷ inserted e es) ≡ true) [
      | true ↦ both _ _ h a
      | false ↦ both _ _ p.0 (all-inserted x e es h p.1)
    ]

pub rises-inserted : (e : RawEnt) (es : List RawEnt) → has es e ≡ false → rises es ≡ true → rises (inserted e es) ≡ true
rises-inserted e [] h r = refl
rises-inserted e (x ∷ es) h r = step (rises-inserted e es (none-has e x es h).1 (and_cases _ _ r).1) (before e x) refl where
  step : rises (inserted e es) ≡ true → (q : Bool) → q ≡ before e x → rises (if q then e ∷ x ∷ es else x ∷ inserted e es) ≡ true
  step ih true q = let b : before e x ≡ true = sym q in both _ _ (both _ _ b (all-trans e x es b (and_cases _ _ r).0)) r
  step ih false q = let b : before x e ≡ true = before-total e x (none-has e x es h).0 (sym q) in both _ _ (all-inserted x e es b (and_cases _ _ r).0) ih

-- where one is there, each of its name and version is
has-same : (b : List RawEnt) (e x : RawEnt) → has b e ≡ true → same e x ≡ true → has b x ≡ true
has-same [] e x h s = h
has-same (y ∷ b) e x h s = elim (or_cases (same e y) (has b e) h) [
  | inl k ↦ or_left (same x y) (has b x) (same-both e y x k s)
  | inr k ↦ or_right (same x y) (has b x) (has-same b e x k s)
]

absent : (b ys : List RawEnt) (e : RawEnt) → has b e ≡ true → Each (λ x. has b x ≡ false) ys → has ys e ≡ false
absent b [] e h n = refl
absent b (y ∷ ys) e h n = elim (is_true_or (same e y)) [
  | inl s ↦ absurd (not_both _ (has-same b e y h s) n.0)
  | inr s ↦ or-false _ _ s (absent b ys e h n.1)
]

has-left : (xs ys : List RawEnt) (e : RawEnt) → has (xs ++ ys) e ≡ false → has xs e ≡ false
has-left [] ys e h = refl
has-left (x ∷ xs) ys e h = let p = none-has e x (xs ++ ys) h in or-false _ _ p.0 (has-left xs ys e p.1)

has-right : (xs ys : List RawEnt) (e : RawEnt) → has (xs ++ ys) e ≡ false → has ys e ≡ false
has-right [] ys e h = h
has-right (x ∷ xs) ys e h = has-right xs ys e (none-has e x (xs ++ ys) h).1

pub map-without-none : (e : RawEnt) (bs : List (List RawEnt)) → has (joined bs) e ≡ false → map (without e) bs ≡ bs
map-without-none e [] h = refl
map-without-none e (b ∷ bs) h = λ i. without-none e b (has-left b (joined bs) e h) i ∷ map-without-none e bs (has-right b (joined bs) e h) i

-- only one block has the entry
pub others-lack : (e : RawEnt) (b : List RawEnt) (bs : List (List RawEnt)) → rises (b ++ joined bs) ≡ true → has b e ≡ true → has (joined bs) e ≡ false
others-lack e b bs r h = absent b (joined bs) e h (later b (joined bs) r)

-- the blocks without the entry, and its block put back
pub put-back : (e : RawEnt) (bs : List (List RawEnt)) → rises (joined bs) ≡ true → slice_set (map (without e) bs) (place e bs) (slice_index_or bs (place e bs) []) ≡ bs
put-back e [] r = refl
put-back e (b ∷ bs) r = step (put-back e bs (rises-right b (joined bs) r)) (has b e) refl where
  step : slice_set (map (without e) bs) (place e bs) (slice_index_or bs (place e bs) []) ≡ bs → (q : Bool) → q ≡ has b e → slice_set (without e b ∷ map (without e) bs) (if q then 0 else suc (place e bs)) (slice_index_or (b ∷ bs) (if q then 0 else suc (place e bs)) []) ≡ b ∷ bs
  step ih true q = λ i. b ∷ map-without-none e bs (others-lack e b bs r (sym q)) i
  step ih false q = λ i. without-none e b (sym q) i ∷ ih i

-- the new packing without the new entry reads as the old entries
pub left-out-reads : (k : ℕ) (e : RawEnt) (es : List RawEnt) → has es e ≡ false → rises es ≡ true → over name_of k (inserted e es) ≡ [] → Reads es (map (without e) (pack name_of k (inserted e es)))
left-out-reads k e es h r o =
    let j : joined (map (without e) (pack name_of k (inserted e es))) ≡ es = joined-without e (pack name_of k (inserted e es)) ∙ ap (without e) (pack-joined k (inserted e es) o) ∙ without-inserted e es h in
    parts-read es (map (without e) (pack name_of k (inserted e es))) j r (without-room e (pack name_of k (inserted e es)) (pack-room k (inserted e es)))

pub all-filter : (p q : RawEnt → Bool) (es : List RawEnt) → list_all q es ≡ true → list_all q (filter p es) ≡ true
all-filter p q [] h = refl
all-filter p q (x ∷ es) h =
    let r = and_cases _ _ h in
    elim (p x) as (λ b. list_all q (cond b (x ∷ filter p es) (filter p es)) ≡ true) [ true ↦ both _ _ r.0 (all-filter p q es r.1) | false ↦ all-filter p q es r.1 ]

pub rises-filter : (p : RawEnt → Bool) (es : List RawEnt) → rises es ≡ true → rises (filter p es) ≡ true
rises-filter p [] h = refl
rises-filter p (x ∷ es) h =
    let r = and_cases _ _ h in
    elim (p x) as (λ b. rises (cond b (x ∷ filter p es) (filter p es)) ≡ true) [ true ↦ both _ _ (all-filter p (before x) es r.0) (rises-filter p es r.1) | false ↦ rises-filter p es r.1 ]

-- the block of the entry without it
pub take-out : (e : RawEnt) (bs : List (List RawEnt)) → rises (joined bs) ≡ true → slice_set bs (place e bs) (without e (slice_index_or bs (place e bs) [])) ≡ map (without e) bs
take-out e [] r = refl
take-out e (b ∷ bs) r = step (take-out e bs (rises-right b (joined bs) r)) (has b e) refl where
  step : slice_set bs (place e bs) (without e (slice_index_or bs (place e bs) [])) ≡ map (without e) bs → (q : Bool) → q ≡ has b e → slice_set (b ∷ bs) (if q then 0 else suc (place e bs)) (without e (slice_index_or (b ∷ bs) (if q then 0 else suc (place e bs)) [])) ≡ without e b ∷ map (without e) bs
  step ih true q = let h = sym (map-without-none e bs (others-lack e b bs r (sym q))) in λ i. without e b ∷ h i
  step ih false q = let h = sym (without-none e b (sym q)) in λ i. h i ∷ ih i

pub has-join : (xs ys : List RawEnt) (e : RawEnt) → has (xs ++ ys) e ≡ true → (has xs e ≡ true) ⊎ (has ys e ≡ true)
has-join [] ys e h = inr h
has-join (x ∷ xs) ys e h = elim (or_cases (same e x) _ h) [
  | inl k ↦ inl (or_left _ _ k)
  | inr k ↦ elim (has-join xs ys e k) [ inl m ↦ inl (or_right (same e x) _ m) | inr m ↦ inr m ]
]

pub place-within : (e : RawEnt) (bs : List (List RawEnt)) → has (joined bs) e ≡ true → place e bs < length bs
place-within e [] h = absurd (let k : false ≡ true = h in cc)
place-within e (b ∷ bs) h = go (has-join b (joined bs) e h) (place-within e bs) (has b e) refl where
  go : (has b e ≡ true) ⊎ (has (joined bs) e ≡ true) → (has (joined bs) e ≡ true → place e bs < length bs) → (q : Bool) → q ≡ has b e → (if q then 0 else suc (place e bs)) < suc (length bs)
  go h ih true q = omega arith
  go (inl k) ih false q = absurd (not_both _ k (sym q))
  go (inr k) ih false q = let l = ih k in omega arith

pub has-inserted : (e : RawEnt) (es : List RawEnt) → has (inserted e es) e ≡ true
has-inserted e [] = or_left _ _ (same-self e)
has-inserted e (x ∷ es) = elim (before e x) as (λ q. has (if q then e ∷ x ∷ es else x ∷ inserted e es) e ≡ true) [
  | true ↦ or_left _ _ (same-self e)
  | false ↦ or_right (same e x) _ (has-inserted e es)
]

pub each-got : {X : Type 0} (P : X → Type 0) (xs : List X) (j : ℕ) (x : X) → Each P xs → slice_get xs j ≡ Some x → P x
each-got P [] j x n h = absurd (cc)
each-got P (y ∷ xs) zero x n h = let e : y ≡ x = cc in subst P e n.0
each-got P (y ∷ xs) (suc j) x n h = each-got P xs j x n.1 h

pub in-has : (es : List RawEnt) (e x : RawEnt) → In es x → same e x ≡ true → has es e ≡ true
in-has [] e x i h = absurd i
in-has (y ∷ es) e x (inl k) h = or_left _ _ (subst (λ (t : RawEnt). same e t ≡ true) (sym k) h)
in-has (y ∷ es) e x (inr k) h = or_right (same e y) _ (in-has es e x k h)

pub has-within : (es b : List RawEnt) (e : RawEnt) → Each (λ x. In es x) b → has b e ≡ true → has es e ≡ true
has-within es [] e n h = absurd (let k : false ≡ true = h in cc)
has-within es (x ∷ b) e n h = elim (or_cases (same e x) _ h) [
  | inl k ↦ in-has es e x n.0 k
  | inr k ↦ has-within es b e n.1 k
]

pub place-has : (e : RawEnt) (bs : List (List RawEnt)) → has (joined bs) e ≡ true → has (slice_index_or bs (place e bs) []) e ≡ true
place-has e [] h = h
place-has e (b ∷ bs) h = go (has-join b (joined bs) e h) (place-has e bs) (has b e) refl where
  go : (has b e ≡ true) ⊎ (has (joined bs) e ≡ true) → (has (joined bs) e ≡ true → has (slice_index_or bs (place e bs) []) e ≡ true) → (q : Bool) → q ≡ has b e → has (slice_index_or (b ∷ bs) (if q then 0 else suc (place e bs)) []) e ≡ true
  go h ih true q = sym q
  go (inl k) ih false q = absurd (not_both _ k (sym q))
  go (inr k) ih false q = ih k

pub has-without : (e : RawEnt) (b : List RawEnt) → has (without e b) e ≡ false
has-without e [] = refl
has-without e (x ∷ b) = go (has-without e b) (same e x) refl where
  go : has (without e b) e ≡ false → (q : Bool) → q ≡ same e x → has (cond (not q) (x ∷ without e b) (without e b)) e ≡ false
  go ih true q = ih
  go ih false q = or-false _ _ (sym q) ih

pub get-index : (bs : List (List RawEnt)) (j : ℕ) → j < length bs → slice_get bs j ≡ Some (slice_index_or bs j [])
get-index [] j h = absurd (omega arith)
get-index (b ∷ bs) zero h = refl
get-index (b ∷ bs) (suc j) h = get-index bs j (omega arith)

pub kept : (e : RawEnt) (b : List RawEnt) → has b e ≡ true → Some b ≡ Some (without e b) → ⊥
kept e b h g =
    let k : b ≡ without e b = cc in
    not_both (has b e) h (subst (λ (t : List RawEnt). has t e ≡ false) (sym k) (has-without e b))
