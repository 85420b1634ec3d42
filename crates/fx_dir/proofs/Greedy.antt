-- Greedy packing ends each block at or after any other division of the same entries.
use Rattle.std.proofs.Common.{◌≡◌, ◌≤◌, ◌+◌, not, Bool, true, false, ℕ, zero, suc, List, [], ◌∷◌, ◌++◌, Option, Some, None, filter, take, length, refl, sym, ap, subst, ◌∙◌, inl, inr, arith, cond, leb, append_assoc, append-nil, if◌then◌else◌}
use Rattle.std.specs.Str.{bytes_eq}
use Rattle.base_words.specs.Packing.{padded, cost, size, filled, unfilled, pack, over}
use Rattle.fx_dir.specs.declared.RawEnt.{RawEnt}
use Rattle.fx_dir.specs.Lists.{Each, joined}
use Rattle.fx_dir.specs.Entries.{rises, has, fresh}
use Rattle.fx_dir.specs.Writing.{name_of}
use Rattle.fx_dir.proofs.Numbers.{leb_yes, leb_says}
use Rattle.fx_dir.proofs.Meeting.{met}
use Rattle.fx_dir.proofs.Order.{is_true_or, bytes_is}
use Rattle.fx_dir.proofs.Cover.{division, rises-left, later, fresh-all, met-more, append-same}

-- an entry costs no more than with another in front of it
pub cost-skip : (last : Option (List ℕ)) (e f : RawEnt) → cost last f.name ≤ cost last e.name + cost (Some e.name) f.name
unfolding cost
cost-skip None e f = elim (is_true_or (bytes_eq e.name f.name)) [
  | inl t ↦ (let n : e.name ≡ f.name = bytes_is e.name f.name t in let p : padded e.name ≡ padded f.name = ap padded n in rw t (omega arith))
  | inr ne ↦ rw ne (omega arith)
]
cost-skip (Some n) e f = elim (is_true_or (bytes_eq n f.name)) [
  | inl t ↦ rw t (some_first (bytes_eq n e.name) (bytes_eq e.name f.name))
  | inr ne ↦ rw ne (some_other ne (bytes_eq n e.name) refl)
] where
  some_first : (p q : Bool) → 8 ≤ (if p then 8 else 14 + padded e.name) + (if q then 8 else 14 + padded f.name)
  some_first true q = omega arith
  some_first false q = omega arith

  second : (q : Bool) → q ≡ bytes_eq e.name f.name → 14 + padded f.name ≤ (14 + padded e.name) + (if q then 8 else 14 + padded f.name)
  second true h = let n : e.name ≡ f.name = bytes_is e.name f.name (sym h) in let p : padded e.name ≡ padded f.name = ap padded n in omega arith
  second false h = omega arith

  some_other : bytes_eq n f.name ≡ false → (p : Bool) → p ≡ bytes_eq n e.name → 14 + padded f.name ≤ (if p then 8 else 14 + padded e.name) + (if bytes_eq e.name f.name then 8 else 14 + padded f.name)
  some_other ne false h = second (bytes_eq e.name f.name) refl
  some_other ne true h =
      let m : n ≡ e.name = bytes_is n e.name (sym h) in
      let k : bytes_eq e.name f.name ≡ false = subst (λ (t : List ℕ). bytes_eq t f.name ≡ false) m ne in
      rw k (omega arith)

size-skip : (last : Option (List ℕ)) (e : RawEnt) (es : List RawEnt) → size name_of last es ≤ cost last e.name + size name_of (Some e.name) es
size-skip last e [] = omega arith
size-skip last e (f ∷ es) = let h = cost-skip last e f in omega arith

-- fewer entries have no more bytes
pub size-filter : (p : RawEnt → Bool) (last : Option (List ℕ)) (es : List RawEnt) → size name_of last (filter p es) ≤ size name_of last es
size-filter p last [] = omega arith
size-filter p last (e ∷ es) = elim (p e) as (λ b. size name_of last (cond b (e ∷ filter p es) (filter p es)) ≤ cost last e.name + size name_of (Some e.name) es) [
  | true ↦ (let h = size-filter p (Some e.name) es in omega arith)
  | false ↦ (let h = size-filter p last es in let k = size-skip last e es in omega arith)
]

size-tail : (last : Option (List ℕ)) (z u : List RawEnt) → size name_of last u ≤ size name_of last (z ++ u)
size-tail last [] u = omega arith
size-tail last (e ∷ z) u = let h = size-tail last z u in let k = size-skip last e (z ++ u) in omega arith

pub fill-parts : (last : Option (List ℕ)) (used : ℕ) (es : List RawEnt) → filled name_of last used es ++ unfilled name_of last used es ≡ es
fill-parts last used [] = refl
fill-parts last used (e ∷ es) = elim (leb (used + cost last e.name) 510) as (λ b. (if b then e ∷ filled name_of (Some e.name) (used + cost last e.name) es else []) ++ (if b then unfilled name_of (Some e.name) (used + cost last e.name) es else e ∷ es) ≡ e ∷ es) [
  | true ↦ λ i. e ∷ fill-parts (Some e.name) (used + cost last e.name) es i
  | false ↦ refl
]

-- what fits goes in
fill-front : (u y : List RawEnt) (last : Option (List ℕ)) (used : ℕ) → used + size name_of last u ≤ 510 → (g : List RawEnt) × (filled name_of last used (u ++ y) ≡ u ++ g)
fill-front [] y last used h = (filled name_of last used y, refl)
fill-front (e ∷ u) y last used h =
    let t : leb (used + cost last e.name) 510 ≡ true = leb_yes (used + cost last e.name) 510 (omega arith) in
    let r = fill-front u y (Some e.name) (used + cost last e.name) (omega arith) in
    (r.0, rw t (let k : filled name_of (Some e.name) (used + cost last e.name) (u ++ y) ≡ u ++ r.0 = r.1 in λ i. e ∷ k i))

fill-room : (last : Option (List ℕ)) (used : ℕ) (es : List RawEnt) → used ≤ 510 → used + size name_of last (filled name_of last used es) ≤ 510
fill-room last used [] h = omega arith
fill-room last used (e ∷ es) h = step (fill-room (Some e.name) (used + cost last e.name) es) (leb (used + cost last e.name) 510) refl where
  step : (used + cost last e.name ≤ 510 → used + cost last e.name + size name_of (Some e.name) (filled name_of (Some e.name) (used + cost last e.name) es) ≤ 510) → (b : Bool) → b ≡ leb (used + cost last e.name) 510 → used + size name_of last (if b then e ∷ filled name_of (Some e.name) (used + cost last e.name) es else []) ≤ 510
  step ih true t = let k : used + cost last e.name ≤ 510 = leb_says _ _ (sym t) in let j = ih k in omega arith
  step ih false t = omega arith

pub pack-room : (k : ℕ) (es : List RawEnt) → Each (λ b. size name_of None b ≤ 510) (pack name_of k es)
pack-room zero es = tt
pack-room (suc k) es = (let h = fill-room None 0 es (omega arith) in omega arith, pack-room k (unfilled name_of None 0 es))

pub pack-parts : (k : ℕ) (es : List RawEnt) → joined (pack name_of k es) ++ over name_of k es ≡ es
pack-parts zero es = refl
pack-parts (suc k) es =
    let f = filled name_of None 0 es in
    let r = unfilled name_of None 0 es in
    append_assoc f (joined (pack name_of k r)) (over name_of k r) ∙ ap (λ (v : List RawEnt). f ++ v) (pack-parts k r) ∙ fill-parts None 0 es

pub pack-length : (k : ℕ) (es : List RawEnt) → length (pack name_of k es) ≡ k
pack-length zero es = refl
pack-length (suc k) es = ap suc (pack-length k (unfilled name_of None 0 es))

pub take-pack : (j k : ℕ) (es : List RawEnt) → j ≤ k → take j (pack name_of k es) ≡ pack name_of j es
take-pack zero k es h = refl
take-pack (suc j) zero es h = absurd (omega arith)
take-pack (suc j) (suc k) es h = λ i. filled name_of None 0 es ∷ take-pack j k (unfilled name_of None 0 es) (omega arith) i

-- one block more: what the packing has reached stays ahead
step-ahead : (d z w y b : List RawEnt) → fresh d b ++ y ≡ z ++ w → size name_of None b ≤ 510 → (v : List RawEnt) × ((d ++ z) ++ filled name_of None 0 w ≡ (d ++ fresh d b) ++ v)
step-ahead d z w y b e n = elim (division (fresh d b) y z w e) [
  | inl s ↦ (
      let u = s.0 in
      let few : size name_of None (fresh d b) ≤ size name_of None b = size-filter (λ e. not (has d e)) None b in
      let few2 : size name_of None (z ++ u) ≤ size name_of None b = subst (λ (v : List RawEnt). size name_of None v ≤ size name_of None b) s.1 few in
      let t = size-tail None z u in
      let k : 0 + size name_of None u ≤ 510 = omega arith in
      let f = fill-front u y None 0 k in
      let f1 : filled name_of None 0 w ≡ u ++ f.0 = subst (λ (v : List RawEnt). filled name_of None 0 v ≡ u ++ f.0) (sym s.2) f.1 in
      (f.0, rw (f1, s.1) (simp append_assoc))
      )
  | inr s ↦ (s.0 ++ filled name_of None 0 w, rw (s.1) (simp append_assoc))
]

moved-on : (start f p end m v : List RawEnt) → start ++ f ≡ end → end ++ p ≡ m ++ v → start ++ (f ++ p) ≡ m ++ v
moved-on start f p end m v h k = sym (append_assoc start f p) ∙ ap (λ (t : List RawEnt). t ++ p) h ∙ k

pub ends-after : (j : ℕ) (bs : List (List RawEnt)) (d z w : List RawEnt) → met d bs ≡ d ++ (z ++ w) → Each (λ b. size name_of None b ≤ 510) bs → (v : List RawEnt) × ((d ++ z) ++ joined (pack name_of j w) ≡ met d (take j bs) ++ v)
ends-after zero bs d z w h n = (z, append-nil (d ++ z))
ends-after (suc j) [] d z w h n = (z ++ joined (pack name_of (suc j) w), append_assoc d z (joined (pack name_of (suc j) w)))
ends-after (suc j) (b ∷ bs) d z w h n =
    let x = fresh d b in
    let m = met-more (d ++ x) bs in
    let y = m.0 in
    let e : x ++ y ≡ z ++ w = append-same d (x ++ y) (z ++ w) (sym (append_assoc d x y) ∙ sym m.1 ∙ h) in
    let s = step-ahead d z w y b e n.0 in
    let f = filled name_of None 0 w in
    let r = unfilled name_of None 0 w in
    let g1 : d ++ (z ++ w) ≡ ((d ++ z) ++ f) ++ r = subst (λ (v : List RawEnt). d ++ (z ++ v) ≡ ((d ++ z) ++ f) ++ r) (fill-parts None 0 w) (simp append_assoc) in
    let g2 : ((d ++ z) ++ f) ++ r ≡ ((d ++ x) ++ s.0) ++ r = ap (λ (v : List RawEnt). v ++ r) s.1 in
    let g : d ++ (z ++ w) ≡ (d ++ x) ++ (s.0 ++ r) = g1 ∙ g2 ∙ append_assoc (d ++ x) s.0 r in
    let ih = ends-after j bs (d ++ x) s.0 r (h ∙ g) n.1 in
    (ih.0, moved-on (d ++ z) f (joined (pack name_of j r)) ((d ++ x) ++ s.0) (met (d ++ x) (take j bs)) ih.0 s.1 ih.1)

-- blocks without doubles
pub met-joined : (d : List RawEnt) (bs : List (List RawEnt)) → rises (d ++ joined bs) ≡ true → met d bs ≡ d ++ joined bs
met-joined d [] r = sym (append-nil d)
met-joined d (b ∷ bs) r =
    let r1 : rises ((d ++ b) ++ joined bs) ≡ true = rw (append_assoc d b (joined bs)) r in
    let e : fresh d b ≡ b = fresh-all d b (later d b (rises-left (d ++ b) (joined bs) r1)) in
    subst (λ (v : List RawEnt). met (d ++ v) bs ≡ d ++ (b ++ joined bs)) (sym e) (met-joined (d ++ b) bs r1 ∙ append_assoc d b (joined bs))

pub met-append : (d : List RawEnt) (xs ys : List (List RawEnt)) → met d (xs ++ ys) ≡ met (met d xs) ys
met-append d [] ys = refl
met-append d (b ∷ xs) ys = met-append (d ++ fresh d b) xs ys
