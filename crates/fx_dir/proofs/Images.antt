-- The blocks of a directory after each number of writes.
use Rattle.std.proofs.Common.{◌≡◌, ◌==◌, ◌-◌, ◌≤◌, ◌<◌, ◌⊎◌, Bool, true, false, ℕ, zero, suc, List, [], ◌∷◌, ◌++◌, take, drop, length, slice_set, refl, sym, ap, subst, ◌∙◌, inl, inr, arith, if◌then◌else◌, append_assoc, length-append}
use Rattle.std.specs.Str.{bytes_eq}
use Rattle.base_words.specs.Fields.{Block}
use Rattle.fx_dir.specs.declared.Move.{Move}
use Rattle.fx_dir.specs.Moves.{written, rising, falling, less_last}
use Rattle.fx_dir.proofs.Order.{eqb_eq, bytes_is}

pub written-append : (ws vs : List Move) (bs : List Block) → written (ws ++ vs) bs ≡ written vs (written ws bs)
written-append [] vs bs = refl
written-append (w ∷ ws) vs bs = written-append ws vs (slice_set bs (w.vbn - 1) w.block)

pub set-at : (pre : List Block) (i : ℕ) (a b : Block) (xs : List Block) → i ≡ length pre → slice_set (pre ++ a ∷ xs) i b ≡ pre ++ b ∷ xs
set-at [] zero a b xs e = refl
set-at [] (suc i) a b xs e = absurd (omega arith)
set-at (p ∷ pre) zero a b xs e = absurd (omega arith)
set-at (p ∷ pre) (suc i) a b xs e = λ k. p ∷ set-at pre i a b xs (omega arith) k

-- one more in front
pub snoc : (pre : List Block) (a : Block) (xs : List Block) → (pre ++ a ∷ []) ++ xs ≡ pre ++ a ∷ xs
snoc pre a xs = append_assoc pre (a ∷ []) xs

pub length-snoc : (pre : List Block) (a : Block) (i : ℕ) → i ≡ suc (length pre) → suc i ≡ suc (length (pre ++ a ∷ []))
length-snoc pre a i e = omega (arith, length-append pre (a ∷ []))

take-nil : (n : ℕ) → take {A = Move} n [] ≡ []
take-nil zero = refl
take-nil (suc n) = refl

-- after n of the writes first to last, the first j blocks are new
pub rising-state : (xs bs pre : List Block) (i n : ℕ) → length xs ≡ length bs → i ≡ suc (length pre) → (j : ℕ) × (j ≤ length bs) × (written (take n (rising i xs bs)) (pre ++ xs) ≡ pre ++ (take j bs ++ drop j xs))
rising-state [] [] pre i n len e = (0, omega arith, rw (take-nil n) refl)
rising-state [] (b ∷ bs) pre i n len e = absurd (omega arith)
rising-state (a ∷ xs) [] pre i n len e = absurd (omega arith)
rising-state (a ∷ xs) (b ∷ bs) pre i n len e = step (λ m. rising-state xs bs (pre ++ b ∷ []) (suc i) m (omega arith) (length-snoc pre b i e)) n (bytes_eq a b) refl where
  step : ((m : ℕ) → (j : ℕ) × (j ≤ length bs) × (written (take m (rising (suc i) xs bs)) ((pre ++ b ∷ []) ++ xs) ≡ (pre ++ b ∷ []) ++ (take j bs ++ drop j xs))) → (m : ℕ) → (q : Bool) → q ≡ bytes_eq a b
      → (j : ℕ) × (j ≤ suc (length bs)) × (written (take m (if q then rising (suc i) xs bs else record { vbn = i; block = b } ∷ rising (suc i) xs bs)) (pre ++ a ∷ xs) ≡ pre ++ (take j (b ∷ bs) ++ drop j (a ∷ xs)))
  step ih m true q =
      let r = ih m in
      let j = r.0 in
      let alike : a ≡ b = bytes_is a b (sym q) in
      let h : written (take m (rising (suc i) xs bs)) (pre ++ b ∷ xs) ≡ pre ++ b ∷ (take j bs ++ drop j xs) = ap (written (take m (rising (suc i) xs bs))) (sym (snoc pre b xs)) ∙ r.2 ∙ snoc pre b (take j bs ++ drop j xs) in
      (suc j, (let l : j ≤ length bs = r.1 in omega arith), subst (λ (t : Block). written (take m (rising (suc i) xs bs)) (pre ++ t ∷ xs) ≡ pre ++ b ∷ (take j bs ++ drop j xs)) (sym alike) h)
  step ih zero false q = (0, omega arith, refl)
  step ih (suc m) false q =
      let r = ih m in
      let j = r.0 in
      (suc j, (let l : j ≤ length bs = r.1 in omega arith), ap (written (take m (rising (suc i) xs bs))) (set-at pre (i - 1) a b xs (omega arith) ∙ sym (snoc pre b xs)) ∙ r.2 ∙ snoc pre b (take j bs ++ drop j xs))

pub rising-whole : (xs bs pre : List Block) (i : ℕ) → length xs ≡ length bs → i ≡ suc (length pre) → written (rising i xs bs) (pre ++ xs) ≡ pre ++ bs
rising-whole [] [] pre i len e = refl
rising-whole [] (b ∷ bs) pre i len e = absurd (omega arith)
rising-whole (a ∷ xs) [] pre i len e = absurd (omega arith)
rising-whole (a ∷ xs) (b ∷ bs) pre i len e = step (rising-whole xs bs (pre ++ b ∷ []) (suc i) (omega arith) (length-snoc pre b i e)) (bytes_eq a b) refl where
  step : written (rising (suc i) xs bs) ((pre ++ b ∷ []) ++ xs) ≡ (pre ++ b ∷ []) ++ bs → (q : Bool) → q ≡ bytes_eq a b → written (if q then rising (suc i) xs bs else record { vbn = i; block = b } ∷ rising (suc i) xs bs) (pre ++ a ∷ xs) ≡ pre ++ b ∷ bs
  step ih true q =
      let alike : a ≡ b = bytes_is a b (sym q) in
      subst (λ (t : Block). written (rising (suc i) xs bs) (pre ++ t ∷ xs) ≡ pre ++ b ∷ bs) (sym alike) (ap (written (rising (suc i) xs bs)) (sym (snoc pre b xs)) ∙ ih ∙ snoc pre b bs)
  step ih false q = ap (written (rising (suc i) xs bs)) (set-at pre (i - 1) a b xs (omega arith) ∙ sym (snoc pre b xs)) ∙ ih ∙ snoc pre b bs

pub falling-whole : (xs bs pre : List Block) (i : ℕ) → length xs ≡ length bs → i ≡ suc (length pre) → written (falling i xs bs) (pre ++ xs) ≡ pre ++ bs
falling-whole [] [] pre i len e = refl
falling-whole [] (b ∷ bs) pre i len e = absurd (omega arith)
falling-whole (a ∷ xs) [] pre i len e = absurd (omega arith)
falling-whole (a ∷ xs) (b ∷ bs) pre i len e = step (falling-whole xs bs (pre ++ a ∷ []) (suc i) (omega arith) (length-snoc pre a i e)) (bytes_eq a b) refl where
  step : written (falling (suc i) xs bs) ((pre ++ a ∷ []) ++ xs) ≡ (pre ++ a ∷ []) ++ bs → (q : Bool) → q ≡ bytes_eq a b → written (if q then falling (suc i) xs bs else falling (suc i) xs bs ++ record { vbn = i; block = b } ∷ []) (pre ++ a ∷ xs) ≡ pre ++ b ∷ bs
  step ih true q =
      let alike : a ≡ b = bytes_is a b (sym q) in
      ap (written (falling (suc i) xs bs)) (sym (snoc pre a xs)) ∙ ih ∙ snoc pre a bs ∙ ap (λ (t : Block). pre ++ t ∷ bs) alike
  step ih false q =
      let h : written (falling (suc i) xs bs) (pre ++ a ∷ xs) ≡ pre ++ a ∷ bs = ap (written (falling (suc i) xs bs)) (sym (snoc pre a xs)) ∙ ih ∙ snoc pre a bs in
      written-append (falling (suc i) xs bs) (record { vbn = i; block = b } ∷ []) (pre ++ a ∷ xs) ∙ ap (λ (t : List Block). slice_set t (i - 1) b) h ∙ set-at pre (i - 1) a b bs (omega arith)

take-snoc : (n : ℕ) (ws : List Move) (w : Move) → (take n (ws ++ w ∷ []) ≡ take n ws) ⊎ (take n (ws ++ w ∷ []) ≡ ws ++ w ∷ [])
take-snoc zero ws w = inl refl
take-snoc (suc n) [] w = inr (λ i. w ∷ take-nil n i)
take-snoc (suc n) (v ∷ ws) w = elim (take-snoc n ws w) [ inl e ↦ inl (λ i. v ∷ e i) | inr e ↦ inr (λ i. v ∷ e i) ]

-- after n of the writes last to first, the first j blocks are old
pub falling-state : (xs bs pre : List Block) (i n : ℕ) → length xs ≡ length bs → i ≡ suc (length pre) → (j : ℕ) × (j ≤ length xs) × (written (take n (falling i xs bs)) (pre ++ xs) ≡ pre ++ (take j xs ++ drop j bs))
falling-state [] [] pre i n len e = (0, omega arith, rw (take-nil n) refl)
falling-state [] (b ∷ bs) pre i n len e = absurd (omega arith)
falling-state (a ∷ xs) [] pre i n len e = absurd (omega arith)
falling-state (a ∷ xs) (b ∷ bs) pre i n len e = step (falling-state xs bs (pre ++ a ∷ []) (suc i) n (omega arith) (length-snoc pre a i e)) (falling-whole xs bs (pre ++ a ∷ []) (suc i) (omega arith) (length-snoc pre a i e)) (bytes_eq a b) refl where
  step : (j : ℕ) × (j ≤ length xs) × (written (take n (falling (suc i) xs bs)) ((pre ++ a ∷ []) ++ xs) ≡ (pre ++ a ∷ []) ++ (take j xs ++ drop j bs)) → written (falling (suc i) xs bs) ((pre ++ a ∷ []) ++ xs) ≡ (pre ++ a ∷ []) ++ bs → (q : Bool) → q ≡ bytes_eq a b
      → (j : ℕ) × (j ≤ suc (length xs)) × (written (take n (if q then falling (suc i) xs bs else falling (suc i) xs bs ++ record { vbn = i; block = b } ∷ [])) (pre ++ a ∷ xs) ≡ pre ++ (take j (a ∷ xs) ++ drop j (b ∷ bs)))
  step r whole true q =
      let j = r.0 in
      (suc j, (let l : j ≤ length xs = r.1 in omega arith), ap (written (take n (falling (suc i) xs bs))) (sym (snoc pre a xs)) ∙ r.2 ∙ snoc pre a (take j xs ++ drop j bs))
  step r whole false q = elim (take-snoc n (falling (suc i) xs bs) (record { vbn = i; block = b })) [
    | inl t ↦ (
        let j = r.0 in
        (suc j, (let l : j ≤ length xs = r.1 in omega arith), ap (λ (ws : List Move). written ws (pre ++ a ∷ xs)) t ∙ ap (written (take n (falling (suc i) xs bs))) (sym (snoc pre a xs)) ∙ r.2 ∙ snoc pre a (take j xs ++ drop j bs))
        )
    | inr t ↦ (
        let h : written (falling (suc i) xs bs) (pre ++ a ∷ xs) ≡ pre ++ a ∷ bs = ap (written (falling (suc i) xs bs)) (sym (snoc pre a xs)) ∙ whole ∙ snoc pre a bs in
        (0, omega arith, ap (λ (ws : List Move). written ws (pre ++ a ∷ xs)) t ∙ written-append (falling (suc i) xs bs) (record { vbn = i; block = b } ∷ []) (pre ++ a ∷ xs) ∙ ap (λ (u : List Block). slice_set u (i - 1) b) h ∙ set-at pre (i - 1) a b bs (omega arith))
        )
  ]

-- the first writes of all but the last are first writes of all
pub less_last-prefix : (j : ℕ) (ws : List Move) (n : ℕ) → (m : ℕ) × (take n (less_last j ws) ≡ take m ws)
less_last-prefix j [] n = (n, refl)
less_last-prefix j (w ∷ []) n = elim (w.vbn == j) as (λ q. (m : ℕ) × (take n (if q then [] else w ∷ []) ≡ take m (w ∷ []))) [ true ↦ (0, take-nil n) | false ↦ (n, refl) ]
less_last-prefix j (w ∷ v ∷ ws) zero = (0, refl)
less_last-prefix j (w ∷ v ∷ ws) (suc n) = let r = less_last-prefix j (v ∷ ws) n in (suc r.0, (let e : take n (less_last j (v ∷ ws)) ≡ take r.0 (v ∷ ws) = r.1 in λ i. w ∷ e i))

set-twice : (bs : List Block) (j : ℕ) (c b : Block) → slice_set (slice_set bs j c) j b ≡ slice_set bs j b
set-twice [] j c b = refl
set-twice (x ∷ bs) zero c b = refl
set-twice (x ∷ bs) (suc j) c b = λ i. x ∷ set-twice bs j c b i

-- a last write to the block makes up for the one that is left out
pub less_last-set : (j : ℕ) (ws : List Move) (bs : List Block) (b : Block) → slice_set (written (less_last j ws) bs) (j - 1) b ≡ slice_set (written ws bs) (j - 1) b
less_last-set j [] bs b = refl
less_last-set j (w ∷ []) bs b = step (w.vbn == j) refl where
  step : (q : Bool) → q ≡ (w.vbn == j) → slice_set (written (if q then [] else w ∷ []) bs) (j - 1) b ≡ slice_set (slice_set bs (w.vbn - 1) w.block) (j - 1) b
  step true q = let e : w.vbn ≡ j = eqb_eq w.vbn j (sym q) in rw e (sym (set-twice bs (j - 1) w.block b))
  step false q = refl
less_last-set j (w ∷ v ∷ ws) bs b = less_last-set j (v ∷ ws) (slice_set bs (w.vbn - 1) w.block) b

-- what holds after each number of the writes
pub through-append : (R : List Block → Type 0) (ws vs : List Move) (bs : List Block) → ((n : ℕ) → R (written (take n ws) bs)) → ((n : ℕ) → R (written (take n vs) (written ws bs))) → (n : ℕ) → R (written (take n (ws ++ vs)) bs)
through-append R [] vs bs f g n = g n
through-append R (w ∷ ws) vs bs f g zero = f 0
through-append R (w ∷ ws) vs bs f g (suc n) = through-append R ws vs (slice_set bs (w.vbn - 1) w.block) (λ m. f (suc m)) g n

pub take-front : (n : ℕ) (ws vs : List Move) → n ≤ length ws → take n (ws ++ vs) ≡ take n ws
take-front zero ws vs h = refl
take-front (suc n) [] vs h = absurd (omega arith)
take-front (suc n) (w ∷ ws) vs h = λ i. w ∷ take-front n ws vs (omega arith) i

pub take-past : (n : ℕ) (ws : List Move) (w : Move) (vs : List Move) → length ws < n → (m : ℕ) × (take n (ws ++ w ∷ vs) ≡ (ws ++ w ∷ []) ++ take m vs)
take-past zero ws w vs h = absurd (omega arith)
take-past (suc n) [] w vs h = (n, refl)
take-past (suc n) (v ∷ ws) w vs h = let r = take-past n ws w vs (omega arith) in (r.0, (let e : take n (ws ++ w ∷ vs) ≡ (ws ++ w ∷ []) ++ take r.0 vs = r.1 in λ i. v ∷ e i))
