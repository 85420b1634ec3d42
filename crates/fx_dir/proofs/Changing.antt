-- Each write is to a block of the directory and changes it.
use Rattle.std.proofs.Common.{◌≡◌, ◌∙◌, ◌==◌, ◌-◌, ◌≤◌, Bool, true, false, ℕ, zero, suc, List, [], ◌∷◌, ◌++◌, Some, map, length, slice_get, slice_set, refl, sym, ap, subst, arith, length-append, if◌then◌else◌}
use Rattle.std.proofs.Math.ListN.{length-set}
use Rattle.std.specs.Str.{bytes_eq}
use Rattle.base_words.specs.Fields.{Block}
use Rattle.fx_dir.specs.declared.Move.{Move}
use Rattle.fx_dir.specs.Lists.{Each}
use Rattle.fx_dir.specs.Moves.{written, rising, falling, less_last, AreChanges}
use Rattle.fx_dir.proofs.Order.{bytes_is, bytes_refl, not_both}
use Rattle.fx_dir.proofs.Cover.{each-append}
use Rattle.fx_dir.proofs.Images.{set-at, snoc, length-snoc, falling-whole}

get-at : (pre : List Block) (i : ℕ) (a : Block) (xs : List Block) → i ≡ length pre → slice_get (pre ++ a ∷ xs) i ≡ Some a
get-at [] zero a xs e = refl
get-at [] (suc i) a xs e = absurd (omega arith)
get-at (p ∷ pre) zero a xs e = absurd (omega arith)
get-at (p ∷ pre) (suc i) a xs e = get-at pre i a xs (omega arith)

another : (pre : List Block) (i : ℕ) (a b : Block) (xs : List Block) → i ≡ suc (length pre) → false ≡ bytes_eq a b → (1 ≤ i) × (i ≤ length (pre ++ a ∷ xs)) × (slice_get (pre ++ a ∷ xs) (i - 1) ≡ Some b → ⊥)
another pre i a b xs e f = (omega arith, omega (arith, length-append pre (a ∷ xs)), differs) where
  differs : slice_get (pre ++ a ∷ xs) (i - 1) ≡ Some b → ⊥
  differs h =
      let k : Some a ≡ Some b = sym (get-at pre (i - 1) a xs (omega arith)) ∙ h in
      let m : a ≡ b = cc in
      not_both (bytes_eq a b) (subst (λ (t : Block). bytes_eq a t ≡ true) m (bytes_refl a)) (sym f)

pub changes-append : (ws vs : List Move) (bs : List Block) → AreChanges ws bs → AreChanges vs (written ws bs) → AreChanges (ws ++ vs) bs
changes-append [] vs bs n m = m
changes-append (w ∷ ws) vs bs n m = (n.0, changes-append ws vs (slice_set bs (w.vbn - 1) w.block) n.1 m)

pub rising-changes : (xs bs pre : List Block) (i : ℕ) → length xs ≡ length bs → i ≡ suc (length pre) → AreChanges (rising i xs bs) (pre ++ xs)
rising-changes [] bs pre i len e = tt
rising-changes (a ∷ xs) [] pre i len e = tt
rising-changes (a ∷ xs) (b ∷ bs) pre i len e = step (rising-changes xs bs (pre ++ b ∷ []) (suc i) (omega arith) (length-snoc pre b i e)) (bytes_eq a b) refl where
  step : AreChanges (rising (suc i) xs bs) ((pre ++ b ∷ []) ++ xs) → (q : Bool) → q ≡ bytes_eq a b → AreChanges (if q then rising (suc i) xs bs else record { vbn = i; block = b } ∷ rising (suc i) xs bs) (pre ++ a ∷ xs)
  step ih true q =
      let alike : a ≡ b = bytes_is a b (sym q) in
      subst (λ (t : Block). AreChanges (rising (suc i) xs bs) (pre ++ t ∷ xs)) (sym alike) (subst (λ (t : List Block). AreChanges (rising (suc i) xs bs) t) (snoc pre b xs) ih)
  step ih false q = (another pre i a b xs e q, subst (λ (t : List Block). AreChanges (rising (suc i) xs bs) t) (snoc pre b xs ∙ sym (set-at pre (i - 1) a b xs (omega arith))) ih)

pub falling-changes : (xs bs pre : List Block) (i : ℕ) → length xs ≡ length bs → i ≡ suc (length pre) → AreChanges (falling i xs bs) (pre ++ xs)
falling-changes [] bs pre i len e = tt
falling-changes (a ∷ xs) [] pre i len e = tt
falling-changes (a ∷ xs) (b ∷ bs) pre i len e = step (falling-changes xs bs (pre ++ a ∷ []) (suc i) (omega arith) (length-snoc pre a i e)) (falling-whole xs bs (pre ++ a ∷ []) (suc i) (omega arith) (length-snoc pre a i e)) (bytes_eq a b) refl where
  step : AreChanges (falling (suc i) xs bs) ((pre ++ a ∷ []) ++ xs) → written (falling (suc i) xs bs) ((pre ++ a ∷ []) ++ xs) ≡ (pre ++ a ∷ []) ++ bs → (q : Bool) → q ≡ bytes_eq a b → AreChanges (if q then falling (suc i) xs bs else falling (suc i) xs bs ++ record { vbn = i; block = b } ∷ []) (pre ++ a ∷ xs)
  step ih whole true q = subst (λ (t : List Block). AreChanges (falling (suc i) xs bs) t) (snoc pre a xs) ih
  step ih whole false q =
      let first : AreChanges (falling (suc i) xs bs) (pre ++ a ∷ xs) = subst (λ (t : List Block). AreChanges (falling (suc i) xs bs) t) (snoc pre a xs) ih in
      let h : written (falling (suc i) xs bs) (pre ++ a ∷ xs) ≡ pre ++ a ∷ bs = ap (written (falling (suc i) xs bs)) (sym (snoc pre a xs)) ∙ whole ∙ snoc pre a bs in
      changes-append (falling (suc i) xs bs) _ (pre ++ a ∷ xs) first (subst (λ (t : List Block). AreChanges (record { vbn = i; block = b } ∷ []) t) (sym h) (another pre i a b bs e q, tt))

pub less_last-changes : (j : ℕ) (ws : List Move) (bs : List Block) → AreChanges ws bs → AreChanges (less_last j ws) bs
less_last-changes j [] bs n = tt
less_last-changes j (w ∷ []) bs n = elim (w.vbn == j) as (λ q. AreChanges (if q then [] else w ∷ []) bs) [ true ↦ tt | false ↦ n ]
less_last-changes j (w ∷ v ∷ ws) bs n = (n.0, less_last-changes j (v ∷ ws) (slice_set bs (w.vbn - 1) w.block) n.1)

pub length-written : (ws : List Move) (bs : List Block) → length (written ws bs) ≡ length bs
length-written [] bs = refl
length-written (w ∷ ws) bs = length-written ws (slice_set bs (w.vbn - 1) w.block) ∙ length-set bs (w.vbn - 1) w.block

-- ---- what holds of each block that is written holds of the blocks after the writes

module _ (P : Block → Type 0) where
  set-each : (bs : List Block) (i : ℕ) (b : Block) → Each P bs → P b → Each P (slice_set bs i b)
  set-each [] i b n p = tt
  set-each (x ∷ bs) zero b n p = (p, n.1)
  set-each (x ∷ bs) (suc i) b n p = (n.0, set-each bs i b n.1 p)

  pub written-each : (ws : List Move) (bs : List Block) → Each P bs → Each (λ w. P w.block) ws → Each P (written ws bs)
  written-each [] bs n m = n
  written-each (w ∷ ws) bs n m = written-each ws (slice_set bs (w.vbn - 1) w.block) (set-each bs (w.vbn - 1) w.block n m.0) m.1

  pub rising-each : (i : ℕ) (xs bs : List Block) → Each P bs → Each (λ w. P w.block) (rising i xs bs)
  rising-each i [] bs n = tt
  rising-each i (a ∷ xs) [] n = tt
  rising-each i (a ∷ xs) (b ∷ bs) n = elim (bytes_eq a b) as (λ q. Each (λ w. P w.block) (if q then rising (suc i) xs bs else record { vbn = i; block = b } ∷ rising (suc i) xs bs)) [
    | true ↦ rising-each (suc i) xs bs n.1
    | false ↦ (n.0, rising-each (suc i) xs bs n.1)
  ]

  pub falling-each : (i : ℕ) (xs bs : List Block) → Each P bs → Each (λ w. P w.block) (falling i xs bs)
  falling-each i [] bs n = tt
  falling-each i (a ∷ xs) [] n = tt
  falling-each i (a ∷ xs) (b ∷ bs) n = elim (bytes_eq a b) as (λ q. Each (λ w. P w.block) (if q then falling (suc i) xs bs else falling (suc i) xs bs ++ record { vbn = i; block = b } ∷ [])) [
    | true ↦ falling-each (suc i) xs bs n.1
    | false ↦ each-append (λ w. P w.block) (falling (suc i) xs bs) _ (falling-each (suc i) xs bs n.1) (n.0, tt)
  ]

  pub less_last-each : (j : ℕ) (ws : List Move) → Each (λ w. P w.block) ws → Each (λ w. P w.block) (less_last j ws)
  less_last-each j [] n = tt
  less_last-each j (w ∷ []) n = elim (w.vbn == j) as (λ q. Each (λ w. P w.block) (if q then [] else w ∷ [])) [ true ↦ tt | false ↦ n ]
  less_last-each j (w ∷ v ∷ ws) n = (n.0, less_last-each j (v ∷ ws) n.1)

pub get-map : {A B : Type 0} (f : A → B) (xs : List A) (i : ℕ) (x : A) → slice_get xs i ≡ Some x → slice_get (map f xs) i ≡ Some (f x)
get-map f [] i x h = absurd (cc)
get-map f (y ∷ xs) zero x h = let e : y ≡ x = cc in ap (λ t. Some (f t)) e
get-map f (y ∷ xs) (suc i) x h = get-map f xs i x h
