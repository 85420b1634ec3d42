-- The numbers of the seats.
use Rattle.std.proofs.Common.{◌≡◌, ◌+◌, ◌++◌, ◌∙◌, ℕ, zero, suc, List, [], ◌∷◌, map, ap, sym, subst, arith}
use Rattle.std.specs.Prelude.{All}
use Rattle.std.proofs.lemmas.List.{map-append}
use Rattle.std.proofs.lemmas.List.Elements.{All-push}
use Rattle.std.specs.List.{range_with_len}

range_grows : (a n : ℕ) → range_with_len a (suc n) ≡ range_with_len a n ++ (a + n) ∷ []
range_grows a zero = let e : a ≡ a + 0 = omega arith in ap (λ (k : ℕ). k ∷ []) e
range_grows a (suc n) =
    let e : a + 1 + n ≡ a + suc n = omega arith in
    ap (λ (l : List ℕ). a ∷ l) (subst (λ (k : ℕ). range_with_len (a + 1) (suc n) ≡ range_with_len (a + 1) n ++ k ∷ []) e (range_grows (a + 1) n))

-- numbers in a row, and the one that comes next
pub range_more : (a n : ℕ) → range_with_len a (n + 1) ≡ range_with_len a n ++ (a + n) ∷ []
range_more a n =
    let e : suc n ≡ n + 1 = omega arith in
    subst (λ (k : ℕ). range_with_len a k ≡ range_with_len a n ++ (a + n) ∷ []) e (range_grows a n)

-- a list of seats with one seat more, whose number comes next
pub all_more : {X : Type 0} (xs ys : List X) (x : X) (P : X → Type 0) → ys ≡ xs ++ x ∷ [] → All P xs → P x → All P ys
all_more xs ys x P e all this = subst (λ zs. All P zs) (sym e) (All-push P xs x all this)

pub numbers_more : {X : Type 0} (xs ys : List X) (x : X) (number : X → ℕ) (made : ℕ) → ys ≡ xs ++ x ∷ [] → map number xs ≡ range_with_len 1 made → number x ≡ made + 1 → map number ys ≡ range_with_len 1 (made + 1)
numbers_more xs ys x number made e before this =
    let next : number x ≡ 1 + made = omega arith in
    ap (map number) e ∙ map-append number xs (x ∷ []) ∙ ap (λ (l : List ℕ). l ++ number x ∷ []) before ∙ ap (λ (k : ℕ). range_with_len 1 made ++ k ∷ []) next ∙ sym (range_more 1 made)
