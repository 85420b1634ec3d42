-- Lists of refusals with their tests: the first that holds.
use Rattle.std.proofs.Common.{◌≡◌, Bool, true, false, cond, List, [], ◌∷◌, ◌++◌, Some, None, refl}
use Rattle.plain_cat.specs.declared.reply.Refusal.{Refusal}
use Rattle.plain_rules.specs.Answers.{first_refusal}

-- where none is refused, no test holds

abbrev pub Passed : List (Bool × Refusal) → Type 0
Passed [] = Unit {0}
Passed (k ∷ ks) = (k.0 ≡ false) × Passed ks

pub passed : (ks : List (Bool × Refusal)) → first_refusal ks ≡ None → Passed ks
passed [] e = tt
passed (k ∷ ks) e = by_test k.0 refl e (passed ks) where
  by_test : (t : Bool) → k.0 ≡ t → cond t (Some k.1) (first_refusal ks) ≡ None → (first_refusal ks ≡ None → Passed ks) → (k.0 ≡ false) × Passed ks
  by_test true is h more = absurd (let f : Some k.1 ≡ None = h in cc)
  by_test false is h more = (is, more h)

-- behind refusals come the others

pub first_stays : (ks ls : List (Bool × Refusal)) (r : Refusal) → first_refusal ks ≡ Some r → first_refusal (ks ++ ls) ≡ Some r
first_stays [] ls r e = absurd (let f : None ≡ Some r = e in cc)
first_stays (k ∷ ks) ls r e = by_test k.0 e (first_stays ks ls r) where
  by_test : (t : Bool) → cond t (Some k.1) (first_refusal ks) ≡ Some r → (first_refusal ks ≡ Some r → first_refusal (ks ++ ls) ≡ Some r) → cond t (Some k.1) (first_refusal (ks ++ ls)) ≡ Some r
  by_test true h more = h
  by_test false h more = more h

pub first_goes : (ks ls : List (Bool × Refusal)) → first_refusal ks ≡ None → first_refusal (ks ++ ls) ≡ first_refusal ls
first_goes [] ls e = refl
first_goes (k ∷ ks) ls e = by_test k.0 e (first_goes ks ls) where
  by_test : (t : Bool) → cond t (Some k.1) (first_refusal ks) ≡ None → (first_refusal ks ≡ None → first_refusal (ks ++ ls) ≡ first_refusal ls) → cond t (Some k.1) (first_refusal (ks ++ ls)) ≡ first_refusal ls
  by_test true h more = absurd (let f : Some k.1 ≡ None = h in cc)
  by_test false h more = more h
