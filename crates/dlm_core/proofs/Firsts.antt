-- The first message that passes a test.
use Rattle.std.proofs.Common.{◌≡◌, ◌<◌, ◌≤◌, ℕ, zero, suc, Bool, true, false, List, [], ◌∷◌, Some, None, find, take, length, get_or, refl, arith, cond, ap, sym, ◌∙◌, if◌then◌else◌}
use Rattle.std.specs.List.{remove}
use Rattle.dlm_core.specs.declared.messages.Message.{Message}
use Rattle.dlm_core.specs.States.{past_first}

pub find-at : (p : Message → Bool) (xs : List Message) (i : ℕ) (m : Message) → find p (take i xs) ≡ None → i < length xs → m ≡ get_or xs i m → p m ≡ true → find p xs ≡ Some m
find-at p [] i m n l e t = absurd (omega arith)
find-at p (x ∷ xs) zero m n l e t = let is : m ≡ x = e in rw (← is, t) refl
find-at p (x ∷ xs) (suc i) m n l e t =
    (elim (p x) as (λ b. cond b (Some x) (find p (take i xs)) ≡ None → cond b (Some x) (find p xs) ≡ Some m) [ true ↦ λ g. cc | false ↦ λ g. find-at p xs i m g (omega arith) e t ]) n

pub past-at : (p : Message → Bool) (xs : List Message) (i : ℕ) (m : Message) → find p (take i xs) ≡ None → i < length xs → m ≡ get_or xs i m → p m ≡ true → past_first p xs ≡ remove xs i
past-at p [] i m n l e t = absurd (omega arith)
past-at p (x ∷ xs) zero m n l e t = let is : m ≡ x = e in rw (← is, t) refl
past-at p (x ∷ xs) (suc i) m n l e t =
    (elim (p x) as (λ b. cond b (Some x) (find p (take i xs)) ≡ None → (if b then xs else x ∷ past_first p xs) ≡ x ∷ remove xs i) [ true ↦ λ g. cc | false ↦ λ g. ap (λ (ys : List Message). x ∷ ys) (past-at p xs i m g (omega arith) e t) ]) n

pub find-more : (p : Message → Bool) (xs : List Message) (i : ℕ) (m : Message) → find p (take i xs) ≡ None → i < length xs → m ≡ get_or xs i m → p m ≡ false → find p (take (suc i) xs) ≡ None
find-more p [] i m n l e t = absurd (omega arith)
find-more p (x ∷ xs) zero m n l e t = let is : m ≡ x = e in let f : p x ≡ false = ap p (sym is) ∙ t in rw f refl
find-more p (x ∷ xs) (suc i) m n l e t =
    (elim (p x) as (λ b. cond b (Some x) (find p (take i xs)) ≡ None → cond b (Some x) (find p (take (suc i) xs)) ≡ None) [ true ↦ λ g. cc | false ↦ λ g. find-more p xs i m g (omega arith) e t ]) n

pub find-all : (p : Message → Bool) (xs : List Message) (i : ℕ) → find p (take i xs) ≡ None → length xs ≤ i → find p xs ≡ None
find-all p [] i n l = refl
find-all p (x ∷ xs) zero n l = absurd (omega arith)
find-all p (x ∷ xs) (suc i) n l =
    (elim (p x) as (λ b. cond b (Some x) (find p (take i xs)) ≡ None → cond b (Some x) (find p xs) ≡ None) [ true ↦ λ g. cc | false ↦ λ g. find-all p xs i g (omega arith) ]) n

pub past-none : (p : Message → Bool) (xs : List Message) → find p xs ≡ None → past_first p xs ≡ xs
past-none p [] n = refl
past-none p (x ∷ xs) n =
    (elim (p x) as (λ b. cond b (Some x) (find p xs) ≡ None → (if b then xs else x ∷ past_first p xs) ≡ x ∷ xs) [ true ↦ λ g. cc | false ↦ λ g. ap (λ (ys : List Message). x ∷ ys) (past-none p xs g) ]) n
