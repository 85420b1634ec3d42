-- What is said of the two sides of an answer.
use Rattle.std.proofs.Common.{◌≡◌, Result, Ok, Err, IfOk, IfErr, subst}
use Rattle.std.specs.Prelude.{OnErr}

-- what is said of an error
pub on_err : {A E : Type 0} (r : Result A E) (e : E) (P : Type 0) → r ≡ Err e → OnErr r P → P
on_err r e P is h = subst (λ x. OnErr x P) is h

pub same_err : {A E : Type 0} (r : Result A E) (f k : E) → r ≡ Err f → r ≡ Err k → f ≡ k
same_err r f k is other = cc

pub err_is : {A E : Type 0} (r : Result A E) (e : E) (P : E → Type 0) → r ≡ Err e → IfErr r P → P e
err_is r e P is h = subst (λ x. IfErr x P) is h

pub if_err : {A E : Type 0} (r : Result A E) (P Q : E → Type 0) → ((x : E) → P x → Q x) → IfErr r P → IfErr r Q
if_err (Ok x) P Q f h = h
if_err (Err e) P Q f h = f e h

pub if_ok : {A E : Type 0} (r : Result A E) (P Q : A → Type 0) → ((x : A) → P x → Q x) → IfOk r P → IfOk r Q
if_ok (Ok x) P Q f h = f x h
if_ok (Err e) P Q f h = h

pub ok_has : {A E : Type 0} (r : Result A E) (a : A) (P : A → Type 0) → r ≡ Ok a → IfOk r P → P a
ok_has r a P is h = subst (λ x. IfOk x P) is h

pub both_ok : {A E : Type 0} (r : Result A E) (P : Type 0) (Q : A → Type 0) → IfOk r (λ x. P) → IfOk r Q → IfOk r (λ x. P × Q x)
both_ok (Ok a) P Q p q = (p, q)
both_ok (Err e) P Q p q = p
