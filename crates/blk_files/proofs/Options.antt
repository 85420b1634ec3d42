-- Facts on what may be told.
use Rattle.std.proofs.Common.{◌≡◌, refl, subst}
use Rattle.std.specs.Prelude.{Option, None, Some, IfSome, option_map, Bool, true, false}
use Rattle.std.specs.Bool.{OnTrue}
use Rattle.std.proofs.lemmas.Bool.{false≢true}

pub if_some : {X : Type 0} (o : Option X) (P : X → Type 0) → ((x : X) → o ≡ Some x → P x) → IfSome o P
if_some None P h = tt
if_some (Some x) P h = h x refl

pub of_some : {X : Type 0} (o : Option X) (P : X → Type 0) (x : X) → IfSome o P → o ≡ Some x → P x
of_some o P x h e = subst (λ p. IfSome p P) e h

-- a fact on what a function gives
pub if_mapped : {X Y : Type 0} (f : X → Y) (o : Option X) (P : Y → Type 0) → ((x : X) → o ≡ Some x → P (f x)) → IfSome (option_map f o) P
if_mapped f None P h = tt
if_mapped f (Some x) P h = h x refl

pub of_true : (b : Bool) {P : Type 0} → OnTrue b P → b ≡ true → P
of_true true h e = h
of_true false h e = absurd (false≢true e)
