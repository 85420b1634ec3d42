-- What holds of a result, and more.
use Rattle.std.proofs.Common.{Result, Ok, Err}
use Rattle.std.specs.Prelude.{IfOk}

pub mapped : (A E : Type 0) (P Q : A → Type 0) (r : Result A E) → ((a : A) → P a → Q a) → IfOk r P → IfOk r Q
mapped A E P Q (Ok a) f h = f a h
mapped A E P Q (Err e) f h = h
