-- Calls that were adding to a list when memory ran out.
use Rattle.std.proofs.Common.{◌≡◌, ◌++◌, ℕ, List, Result, Ok, Err, OnErr, take, drop, sym}
use Rattle.std.proofs.lemmas.List.{take-append-drop}
use Rattle.base_words.specs.Lists.{HoldsPart}

-- what holds in any case
pub at_error : {T E P : Type 0} (r : Result T E) → P → OnErr r P
at_error (Ok x) p = tt
at_error (Err e) p = p

-- as many were added as a loop had turns
pub so_far : {A : Type 0} (old all new : List A) (i : ℕ) → new ≡ old ++ take i all → HoldsPart old all new
so_far old all new i e = record { part = take i all; rest = drop i all; beginning = sym (take-append-drop i all); held = e }
