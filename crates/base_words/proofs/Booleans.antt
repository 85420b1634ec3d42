-- Booleans and tests of numbers.
use Rattle.std.proofs.Common.{Bool, false, refl, true, ◌≡◌, ◌||◌, arith, ◌==◌, ℕ, ◌≤◌, ◌<◌}
use Rattle.std.proofs.lemmas.Bool.Decides.{nat_tests}
use Rattle.std.specs.Prelude.{nat_le, if◌then◌else◌, not}

pub or_false : (b : Bool) → (b || false) ≡ b
or_false true = refl
or_false false = refl

pub nat_same : (a b : ℕ) → a ≡ b → (a == b) ≡ true
nat_same a b e = grind (arith, nat_tests)

pub at_most : (a b : ℕ) → a ≤ b → nat_le a b ≡ true
at_most a b e = grind (arith, nat_tests)

pub where_so : (t b : Bool) → b ≡ true → (if t then b else true) ≡ true
where_so true b e = e
where_so false b e = refl

pub not_false : (t : Bool) → not t ≡ false → t ≡ true
not_false true e = refl
not_false false e = absurd (cc)

pub above_from : (n : ℕ) → nat_le n 11 ≡ false → 11 < n
above_from n e = grind (arith, nat_tests)
