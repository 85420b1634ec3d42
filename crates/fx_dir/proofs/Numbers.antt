-- What tests of numbers say.
use Rattle.std.proofs.Common.{◌≡◌, ◌≢◌, ◌≤◌, ◌<◌, true, false, ℕ, arith, eqb, leb, ltb}
use Rattle.std.proofs.lemmas.Bool.Decides.{nat_tests}

pub leb_yes : (a b : ℕ) → a ≤ b → leb a b ≡ true
leb_yes a b h = grind (arith, nat_tests)

pub leb_no : (a b : ℕ) → b < a → leb a b ≡ false
leb_no a b h = grind (arith, nat_tests)

pub leb_says : (a b : ℕ) → leb a b ≡ true → a ≤ b
leb_says a b h = grind (arith, nat_tests)

pub ltb_yes : (a b : ℕ) → a < b → ltb a b ≡ true
ltb_yes a b h = grind (arith, nat_tests)

pub ltb_no : (a b : ℕ) → ltb a b ≡ false → b ≤ a
ltb_no a b h = grind (arith, nat_tests)

pub ltb_says : (a b : ℕ) → ltb a b ≡ true → a < b
ltb_says a b h = grind (arith, nat_tests)

pub eqb_yes : (a b : ℕ) → a ≡ b → eqb a b ≡ true
eqb_yes a b h = grind (arith, nat_tests)

pub eqb_no : (a b : ℕ) → a ≢ b → eqb a b ≡ false
eqb_no a b h = grind (arith, nat_tests)
