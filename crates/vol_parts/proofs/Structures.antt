-- Blocks of fixed parts.
use Rattle.std.proofs.Common.{arith, false, ◌≡◌, ◌<◌, ℕ}
use Rattle.vol_parts.specs.Catalogues.{is_structure}
use Rattle.std.proofs.lemmas.Bool.Decides.{nat_tests}

pub not_structure : (n : ℕ) → 11 < n → is_structure n ≡ false
not_structure n above = grind (arith, nat_tests)
