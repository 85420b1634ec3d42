-- When a file needs a new header.
use Rattle.std.proofs.Common.{◌≡◌, ◌+◌, ◌-◌, ◌≤◌, ◌∙◌, ℕ, Bool, true, false, nat_lt, ap, arith}
use Rattle.std.proofs.lemmas.Bool.Decides.{nat_tests}
use Rattle.plain_rules.specs.Lookups.{header_most, extra, needs_header}

-- the clusters of one header need no other
extra_none : (k : ℕ) → k ≤ header_most → extra k ≡ 0
extra_none k few = omega arith

-- growth within one header needs no new one
pub no_header : (k more : ℕ) → k + more ≤ header_most → needs_header k more ≡ false
no_header k more few = ap (λ (i : ℕ). nat_lt (extra k) i) (extra_none (k + more) few) ∙ above (extra k) where
  above : (i : ℕ) → nat_lt i 0 ≡ false
  above i = grind (arith, nat_tests)

-- growth by at most the clusters of one header needs at most one
pub one_header : (k more : ℕ) → more ≤ header_most → extra (k + more) ≤ extra k + 1
one_header k more few = omega arith
