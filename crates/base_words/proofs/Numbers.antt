-- Numbers.
use Rattle.std.proofs.Common.{⊎_elim, arith, ◌≡◌, ◌/◌, ◌%◌, ℕ, refl, ◌+◌, ◌*◌, ◌<◌, ◌≤◌}
use Rattle.std.proofs.lemmas.Bool.{cases_lt, le-leb, le-ltb, lt-leb, lt-ltb}
use Rattle.std.proofs.Math.Nat.{mul-le-mul_left}
use Rattle.std.specs.Prelude.{nat_le, nat_lt}

pub same_cluster : (k p q : ℕ) → p / 4096 ≡ k → q / 4096 ≡ k → p % 4096 ≡ q % 4096 → p ≡ q
same_cluster k p q a b e = omega arith

-- a cluster is at or behind the first cluster of a run
pub from-first : (f a q : ℕ) → 1 ≤ f → nat_lt (f * a) (f * (q + 1)) ≡ nat_le a q
from-first f a q some =
    ⊎_elim (λ (h : q < a). let m : f * (q + 1) ≤ f * a = mul-le-mul_left f (omega arith) in rw (le-ltb (f * a) (f * (q + 1)) m, lt-leb a q h) refl)
    (λ (h : a ≤ q). let m : f * a ≤ f * q = mul-le-mul_left f h in rw (lt-ltb (f * a) (f * (q + 1)) (omega arith), le-leb a q h) refl)
    (cases_lt q a)

-- a cluster is before the end of a run
pub to-last : (f b q : ℕ) → 1 ≤ f → nat_lt (f * q) (f * b) ≡ nat_lt q b
to-last f b q some =
    ⊎_elim (λ (h : q < b). let m : f * (q + 1) ≤ f * b = mul-le-mul_left f (omega arith) in rw (lt-ltb (f * q) (f * b) (omega arith), lt-ltb q b h) refl)
    (λ (h : b ≤ q). let m : f * b ≤ f * q = mul-le-mul_left f h in rw (le-ltb (f * q) (f * b) m, le-ltb q b h) refl)
    (cases_lt q b)
