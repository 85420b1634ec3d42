-- Numbers of one octal digit.
use Rattle.std.proofs.Common.{◌≡◌, ◌+◌, ◌/◌, ◌%◌, ◌<◌, ℕ, true, nat_lt, [], ◌∷◌, refl, arith}
use Rattle.std.proofs.lemmas.Bool.{lt-ltb}
use Rattle.std.specs.Fmt.{digits}
use Rattle.plain_texts.specs.Names.{octal}

pub octal-digit : (n : ℕ) → n < 8 → octal n ≡ (48 + n) ∷ []
unfolding digits
octal-digit n h =
    let none : n / 8 ≡ 0 = omega arith in
    let all : n % 8 ≡ n = omega arith in
    let small : nat_lt n 10 ≡ true = lt-ltb n 10 (omega arith) in
    rw (none, all, small) refl
