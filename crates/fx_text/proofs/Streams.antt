-- What several reads take together, and several writes add.
use Rattle.std.proofs.Common.{◌≡◌, ◌+◌, ◌-◌, ◌≤◌, ℕ, List, ◌++◌, length, take, drop, slice_range, subst, Option, None, Some, sym, ap, ◌∙◌, arith, length-append, length-take-le}
use Rattle.std.proofs.Math.Seq.{drop-append_seam, take-add}
use Rattle.std.proofs.KnownBytes.{Appends-trans}
use Rattle.std.proofs.lemmas.List.{take_rest}
use Rattle.std.specs.Io.KnownBytes.{Appends, Consumes}
use Rattle.fx_text.specs.Streams.{IsRest, AppendsStart}

-- so far a source lost these bytes, at most `limit` of them, and its count did not fall
pub record HasRead (old new : Option (List ℕ)) (before now : ℕ) (all : List ℕ) (limit : ℕ) : Type 0 where
  pub taken : Consumes old new all
  pub later : before ≤ now
  pub within : length all ≤ limit

-- so far a sink took the first `at` of these bytes, and its count did not fall
pub record HasWritten (old new : Option (List ℕ)) (before now : ℕ) (bytes : List ℕ) (at : ℕ) : Type 0 where
  pub begun : Appends old new (take at bytes)
  pub later : before ≤ now
  pub within : at ≤ length bytes

-- what is left after bytes were taken is the end
pub IsRest-consumed : (old new : Option (List ℕ)) (bs : List ℕ) → Consumes old new bs → IsRest old new
IsRest-consumed None new bs p = tt
IsRest-consumed (Some xs) None bs p = absurd p
IsRest-consumed (Some xs) (Some ys) bs p =
    let n : length xs - length ys ≡ length bs = omega (arith, ap length p, length-append bs ys) in
    sym (ap (λ k. drop k xs) n ∙ ap (drop (length bs)) p ∙ drop-append_seam bs ys)

-- what was written so far is first ones of the bytes
pub AppendsStart-begun : (old new : Option (List ℕ)) (bytes : List ℕ) (at : ℕ) → at ≤ length bytes → Appends old new (take at bytes) → AppendsStart old new bytes
AppendsStart-begun None new bytes at h p = tt
AppendsStart-begun (Some xs) None bytes at h p = absurd p
AppendsStart-begun (Some xs) (Some ys) bytes at h p =
    let n : length ys - length xs ≡ at = omega (arith, ap length p, length-append xs (take at bytes), length-take-le at bytes h) in
    p ∙ ap (λ k. xs ++ take k bytes) (sym n)

-- a write of the bytes from `at` on took n of them
pub Appends-more : (a b c : Option (List ℕ)) (bytes : List ℕ) (at n : ℕ) → Appends a b (take at bytes) → Appends b c (take n (slice_range bytes at (length bytes))) → Appends a c (take (at + n) bytes)
Appends-more a b c bytes at n p q =
    let rest : slice_range bytes at (length bytes) ≡ drop at bytes = take_rest bytes at in
    subst (Appends a c) (ap (λ l. take at bytes ++ take n l) rest ∙ sym (take-add at n bytes)) (Appends-trans a b c _ _ p q)
