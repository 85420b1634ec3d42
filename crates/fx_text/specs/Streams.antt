-- What reads take from a source and writes add to a sink, where their bytes are told.
use Rattle.std.specs.Prelude.{◌≡◌, ◌-◌, ℕ, List, ◌++◌, length, take, drop, Option, Some, None, ⊤}

-- what is left of told bytes is their end
abbrev pub IsRest : Option (List ℕ) → Option (List ℕ) → Type 0
IsRest None new = ⊤
IsRest (Some xs) None = ⊥
IsRest (Some xs) (Some ys) = ys ≡ drop (length xs - length ys) xs

-- told bytes stay, and some first ones of `bytes` follow them
abbrev pub AppendsStart : Option (List ℕ) → Option (List ℕ) → List ℕ → Type 0
AppendsStart None new bytes = ⊤
AppendsStart (Some xs) None bytes = ⊥
AppendsStart (Some xs) (Some ys) bytes = ys ≡ xs ++ take (length ys - length xs) bytes

-- a stream of std, and how many calls of it failed
pub record Counted (S : Type 0) : Type 0 where
  pub stream : S
  pub faults : ℕ

-- what a stream tells, and nothing where there is none
abbrev pub told_by : {S : Type 0} → (S → Option (List ℕ)) → Option S → Option (List ℕ)
told_by tells None = None
told_by tells (Some s) = tells s
