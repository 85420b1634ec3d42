use Rattle.std.proofs.Common.{◌≡◌, ◌+◌, ◌*◌, ℕ, List, drop}
use Rattle.std.specs.Prelude.{IsSome}
use Rattle.fx_dir.specs.Records.{versions_in}
use Rattle.fx_dir.specs.Wanted.{is_of}
use Rattle.fx_dir.proofs.Wanted.{VersionsLeft}
use Rattle.fx_dir.proofs.searching.version_in.Given as goal

abbrev pub invariant-loop-k : goal.invariant-loop-k
invariant-loop-k l = (n : ℕ) → n + l.k ≡ l.count → (head : List ℕ) → IsSome (versions_in head l.count l.bytes) → VersionsLeft (λ e. is_of l.ver e.ver) (versions_in head l.count l.bytes) (versions_in head n (drop (8 * l.k) l.bytes))
