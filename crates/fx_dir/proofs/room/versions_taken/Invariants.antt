use Rattle.std.proofs.Common.{◌≡◌, ◌+◌, ◌*◌, ℕ, List, drop}
use Rattle.std.specs.Prelude.{IsSome}
use Rattle.fx_dir.specs.Records.{name_in, versions_in}
use Rattle.fx_dir.specs.Moves.{key}
use Rattle.fx_dir.specs.Walk.{walked_of, walked, read_in}
use Rattle.fx_dir.proofs.RoomStreams.{VersionsLeft}
use Rattle.fx_dir.proofs.room.versions_taken.Given as goal

abbrev pub invariant-loop-k : goal.invariant-loop-k
invariant-loop-k l = (n : ℕ) → n + l.k ≡ l.count → (head : List ℕ) → name_in head ≡ l.own → IsSome (versions_in head l.count l.bytes)
    → VersionsLeft (key l.name l.ver) (walked (key l.name l.ver) (walked_of l.w) (read_in (versions_in head l.count l.bytes))) (walked_of l.now) (versions_in head n (drop (8 * l.k) l.bytes))
