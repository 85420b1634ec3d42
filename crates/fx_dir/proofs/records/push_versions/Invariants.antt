use Rattle.std.proofs.Common.{◌≡◌, ◌+◌, ◌*◌, ℕ, drop}
use Rattle.fx_dir.specs.Records.{versions_in}
use Rattle.fx_dir.specs.Pieces.{behind}
use Rattle.fx_dir.proofs.records.push_versions.Given as goal

abbrev pub invariant-loop-k : goal.invariant-loop-k
invariant-loop-k l = (n : ℕ) → n + l.k ≡ l.count → behind l.initial.list.items (versions_in l.head l.count l.bytes) ≡ behind l.list.items (versions_in l.head n (drop (8 * l.k) l.bytes))
