-- What a command searches for is counted.
use Rattle.std.proofs.Common.{◌≡◌, ◌≤◌, ◌<◌, ◌+◌, ◌-◌, ◌*◌, ◌/◌, ℕ, Bool, false, Result, Ok, Err, sym, ◌∙◌, arith}
use Rattle.std.specs.Prelude.{OnErr}
use Rattle.plain_rules.specs.Lookups.{header_most, file_most}
use Rattle.plain_rules.proofs.Usages.{product_le}
use Rattle.plain_cat.specs.declared.command.Cmd.{Cmd}
use Rattle.op_law.specs.declared.seen.Seen.{Seen}
use Rattle.op_law.specs.Knows.{clusters_wanted, wants_number}
use Rattle.core_step.specs.Ready.{WantsSpace}

-- the clusters of one header have no more blocks than a volume
pub blocks_fit : (b c k : ℕ) → 1 ≤ c → c ≤ 16 → (b + (c - 1)) / c ≡ k → k ≤ header_most → 65536 < b → ⊥
blocks_fit b c k from to e few many =
    let p : c * ((b + (c - 1)) / c) ≤ 16 * file_most = product_le c ((b + (c - 1)) / c) to (omega arith) in
    absurd (omega arith)

-- a command that wants no clusters and no number searches for nothing
pub wants_none : (seen : Seen) (x : Cmd) (k : ℕ) (b : Bool) → WantsSpace seen x k b → (clusters_wanted seen.geometry.cluster x ≡ 0) × (wants_number seen x ≡ false) → ⊥
wants_none seen x k b w z = w.some (sym w.clusters_are ∙ z.0, sym w.number_is ∙ z.1)

pub always_err : {A E : Type 0} (r : Result A E) (P : Type 0) → P → OnErr r P
always_err (Ok a) P p = tt
always_err (Err e) P p = p
