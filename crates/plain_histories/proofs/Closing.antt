-- A death closes the node's channels, and no others.
use Rattle.std.proofs.Common.{◌≡◌, ◌≤◌, inl, inr, ℕ, zero, suc, List, Option, Some, None, slice_get, slice_set, refl, sym, ap, ◌∙◌, arith}
use Rattle.plain_cat.specs.declared.command.Cmd.{Cmd}
use Rattle.plain_cat.specs.declared.history.Stage.{Stage}
use Rattle.plain_cat.specs.declared.cat.Cat.{Cat}
use Rattle.plain_cat.specs.declared.cat.Open.{Open}
use Rattle.plain_rules.specs.Lookups.{joined, channel_at, place}
use Rattle.plain_rules.specs.Answers.{IsPick}
use Rattle.plain_rules.specs.Stages.{staged}
use Rattle.plain_rules.specs.Replaying.{closed_channels, dead}
use Rattle.plain_histories.specs.Opens.{IsChannel}
use Rattle.plain_histories.specs.Moves.{switched_next, IsElsewhere}
use Rattle.plain_histories.proofs.Lists.{same_or_other, set_else, set_there}
use Rattle.plain_histories.proofs.Staging.{stage_kept}
use Rattle.plain_histories.proofs.Keeping.{stage_apart, dead_still}

-- what stands at a place that is set to nothing
set_none : (os : List (Option Open)) (i : ℕ) → joined (slice_get (slice_set os i None) i) ≡ None
set_none os i = by_item (slice_get (slice_set os i None) i) refl where
  by_item : (o : Option (Option Open)) → slice_get (slice_set os i None) i ≡ o → joined o ≡ None
  by_item None e = refl
  by_item (Some p) e = set_there os i None p e

closed_here : (n k chan : ℕ) (os : List (Option Open)) → 1 ≤ chan → chan ≤ k → joined (slice_get (closed_channels n k os) (place n chan)) ≡ None
unfolding closed_channels
closed_here n zero chan os from to = absurd (omega arith)
closed_here n (suc k) chan os from to = elim (same_or_other (place n (suc k)) (place n chan)) [
  | inl e ↦ ap (λ i. joined (slice_get (slice_set (closed_channels n k os) (place n (suc k)) None) i)) (sym e) ∙ set_none (closed_channels n k os) (place n (suc k))
  | inr ne ↦ ap joined (set_else (closed_channels n k os) (place n (suc k)) (place n chan) None ne) ∙ closed_here n k chan os from (less ne)
] where
  less : (place n (suc k) ≡ place n chan → ⊥) → chan ≤ k
  less ne = elim (same_or_other chan (suc k)) [ inl e ↦ absurd (ne (ap (place n) (sym e))) | inr far ↦ not_same chan k to far ] where
    not_same : (a b : ℕ) → a ≤ suc b → (a ≡ suc b → ⊥) → a ≤ b
    not_same a b le ne = omega arith

pub own_closed : (c : Cat) (n chan clusters : ℕ) (numbers : List ℕ) → 1 ≤ chan → chan ≤ 8 → channel_at (dead c n clusters numbers) n chan ≡ None
unfolding dead
own_closed c n chan clusters numbers from to = closed_here n 8 chan c.opens from to

pub others_left : (c d : Cat) (n m chan : ℕ) (x : Option Cmd) (s : Stage) (new : Option ℕ) (clusters : ℕ) (numbers : List ℕ) → 1 ≤ n → IsChannel m chan → (n ≡ m → ⊥) → IsElsewhere n (switched_next x) m chan
    → IsPick c new → staged c n x s new ≡ Some d → channel_at (dead d n clusters numbers) m chan ≡ channel_at c m chan
others_left c d n m chan x s new clusters numbers from own ne far pick is =
    dead_still d n m chan clusters numbers from own ne ∙ (stage_apart c d n m chan x own far (stage_kept c d n x s new pick is)).still
