-- What each step keeps is kept over plays and turns in rotation.
use Rattle.std.proofs.Common.{ℕ, zero, suc, true, false, cond, List, [], ◌∷◌, Option, Some, None, take, sym, subst, inl, inr}
use Rattle.core_state.specs.Worlds.{Plain}
use Rattle.core_state.specs.Deaths.{after_step}
use Rattle.core_state.specs.Events.{is_over}
use Rattle.run_engine.specs.Walks.{after_play, played, next_from, Rotation, with_turn, after_next, rotation, Walk, IsPartOfWalk}

module _ (P : Plain → Type 0) (keeps : (w : Plain) (n : ℕ) → P w → P (after_step w n)) where
  over_play : (w : Plain) (n : ℕ) → P w → P (after_play w n)
  unfolding after_play
  over_play w n p = elim (is_over w n) as (λ t. P (cond t w (after_step w n))) [ true ↦ p | false ↦ keeps w n p ]

  pub over_plays : (ns : List ℕ) (w : Plain) → P w → P (played ns w)
  over_plays [] w p = p
  over_plays (n ∷ ns) w p = over_plays ns (after_play w n) (over_play w n p)

  over_with : (r : Rotation) (o : Option ℕ) → P r.world → P (with_turn r o).world
  over_with r None p = p
  over_with r (Some n) p = keeps r.world n p

  over_next : (r : Rotation) → P r.world → P (after_next r).world
  unfolding after_next
  over_next r p = over_with r (next_from r.world r.from) p

  over_rotation : (k : ℕ) (r : Rotation) → P r.world → P (rotation k r).world
  unfolding rotation
  over_rotation zero r p = p
  over_rotation (suc k) r p = over_next (rotation k r) (over_rotation k r p)

  pub over_walk : (old : Plain) (ns : List ℕ) (new : Plain) → Walk old ns new → P old → P new
  over_walk old ns new walk p = subst P (sym walk.1) (over_rotation walk.0 (record { world = played ns old; from = 1 }) (over_plays ns old p))

  -- and over a part of a walk
  pub over_part : (old : Plain) (ns : List ℕ) (new : Plain) → IsPartOfWalk old ns new → P old → P new
  over_part old ns new (inl part) p = subst P (sym part.1) (over_plays (take part.0 ns) old p)
  over_part old ns new (inr walk) p = over_walk old ns new walk p
