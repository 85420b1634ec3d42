-- What a node has outside files and bitmaps: which locks it holds then, how many file numbers that are, and which locks who is refused
-- for want of space holds.
use Rattle.std.specs.Prelude.{◌≡◌, ◌≢◌, ◌⊎◌, ◌+◌, ℕ, Some}
use Rattle.lock_db.specs.declared.name.LockName.TheVariants.{X, V}
use Rattle.plain_cat.specs.declared.mode.Mode.TheVariants.{CR, PW, EX}
use Rattle.base_words.specs.Lists.{Has}
use Rattle.vol_spell.specs.Owners.{nothing}
use Rattle.op_law.specs.Laws.{held_in, most_outside}
use Rattle.core_space.specs.Filling.{spare_numbers}
use Rattle.core_state.specs.Worlds.{NodeState, Plain, node_at}
use Rattle.core_state.specs.Goods.{held_by}
use Rattle.core_state.specs.Deaths.{outside_now}

-- it has nothing outside, or holds X in CR or more, or V in PW
abbrev pub IsOutsideLocked : Plain → ℕ → NodeState → Type 0
IsOutsideLocked w n s = (outside_now s ≡ nothing) ⊎ (Has (held_in CR (held_by w.locks n s)) X ⊎ Has (held_in PW (held_by w.locks n s)) V)

-- the most file numbers that a node has outside: the spare ones in its stock, and those of a write of its plan
abbrev pub most_numbers : ℕ
most_numbers = spare_numbers + most_outside

-- node n holds X in EX and V in PW, and no other node has anything outside
pub record IsSoleOutside (w : Plain) (n : ℕ) (s : NodeState) : Type 0 where
  pub alone : Has (held_in EX (held_by w.locks n s)) X
  pub writer : Has (held_in PW (held_by w.locks n s)) V
  pub others : (m : ℕ) (q : NodeState) → m ≢ n → node_at w.nodes m ≡ Some q → outside_now q ≡ nothing
