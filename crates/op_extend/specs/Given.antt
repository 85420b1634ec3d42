-- The clusters that a command is given, and a number or none.
use Rattle.std.specs.Prelude.{◌≡◌, ℕ, Bool, true, List, Option, length}
use Rattle.op_law.specs.declared.need.Need.{Need}
use Rattle.op_law.specs.declared.seeing.Rest.{Rest}
use Rattle.op_law.specs.Events.{Events, Space, has_number}
use Rattle.op_law.specs.Behind.{goes_on_by}
use Rattle.op_extend.specs.declared.given.Given.{Given}
use Rattle.op_extend.specs.declared.given.Given.TheVariants as given

-- behind the clusters and the number
abbrev pub behind_given : (List ℕ → Option ℕ → Events) → Rest → Space → Given → Need
behind_given next rest space given.Space = goes_on_by (next space.clusters space.number) rest space
behind_given next rest space (given.Next need) = need

-- so many were given, and a number if one is wanted
pub record AreGiven (clusters : ℕ) (wanted : Bool) (space : Space) : Type 0 where
  pub count : length space.clusters ≡ clusters
  pub number : has_number wanted space.number ≡ true

abbrev pub AreWanted : ℕ → Bool → Space → Given → Type 0
AreWanted clusters wanted space given.Space = AreGiven clusters wanted space
AreWanted clusters wanted space (given.Next need) = Unit {0}
