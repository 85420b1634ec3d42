-- What a command that makes a file is given: clusters and a number, and the slot of that number.
use Rattle.std.specs.Prelude.{◌≡◌, ◌≤◌, ◌+◌, ◌*◌, ℕ, Bool, true, List, [], ◌∷◌, Some, is_none, length}
use Rattle.base_words.specs.Fields.{Block}
use Rattle.lock_db.specs.declared.name.LockName.TheVariants.{S}
use Rattle.plain_cat.specs.declared.ids.Uic.{Uic}
use Rattle.plain_cat.specs.declared.mode.Mode.TheVariants.{PW}
use Rattle.plain_cat.specs.declared.reply.Refusal.{Refusal}
use Rattle.plain_cat.specs.declared.reply.Refusal.TheVariants as refusal
use Rattle.plain_cat.specs.declared.cat.QuotaRow.{QuotaRow}
use Rattle.plain_rules.specs.Lookups.{row_of}
use Rattle.plain_rules.specs.Answers.{first_refusal, over_quota}
use Rattle.vol_parts.specs.declared.geometry.Geometry.{Geometry}
use Rattle.vol_spell.specs.Reading.{IsFileNumber, header_place}
use Rattle.op_law.specs.declared.need.Need.{Need}
use Rattle.op_law.specs.Events.{Events, Take, Look, Find, Space}
use Rattle.op_law.specs.Refusing.{unless_refused, if_space}
use Rattle.op_law.specs.Quotas.{through_quota, rows_seen}
use Rattle.op_law.specs.Behind.{goes_on_by, blocks_alone}
use Rattle.op_law.specs.declared.seeing.Rest.{Rest}
use Rattle.op_create.specs.declared.numbers.Given.{Given}
use Rattle.op_create.specs.declared.numbers.Given.TheVariants as given
use Rattle.op_create.specs.declared.places.Place.{Place}
use Rattle.op_create.specs.declared.places.Place.TheVariants as place

-- behind clusters and a number
abbrev pub behind_number : (List ℕ → ℕ → Events) → Rest → Space → Given → Need
behind_number next rest space (given.Number n) = goes_on_by (next space.clusters n) rest space
behind_number next rest space (given.Next need) = need

-- that number was given, and so many clusters
abbrev pub IsWanted : ℕ → Space → Given → Type 0
IsWanted clusters space (given.Number n) = (space.number ≡ Some n) × (length space.clusters ≡ clusters)
IsWanted clusters space (given.Next need) = Unit {0}

-- why an owner does not get a file of so many clusters
abbrev pub charge_refusals : Geometry → Uic → ℕ → List QuotaRow → List (Bool × Refusal)
charge_refusals g owner clusters rows =
    (is_none (row_of owner rows), refusal.NoQuota) ∷ (over_quota (row_of owner rows) (g.cluster * clusters + 1), refusal.ExQuota) ∷ []

-- the lock of a number, its slot, and what comes next by that
abbrev pub through_slot : Geometry → ℕ → (Block → Events) → Events
through_slot g n next = Take (S n) PW (Look (S n) (header_place g n) next)

-- the quota, the space, the slot of the number, and what comes next by the quota blocks, the clusters, the number and the slot
abbrev pub through_place : Geometry → Uic → ℕ → (List Block → List ℕ → ℕ → Block → Events) → Events
through_place g owner clusters next = through_quota g PW (λ quota.
    unless_refused (first_refusal (charge_refusals g owner clusters (rows_seen quota))) (Find clusters true (if_space (λ qs n. through_slot g n (next quota qs n)))))

-- behind that slot
abbrev pub behind_place : (List Block → List ℕ → ℕ → Block → Events) → Space → Place → Need
behind_place next space (place.Slot quota n slot rest) = goes_on_by (next (blocks_alone quota.now) space.clusters n slot.now) rest space
behind_place next space (place.Next need) = need

-- these are the quota blocks and the number
abbrev pub IsSlotOf : List (ℕ × Block) → ℕ → Place → Type 0
IsSlotOf quota n (place.Slot blocks number slot rest) = (blocks.now ≡ quota) × (number ≡ n)
IsSlotOf quota n (place.Next need) = Unit {0}

-- the number is one of the volume's, so many clusters were given, and these are not more than 16 quota blocks
abbrev pub IsPlace : Geometry → ℕ → Space → Place → Type 0
IsPlace g clusters space (place.Slot quota n slot rest) = (length quota.now ≤ 16) × (IsFileNumber g n × (length space.clusters ≡ clusters))
IsPlace g clusters space (place.Next need) = Unit {0}
