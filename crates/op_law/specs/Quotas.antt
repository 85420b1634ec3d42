-- The quota blocks: the rows that they tell, the write of one row, and the commands on quotas.
use Rattle.std.specs.Prelude.{◌+◌, ◌-◌, ◌*◌, ◌/◌, ◌%◌, ℕ, Bool, List, [], ◌∷◌, Option, Some, None, is_none, length, flat_map}
use Rattle.std.specs.List.{range_with_len, position}
use Rattle.base_words.specs.Fields.{Block}
use Rattle.fx_quota.specs.declared.types.Row.{Row}
use Rattle.fx_quota.specs.Rows.{row_in, row_put}
use Rattle.lock_db.specs.declared.name.LockName.TheVariants.{Q}
use Rattle.plain_cat.specs.declared.ids.Uic.{Uic}
use Rattle.plain_cat.specs.declared.mode.Mode.{Mode}
use Rattle.plain_cat.specs.declared.mode.Mode.TheVariants.{PR, PW}
use Rattle.plain_cat.specs.declared.history.Stage.{Stage}
use Rattle.plain_cat.specs.declared.history.Stage.TheVariants as stage
use Rattle.plain_cat.specs.declared.reply.Reply.TheVariants as reply
use Rattle.plain_cat.specs.declared.reply.Refusal.TheVariants as refusal
use Rattle.plain_cat.specs.declared.cat.QuotaRow.{QuotaRow}
use Rattle.plain_rules.specs.Lookups.{row_of}
use Rattle.vol_parts.specs.declared.geometry.Geometry.{Geometry}
use Rattle.vol_parts.specs.declared.geometry.Part.TheVariants.{Quota}
use Rattle.vol_parts.specs.Volumes.{rows_in}
use Rattle.vol_parts.specs.Catalogues.{rows_sorted}
use Rattle.vol_spell.specs.Reading.{quota_places}
use Rattle.vol_spell.specs.Places.{place_of}
use Rattle.op_law.specs.declared.need.PlanWrite.{PlanWrite}
use Rattle.op_law.specs.Events.{Events, Take, Make}
use Rattle.op_law.specs.Rows.{answers, refuses, look_all}
use Rattle.op_law.specs.Writing.{Held, empty_handed, write_at, plan_of}
use Rattle.vol_spell.specs.Rows.{block_with, row_seen, is_row_of}

-- Q in a mode, all quota blocks, and what comes next by them
abbrev pub through_quota : Geometry → Mode → (List Block → Events) → Events
through_quota g mode next = Take Q mode (look_all Q (quota_places g) next)

-- the active rows that these quota blocks tell, in order of owner
abbrev pub rows_seen : List Block → List QuotaRow
rows_seen qs = rows_sorted (flat_map rows_in qs)

-- the first row that passes a test
unfoldable pub row_place : (Option Row → Bool) → List Block → Option ℕ
row_place test qs = position (λ j. test (row_seen qs j)) (range_with_len 0 (16 * length qs))

-- the write that makes row j active with these values
abbrev pub row_write : Geometry → List Block → ℕ → Row → Stage → Held → PlanWrite
row_write g qs j r s out = write_at Q (place_of g (Quota (j / 16))) (row_put (block_with qs j) (j % 16) r) s out

-- the fields of row j, changed
abbrev pub changed_write : Geometry → List Block → (Row → Row) → Stage → Held → Option ℕ → List PlanWrite
changed_write g qs change s out None = []
changed_write g qs change s out (Some j) = row_write g qs j (change (row_in (block_with qs j) (j % 16))) s out ∷ []

-- the write that changes an owner's row, where the owner has one
unfoldable pub owner_write : Geometry → List Block → Uic → (Row → Row) → Stage → Held → List PlanWrite
owner_write g qs owner change s out = changed_write g qs change s out (row_place (is_row_of owner) qs)

-- a row whose usage is k more, or less
abbrev pub row_charged : ℕ → Row → Row
row_charged k r = record r { usage = r.usage + k }

abbrev pub row_discharged : ℕ → Row → Row
row_discharged k r = record r { usage = r.usage - k }

-- ---- QUOTASET

-- a row with another quota and overdraft
abbrev pub row_allowed : ℕ → ℕ → Row → Row
row_allowed quota over r = record r { quota = quota; over = over }

abbrev pub first_row : Uic → ℕ → ℕ → Row
first_row owner quota over = record { uic = owner.0; usage = 0; quota = quota; over = over }

abbrev pub quota_kept : List PlanWrite → Events
quota_kept ws = Make (plan_of ws reply.QuotaKept)

-- the owner's row is set, or else the first row that is not active
abbrev pub quota_set_in : Geometry → List Block → Uic → ℕ → ℕ → Option ℕ → Option ℕ → Events
quota_set_in g qs owner quota over (Some j) free = quota_kept (changed_write g qs (row_allowed quota over) stage.Done empty_handed (Some j))
quota_set_in g qs owner quota over None (Some j) = quota_kept (row_write g qs j (first_row owner quota over) stage.Done empty_handed ∷ [])
quota_set_in g qs owner quota over None None = refuses refusal.QuotaFull

unfoldable pub quota_set_events : Geometry → Uic → ℕ → ℕ → Events
quota_set_events g owner quota over = through_quota g PW (λ qs.
    quota_set_in g qs owner quota over (row_place (is_row_of owner) qs) (row_place (λ r. is_none r) qs))

-- ---- QUOTASHOW

abbrev pub usage_or_none : Option QuotaRow → Events
usage_or_none None = refuses refusal.NoQuota
usage_or_none (Some r) = answers (reply.Usage r.usage r.quota r.over)

unfoldable pub quota_show_events : Geometry → Uic → Events
quota_show_events g owner = through_quota g PR (λ qs. usage_or_none (row_of owner (rows_seen qs)))
