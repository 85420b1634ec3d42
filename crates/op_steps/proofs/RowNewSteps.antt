-- The write of a quota row that becomes active, as a step.
use Rattle.std.proofs.Common.{◌≡◌, ◌*◌, ◌/◌, ◌<◌, ℕ, List, ◌∷◌, Some, None, length, slice_set, sym, ap, ◌∙◌, inl, inr, arith}
use Rattle.base_words.specs.Fields.{Block}
use Rattle.fx_quota.specs.declared.types.Row.{Row}
use Rattle.plain_cat.specs.declared.history.Stage.{Stage}
use Rattle.plain_cat.specs.declared.cat.Cat.{Cat}
use Rattle.plain_rules.specs.Lookups.{row_of}
use Rattle.lock_db.specs.declared.name.LockName.TheVariants.{Q}
use Rattle.vol_spell.specs.Owners.{Owners}
use Rattle.vol_spell.specs.Spread.{blocks_at}
use Rattle.vol_spell.proofs.Moving.{moves_compose}
use Rattle.vol_parts.specs.declared.geometry.Geometry.{Geometry}
use Rattle.vol_parts.specs.declared.geometry.Part.TheVariants.{Header, Quota}
use Rattle.vol_parts.specs.Parts.{part_of}
use Rattle.vol_parts.specs.Catalogues.{quota_row}
use Rattle.vol_spell.specs.Reading.{owner_at, quota_places}
use Rattle.vol_spell.specs.Spelling.{Spells}
use Rattle.vol_spell.proofs.Parts.{part_there}
use Rattle.vol_spell.proofs.Viewing.{parts_stay}
use Rattle.vol_spell.specs.Rows.{IsInRange, with_more}
use Rattle.vol_spell.proofs.RowNew.{new_row_spelt}
use Rattle.vol_spell.proofs.QuotaBlocks.{quota_count, block_inside}
use Rattle.vol_under.specs.Chains.{End, IsStep}
use Rattle.vol_under.specs.Guards.{guard_by, IsCommandMove}
use Rattle.op_law.specs.declared.need.PlanWrite.{PlanWrite}
use Rattle.op_law.specs.Laws.{planned}
use Rattle.op_law.specs.Writing.{Held}
use Rattle.op_law.specs.Quotas.{row_write}
use Rattle.vol_spell.specs.Rows.{row_seen}
use Rattle.op_law.proofs.Naming.{under_lock, TouchesNoHeader}
use Rattle.op_steps.specs.Chained.{Chain, StepsOf, StageOf, StandsOn, FilesStay}
use Rattle.op_steps.specs.NewRows.{IsFirstFree, new_row_writes, NewRowSteps, NewRowGuards}
use Rattle.op_steps.proofs.RowNewPlaces.{free_row}

pub new_row_guards : NewRowGuards
new_row_guards g bs base own x j r s out node locks spelt free held w (inr t) = absurd t
new_row_guards g bs base own x j r s out node locks spelt free held w (inl same) =
    let found = free_row (blocks_at bs (quota_places g)) j free in
    let part : part_of g w.lbn ≡ Some (Quota (j / 16)) = ap (λ (v : PlanWrite). part_of g v.lbn) (sym same) ∙ part_there g base own x spelt (Quota (j / 16)) (block_inside g bs j found.0) in
    under_lock node locks g own Q w held (ap (λ (v : PlanWrite). v.lock) (sym same)) (ap (λ p. guard_by p (owner_at g own w.lbn)) part)

-- it is to no header
pub new_row_no_header : (g : Geometry) (bs base : List Block) (own : Owners) (x : Cat) (j : ℕ) (r : Row) (s : Stage) (out : Held) → Spells g base own x → IsFirstFree g bs j → TouchesNoHeader g (new_row_writes g bs j r s out)
new_row_no_header g bs base own x j r s out spelt free w (inr t) i at = t
new_row_no_header g bs base own x j r s out spelt free w (inl same) i at =
    let found = free_row (blocks_at bs (quota_places g)) j free in
    let part : part_of g w.lbn ≡ Some (Quota (j / 16)) = ap (λ (v : PlanWrite). part_of g v.lbn) (sym same) ∙ part_there g base own x spelt (Quota (j / 16)) (block_inside g bs j found.0) in
    let both : Some (Quota (j / 16)) ≡ Some (Header i) = sym part ∙ at in
    absurd (cc)

module _ (end : End) (k : Chain) (j : ℕ) (r : Row) (s : Stage) (out : Held) (ws : List PlanWrite) (x : Cat) (bs : List Block) (own : Owners) (on : StandsOn k out x bs own) (free : IsFirstFree k.geometry bs j)
    (none : row_of (record { 0 = r.uic }) x.quota ≡ None) (range : IsInRange r) (stage : StageOf k s (with_more (quota_row r) x)) where
  abbrev g : Geometry
  g = k.geometry

  abbrev seen : List Block
  seen = blocks_at bs (quota_places g)

  abbrev write : PlanWrite
  write = row_write g seen j r s out

  abbrev after : List Block
  after = slice_set bs write.lbn write.block

  found : (j < 16 * length seen) × (row_seen seen j ≡ None)
  found = free_row seen j free

  inside : j / 16 < g.cluster
  inside = block_inside g bs j found.0

  part : part_of g write.lbn ≡ Some (Quota (j / 16))
  part = part_there g bs own x on.spelt (Quota (j / 16)) inside

  spelt : Spells g after own (with_more (quota_row r) x)
  spelt =
      let count = quota_count g bs in
      let lt = found.0 in
      new_row_spelt g bs own x j r on.spelt (omega arith) found.1 none range

  step : IsStep g k.node k.cmd k.locks k.cat k.stock (planned write) bs own own (with_more (quota_row r) x)
  step = record { stage = stage; spelt = spelt; moves = (moves_compose (IsCommandMove k.node k.locks)).still own; outs = on.outs }

  steps : (StandsOn k out (with_more (quota_row r) x) after own → FilesStay g bs after → StepsOf end k ws after own) → StepsOf end k (write ∷ ws) bs own
  steps rest = (own, with_more (quota_row r) x, step, rest (record { spelt = spelt; outs = on.outs }) (λ i number. parts_stay g bs own x i write.lbn (Quota (j / 16)) write.block on.spelt number part (λ m t f. absurd (cc))))

pub new_row_steps : (end : End) → NewRowSteps end
new_row_steps end k j r s out ws x bs own on free none range stage rest = steps end k j r s out ws x bs own on free none range stage rest
