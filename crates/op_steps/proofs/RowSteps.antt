-- The write of an owner's quota row is a step, and the lock Q guards it.
use Rattle.std.proofs.Common.{◌≡◌, ◌/◌, ◌%◌, ◌<◌, ◌++◌, ℕ, List, [], ◌∷◌, Option, Some, None, map, slice_set, refl, sym, ap, subst, ◌∙◌, inl, inr, arith}
use Rattle.std.specs.Prelude.{flat_map}
use Rattle.base_words.specs.Fields.{Block}
use Rattle.fx_quota.specs.declared.types.Row.{Row}
use Rattle.fx_quota.specs.Rows.{row_in}
use Rattle.plain_cat.specs.declared.ids.Uic.{Uic}
use Rattle.plain_cat.specs.declared.history.Stage.{Stage}
use Rattle.plain_cat.specs.declared.cat.Cat.{Cat}
use Rattle.plain_cat.specs.declared.cat.QuotaRow.{QuotaRow}
use Rattle.plain_rules.specs.Lookups.{row_of}
use Rattle.base_words.specs.Lists.{Has}
use Rattle.vol_spell.specs.Owners.{Owners}
use Rattle.vol_spell.specs.Spread.{blocks_at}
use Rattle.vol_spell.proofs.Moving.{moves_compose}
use Rattle.vol_parts.specs.declared.geometry.Geometry.{Geometry}
use Rattle.vol_parts.specs.declared.geometry.Part.TheVariants.{Header, Quota}
use Rattle.vol_parts.specs.Parts.{part_of}
use Rattle.vol_parts.specs.Volumes.{rows_in}
use Rattle.vol_parts.specs.Catalogues.{rows_sorted}
use Rattle.vol_spell.specs.Reading.{owner_at, quota_places}
use Rattle.vol_spell.specs.Spelling.{Spells}
use Rattle.vol_spell.proofs.Parts.{part_there}
use Rattle.vol_spell.proofs.Viewing.{parts_stay}
use Rattle.vol_spell.specs.Rows.{IsInRange, IsRowChange, row_for, with_changed}
use Rattle.vol_spell.proofs.RowOrder.{quota_changed, unchanged, sorted-changed}
use Rattle.vol_spell.proofs.RowKinds.{row_spelt}
use Rattle.vol_spell.proofs.QuotaBlocks.{quota_count, block_inside}
use Rattle.vol_under.specs.Chains.{End, IsStep}
use Rattle.vol_under.specs.Guards.{guard_by, IsCommandMove}
use Rattle.op_law.specs.declared.need.PlanWrite.{PlanWrite}
use Rattle.op_law.specs.Laws.{planned, AreNamed}
use Rattle.op_law.proofs.Naming.{under_lock, TouchesNoHeader}
use Rattle.op_law.specs.Writing.{Held}
use Rattle.op_law.specs.Quotas.{row_place, row_write, changed_write, owner_write}
use Rattle.vol_spell.specs.Rows.{block_with}
use Rattle.vol_spell.specs.Rows.{is_row_of}
use Rattle.lock_db.specs.declared.name.LockName.TheVariants.{Q}
use Rattle.op_steps.specs.Chained.{Chain, StepsOf, StageOf, after_writes, StandsOn, FilesStay}
use Rattle.op_steps.specs.RowWrites.{row_writes, RowSteps, RowGuards}
use Rattle.op_steps.proofs.RowPlaces.{no_row, found_row}

pub row_guards : RowGuards
unfolding owner_write
row_guards g bs base own x owner change s out node locks spelt held = by (row_place (is_row_of owner) (blocks_at bs (quota_places g))) refl where
  by : (o : Option ℕ) → row_place (is_row_of owner) (blocks_at bs (quota_places g)) ≡ o → AreNamed node locks g own (changed_write g (blocks_at bs (quota_places g)) change s out o)
  by None e w t = absurd t
  by (Some j) e w (inr t) = absurd t
  by (Some j) e w (inl same) =
      let found = found_row owner (blocks_at bs (quota_places g)) j e in
      let part : part_of g w.lbn ≡ Some (Quota (j / 16)) = ap (λ (v : PlanWrite). part_of g v.lbn) (sym same) ∙ part_there g base own x spelt (Quota (j / 16)) (block_inside g bs j found.0) in
      under_lock node locks g own Q w held (ap (λ (v : PlanWrite). v.lock) (sym same)) (ap (λ p. guard_by p (owner_at g own w.lbn)) part)

-- it is to no header
pub row_no_header : (g : Geometry) (bs base : List Block) (own : Owners) (x : Cat) (owner : Uic) (change : Row → Row) (s : Stage) (out : Held) → Spells g base own x → TouchesNoHeader g (row_writes g bs owner change s out)
unfolding owner_write
row_no_header g bs base own x owner change s out spelt = by (row_place (is_row_of owner) (blocks_at bs (quota_places g))) refl where
  by : (o : Option ℕ) → row_place (is_row_of owner) (blocks_at bs (quota_places g)) ≡ o → TouchesNoHeader g (changed_write g (blocks_at bs (quota_places g)) change s out o)
  by None e w t i at = t
  by (Some j) e w (inr t) i at = t
  by (Some j) e w (inl same) i at =
      let found = found_row owner (blocks_at bs (quota_places g)) j e in
      let part : part_of g w.lbn ≡ Some (Quota (j / 16)) = ap (λ (v : PlanWrite). part_of g v.lbn) (sym same) ∙ part_there g base own x spelt (Quota (j / 16)) (block_inside g bs j found.0) in
      let both : Some (Quota (j / 16)) ≡ Some (Header i) = sym part ∙ at in
      absurd (cc)

-- a catalogue in which no row is the owner's stays
same_rows : (owner : Uic) (change : Row → Row) (rows : QuotaRow → QuotaRow) (is : IsRowChange change rows) (x : Cat) (rs : List Row) → x.quota ≡ rows_sorted rs → (Has (map (λ r. r.uic) rs) owner.0 → ⊥) → with_changed owner rows x ≡ x
same_rows owner change rows is x rs e away =
    ap (λ (q : List QuotaRow). record x { quota = q }) (ap (map (quota_changed owner rows)) e ∙ sym (sorted-changed owner change rows is rs) ∙ ap rows_sorted (unchanged owner change rows is rs away) ∙ sym e)

module _ (end : End) (k : Chain) (owner : Uic) (change : Row → Row) (rows : QuotaRow → QuotaRow) (s : Stage) (out : Held) (ws : List PlanWrite) (x : Cat) (bs : List Block) (own : Owners)
    (on : StandsOn k out x bs own) (is : IsRowChange change rows) (range : (r : QuotaRow) → row_of owner x.quota ≡ Some r → IsInRange (change (row_for r))) (stage : StageOf k s (with_changed owner rows x)) where
  abbrev g : Geometry
  g = k.geometry

  abbrev seen : List Block
  seen = blocks_at bs (quota_places g)

  -- what is left to do behind these writes
  abbrev Rest : List PlanWrite → Type 0
  Rest vs = StandsOn k out (with_changed owner rows x) (after_writes vs bs) own → FilesStay g bs (after_writes vs bs) → StepsOf end k ws (after_writes vs bs) own

  without_row : row_place (is_row_of owner) seen ≡ None → Rest [] → StepsOf end k ws bs own
  without_row e rest =
      let same = same_rows owner change rows is x (flat_map rows_in seen) on.spelt.rows.quota (no_row owner seen e) in
      rest (subst (λ (c : Cat). StandsOn k out c bs own) (sym same) on) (λ i number. record { header = refl; told = refl; body = refl })

  module _ (j : ℕ) (e : row_place (is_row_of owner) seen ≡ Some j) where
    abbrev write : PlanWrite
    write = row_write g seen j (change (row_in (block_with seen j) (j % 16))) s out

    abbrev after : List Block
    after = slice_set bs write.lbn write.block

    inside : j / 16 < g.cluster
    inside = block_inside g bs j (found_row owner seen j e).0

    part : part_of g write.lbn ≡ Some (Quota (j / 16))
    part = part_there g bs own x on.spelt (Quota (j / 16)) inside

    spelt : Spells g after own (with_changed owner rows x)
    spelt =
        let found = found_row owner seen j e in
        let count = quota_count g bs in
        row_spelt g bs own x owner j change rows on.spelt (omega arith) found.1 is range

    step : IsStep g k.node k.cmd k.locks k.cat k.stock (planned write) bs own own (with_changed owner rows x)
    step = record { stage = stage; spelt = spelt; moves = (moves_compose (IsCommandMove k.node k.locks)).still own; outs = on.outs }

    with_row : Rest (write ∷ []) → StepsOf end k (write ∷ ws) bs own
    with_row rest = (own, with_changed owner rows x, step, rest (record { spelt = step.spelt; outs = on.outs }) (λ i number. parts_stay g bs own x i write.lbn (Quota (j / 16)) write.block on.spelt number part (λ m t f. absurd (cc))))

  by_place : (o : Option ℕ) → row_place (is_row_of owner) seen ≡ o → Rest (changed_write g seen change s out o) → StepsOf end k (changed_write g seen change s out o ++ ws) bs own
  by_place None e rest = without_row e rest
  by_place (Some j) e rest = with_row j e rest

pub row_steps : (end : End) → RowSteps end
unfolding owner_write
row_steps end k owner change rows s out ws x bs own on is range stage rest =
    by_place end k owner change rows s out ws x bs own on is range stage (row_place (is_row_of owner) (blocks_at bs (quota_places k.geometry))) refl rest
