-- A row whose usage grows by the blocks of few clusters stays in range, since usages are near what the files cost.
use Rattle.std.proofs.Common.{◌≡◌, ◌≤◌, ◌+◌, ◌*◌, ◌∙◌, ℕ, Bool, true, false, cond, List, [], ◌∷◌, Some, None, length, ap, subst, arith}
use Rattle.std.specs.Prelude.{◌==◌, nat_le, sum_by}
use Rattle.std.specs.List.{list_all}
use Rattle.std.proofs.Math.Nat.{mul-le-mul_left, mul-le-mul_right, div-mul-le_self}
use Rattle.std.proofs.lemmas.Bool.{and_parts, leb-true}
use Rattle.std.proofs.lemmas.List.Sums.{sum_by-cons}
use Rattle.base_words.specs.Fields.{Block}
use Rattle.plain_cat.specs.declared.ids.Uic.{Uic}
use Rattle.plain_cat.specs.declared.cat.Cat.{Cat}
use Rattle.plain_cat.specs.declared.cat.Slot.{Slot}
use Rattle.plain_cat.specs.declared.cat.Slot.TheVariants.{Used, Free}
use Rattle.plain_cat.specs.declared.cat.QuotaRow.{QuotaRow}
use Rattle.plain_rules.specs.Lookups.{clusters_in, row_of, header_most}
use Rattle.plain_rules.specs.Changes.{cost}
use Rattle.plain_rules.specs.Accounts.{share, charge}
use Rattle.vol_spell.specs.Owners.{Owners}
use Rattle.vol_parts.specs.declared.geometry.Geometry.{Geometry}
use Rattle.vol_spell.specs.Reading.{total_of}
use Rattle.vol_spell.specs.Spelling.{Spells}
use Rattle.vol_spell.proofs.Adds.{adds}
use Rattle.op_law.specs.Knows.{is_charged}
use Rattle.op_law.specs.Quotas.{row_charged}
use Rattle.vol_spell.specs.Rows.{IsInRange, row_for}
use Rattle.vol_spell.proofs.RowRanges.{rows_in_range}

-- ---- what the files of an owner cost

share_le : (c : Cat) (owner : Uic) (s : Slot) → share c owner s ≤ c.factor * clusters_in s + 1
share_le c owner (Free seq) = omega arith
share_le c owner (Used f) = by_test (owner.0 == f.owner.0) where
  by_test : (t : Bool) → cond t (cost c f.clusters) 0 ≤ c.factor * f.clusters + 1
  by_test true = omega arith
  by_test false = omega arith

shares_le : (c : Cat) (owner : Uic) (xs : List Slot) → sum_by (share c owner) xs ≤ c.factor * sum_by clusters_in xs + length xs
shares_le c owner [] = omega arith
shares_le c owner (s ∷ xs) =
    let a = sum_by-cons (share c owner) s xs in
    let b = sum_by-cons clusters_in s xs in
    let here = share_le c owner s in
    let rest = shares_le c owner xs in
    let more : c.factor * sum_by clusters_in (s ∷ xs) ≡ c.factor * clusters_in s + c.factor * sum_by clusters_in xs = ap (λ z. c.factor * z) b ∙ (let e : c.factor * (clusters_in s + sum_by clusters_in xs) ≡ c.factor * clusters_in s + c.factor * sum_by clusters_in xs = omega arith in e) in
    omega arith

module _ (g : Geometry) (bs : List Block) (own : Owners) (c : Cat) (s : Spells g bs own c) where
  -- not more than the blocks of the volume, and one for each number
  charge_le : (owner : Uic) → charge c owner ≤ 69632
  charge_le owner =
      let geometry = s.counts.geometry in
      let all : total_of g ≡ _ = (adds g bs own c s).all in
      let files : sum_by clusters_in c.files ≤ total_of g = omega arith in
      let shares = shares_le c owner c.files in
      let factor = s.constants.factor in
      let slots = s.counts.slots in
      let numbers = geometry.files_to in
      let top = geometry.blocks_to in
      let up : g.cluster * sum_by clusters_in c.files ≤ g.cluster * total_of g = mul-le-mul_left g.cluster files in
      let whole : total_of g * g.cluster ≤ g.blocks = div-mul-le_self g.blocks g.cluster in
      let turn : g.cluster * total_of g ≡ total_of g * g.cluster = omega arith in
      let same : c.factor * sum_by clusters_in c.files ≡ g.cluster * sum_by clusters_in c.files = ap (λ z. z * sum_by clusters_in c.files) factor in
      omega arith

  -- ---- the row

  usage_le : (owner : Uic) (rows : List QuotaRow) (r : QuotaRow) → list_all (is_charged c) rows ≡ true → row_of owner rows ≡ Some r → r.usage ≤ 1069632
  usage_le owner [] r fits at = absurd (let e : None ≡ Some r = at in cc)
  usage_le owner (q ∷ rows) r fits at =
      let parts = and_parts (is_charged c q) (list_all (is_charged c) rows) fits in
      by_test parts.0 (q.owner.0 == owner.0) at (usage_le owner rows r parts.1) where
        near : is_charged c q ≡ true → q.usage ≤ 1069632
        near e =
            let le : q.usage ≤ charge c q.owner + 1000000 = leb-true q.usage (charge c q.owner + 1000000) (and_parts (nat_le (charge c q.owner) q.usage) (nat_le q.usage (charge c q.owner + 1000000)) e).1 in
            let top = charge_le q.owner in
            omega arith

        by_test : is_charged c q ≡ true → (t : Bool) → cond t (Some q) (row_of owner rows) ≡ Some r → (row_of owner rows ≡ Some r → r.usage ≤ 1069632) → r.usage ≤ 1069632
        by_test is true h more = let same : q ≡ r = (let e : Some q ≡ Some r = h in cc) in subst (λ (y : QuotaRow). y.usage ≤ 1069632) same (near is)
        by_test is false h more = more h

  -- it stays in range where no more clusters are charged than one header has
  pub drawn_in : (owner : Uic) (k : ℕ) (r : QuotaRow) → k ≤ header_most → list_all (is_charged c) c.quota ≡ true → row_of owner c.quota ≡ Some r → IsInRange (row_charged (g.cluster * k) (row_for r))
  drawn_in owner k r few fits at =
      let old = rows_in_range g bs own c owner r s at in
      let low = usage_le owner c.quota r fits at in
      let top = s.counts.geometry.cluster_to in
      let up : g.cluster * k ≤ 16 * k = mul-le-mul_right k top in
      record { uic = old.uic; usage = omega arith; quota = old.quota; over = old.over }
