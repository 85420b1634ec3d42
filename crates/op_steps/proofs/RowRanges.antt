-- The quota rows of a catalogue that is spelt stay in range where they are charged.
use Rattle.std.proofs.Common.{◌≡◌, ◌<◌, ◌+◌, ◌^◌, ◌∙◌, ℕ, suc, false, List, Some, sym, ap, arith}
use Rattle.std.specs.Prelude.{nat_lt}
use Rattle.std.proofs.lemmas.Bool.Decides.{nat_tests}
use Rattle.base_words.specs.Fields.{Block}
use Rattle.plain_cat.specs.declared.ids.Uic.{Uic}
use Rattle.plain_cat.specs.declared.cat.Cat.{Cat}
use Rattle.plain_cat.specs.declared.cat.QuotaRow.{QuotaRow}
use Rattle.plain_rules.specs.Lookups.{row_of}
use Rattle.plain_rules.specs.Answers.{over_quota}
use Rattle.vol_spell.specs.Owners.{Owners}
use Rattle.vol_parts.specs.declared.geometry.Geometry.{Geometry}
use Rattle.vol_spell.specs.Spelling.{Spells}
use Rattle.vol_spell.specs.Rows.{IsInRange, row_for}
use Rattle.vol_spell.proofs.RowRanges.{rows_in_range}
use Rattle.op_law.specs.Quotas.{row_charged}

-- each row is
pub row_ranged : (g : Geometry) (bs : List Block) (own : Owners) (c : Cat) (s : Spells g bs own c) (owner : Uic) (r : QuotaRow) → row_of owner c.quota ≡ Some r → IsInRange (row_for r)
row_ranged g bs own c s owner r at = rows_in_range g bs own c owner r s at

-- a row that is charged within its quota stays in range
pub charged_in : (g : Geometry) (bs : List Block) (own : Owners) (c : Cat) (s : Spells g bs own c) (owner : Uic) (k : ℕ) (r : QuotaRow) → over_quota (row_of owner c.quota) k ≡ false → row_of owner c.quota ≡ Some r
    → IsInRange (row_charged k (row_for r))
charged_in g bs own c s owner k r within at =
    let old = row_ranged g bs own c s owner r at in
    let le : nat_lt r.quota (r.usage + k) ≡ false = ap (λ o. over_quota o k) (sym at) ∙ within in
    let top = old.quota in
    record { uic = old.uic; usage = usage r.usage r.quota k le top; quota = old.quota; over = old.over } where
      usage : (u q k : ℕ) → nat_lt q (u + k) ≡ false → q < 2 ^ 32 → u + k < 2 ^ 32
      usage u q k le top = let h : u + k < suc q = grind (arith, nat_tests) in omega arith
