-- A file whose chain of headers has no fault has no more clusters than sixteen headers have room for.
use Rattle.std.proofs.Common.{◌≡◌, ◌∙◌, ◌+◌, ◌-◌, ◌*◌, ◌≤◌, ◌==◌, ◌&&◌, ℕ, zero, suc, Bool, true, false, Option, Some, None, map, sum_by, cond, refl, sym, ap, inl, inr, arith}
use Rattle.std.proofs.Math.Nat.{mul-suc, div-le_of_le-mul}
use Rattle.std.proofs.lemmas.Bool.{cases_lt, leb-true, eqb-true, le-ltb, and_parts}
use Rattle.fx_header.specs.declared.slot.Hdr.{Hdr}
use Rattle.plain_rules.specs.Lookups.{header_most, file_most}
use Rattle.vol_parts.specs.declared.finding.Finding.{Finding}
use Rattle.vol_parts.specs.declared.finding.Finding.TheVariants as finding
use Rattle.vol_parts.specs.Volumes.{Volume, factor, fields, headers_of}
use Rattle.vol_parts.specs.Chains.{Headers, held, slots_from, most_headers, chain_of, is_broken, are_parts_filled, is_well_split}
use Rattle.vol_parts.specs.Fatal.{chain_test, chain_fault, is_too_large}
use Rattle.vol_parts.proofs.Walks.{walk-none, walk-enough}
use Rattle.vol_parts.proofs.Linked.{whole-listed}
use Rattle.vol_parts.proofs.Splits.{goes-on}

-- k headers have at most `full` blocks of the file each, and all of them together
filled-fits : (h : Headers) (full k n : ℕ) (f : Hdr) (left : ℕ) → left ≤ sum_by (held h) (slots_from h k n f left)
    → are_parts_filled full left (map h.lists (slots_from h k n f left)) ≡ true → left ≤ full * k
filled-fits h full zero n f left all filled =
    let none : sum_by (held h) (slots_from h zero n f left) ≡ 0 = ap (sum_by (held h)) (walk-none h n f left) in
    omega arith
filled-fits h full (suc k) n f left all filled =
    let more : full * suc k ≡ full * k + full = mul-suc full k in
    elim (cases_lt (held h n) left) [
      | inl past ↦
          let g = goes-on h full k n f left past all in
          let parts = and_parts _ _ (sym g.split ∙ filled) in
          let is : held h n ≡ full = eqb-true _ _ parts.0 in
          let behind : left - held h n ≤ full * k = filled-fits h full k f.ext g.next (left - held h n) g.all parts.1 in
          omega arith
      | inr enough ↦
          let one = walk-enough h k n f left enough in
          let last : left ≤ full = leb-true left full (ap (λ ns. are_parts_filled full left (map h.lists ns)) (sym one) ∙ filled) in
          omega arith
    ]

pub sound-few : (v : Volume) (n : ℕ) → chain_fault v n ≡ None → is_too_large v (fields v n) ≡ false
unfolding chain_fault is_well_split
sound-few v n sound = by_fields (fields v n) sound where
  h : Headers
  h = headers_of v

  by_tests : (f : Hdr) (broken split : Bool) → is_broken f (chain_of h n f) ≡ broken → is_well_split (factor v) (chain_of h n f) ≡ split
      → cond broken (Some (finding.ChainBroken n)) (cond split None (Some (finding.ChainSplit n))) ≡ None → is_too_large v (Some f) ≡ false
  by_tests f true split whole is e = absurd (cc e)
  by_tests f false false whole is e = absurd (cc e)
  by_tests f false true whole is e =
      let listed = whole-listed h n f whole in
      let full = header_most * factor v in
      let filled : are_parts_filled full f.blocks (chain_of h n f).parts ≡ true = ap (λ b. are_parts_filled full b (chain_of h n f).parts) (sym listed.1) ∙ is in
      let most : f.blocks ≤ full * most_headers = filled-fits h full most_headers n f f.blocks listed.0 filled in
      let less : f.blocks ≤ factor v * file_most = omega arith in
      le-ltb _ _ (div-le_of_le-mul (factor v) less)

  by_fields : (o : Option Hdr) → chain_test v n o ≡ None → is_too_large v o ≡ false
  by_fields None e = refl
  by_fields (Some f) e = by_tests f (is_broken f (chain_of h n f)) (is_well_split (factor v) (chain_of h n f)) refl refl e
