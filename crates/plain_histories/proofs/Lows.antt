-- Accounts but for the upper bound of usages: what a stage of a command leaves.
use Rattle.std.proofs.Common.{◌≡◌, ◌-◌, ◌+◌, ◌*◌, ◌≤◌, ◌==◌, ℕ, Bool, true, false, cond, List, Some, length, set, slice_get, get_or, refl, sym, ap, ◌∙◌, arith}
use Rattle.std.specs.Prelude.{All}
use Rattle.std.specs.List.{sum_by}
use Rattle.std.proofs.lemmas.List.{length-set}
use Rattle.std.proofs.lemmas.List.Sums.{sum_by-set}
use Rattle.std.proofs.lemmas.List.Elements.{All-set, All-map}
use Rattle.std.proofs.lemmas.Option.{slice_get_within, get_or_from_slice_get}
use Rattle.plain_cat.specs.declared.ids.Uic.{Uic}
use Rattle.plain_cat.specs.declared.cat.Cat.{Cat}
use Rattle.plain_cat.specs.declared.cat.Slot.{Slot}
use Rattle.plain_cat.specs.declared.cat.QuotaRow.{QuotaRow}
use Rattle.plain_rules.specs.Lookups.{clusters_in}
use Rattle.plain_rules.specs.Changes.{raised, with_slot, charged}
use Rattle.plain_rules.specs.Accounts.{share, charge, HasRow, Accounted}
use Rattle.plain_rules.specs.Replaying.{dead}
use Rattle.plain_rules.proofs.Accounting.{has_row-map}

-- no usage is below what the owner's files cost
abbrev pub IsCovered : Cat → QuotaRow → Type 0
IsCovered c r = charge c r.owner ≤ r.usage

-- the limits of a volume, with such usages
pub record Low (c : Cat) : Type 0 where
  pub factor_from : 1 ≤ c.factor
  pub factor_to : c.factor ≤ 16
  pub numbers : length c.files ≤ 4096
  pub sizes : All (λ s. c.factor * clusters_in s ≤ 65536) c.files
  pub owners : All (HasRow c.quota) c.files
  pub usage : All (IsCovered c) c.quota

pub low_of : (c : Cat) → Accounted c → Low c
low_of c a = record { factor_from = a.factor_from; factor_to = a.factor_to; numbers = a.numbers; sizes = a.sizes; owners = a.owners; usage = λ k d lt. (a.usage k d lt).0 }

-- with the upper bound as well
pub accounted_of : (c : Cat) → Low c → All (λ (r : QuotaRow). r.usage ≤ charge c r.owner + 1000000) c.quota → Accounted c
accounted_of c l high = record { factor_from = l.factor_from; factor_to = l.factor_to; numbers = l.numbers; sizes = l.sizes; owners = l.owners; usage = λ k d lt. (l.usage k d lt, high k d lt) }

-- leaks and opens are no part of it
pub dead_low : (c : Cat) (node clusters : ℕ) (numbers : List ℕ) → Low c → Low (dead c node clusters numbers)
unfolding dead
dead_low c node clusters numbers l = record { factor_from = l.factor_from; factor_to = l.factor_to; numbers = l.numbers; sizes = l.sizes; owners = l.owners; usage = l.usage }

-- one slot changes, and costs nobody more
pub slot_low : (c : Cat) (n : ℕ) (old s : Slot) → Low c → slice_get c.files (n - 1) ≡ Some old → c.factor * clusters_in s ≤ 65536 → HasRow c.quota s → ((p : Uic) → share c p s ≤ share c p old)
    → Low (with_slot c n s)
slot_low c n old s l at size row less = record {
  factor_from = l.factor_from;
  factor_to = l.factor_to;
  numbers = rw (length-set c.files (n - 1) s) l.numbers;
  sizes = All-set (λ (x : Slot). c.factor * clusters_in x ≤ 65536) c.files (n - 1) s size l.sizes;
  owners = All-set (HasRow c.quota) c.files (n - 1) s row l.owners;
  usage = λ k d lt. covered (get_or c.quota k d) (l.usage k d lt);
} where
  moved : (owner : Uic) → sum_by (share c owner) (set c.files (n - 1) s) + share c owner old ≡ charge c owner + share c owner s
  moved owner =
      let e : get_or c.files (n - 1) old ≡ old = get_or_from_slice_get c.files (n - 1) old old at in
      ap (λ (x : Slot). sum_by (share c owner) (set c.files (n - 1) s) + share c owner x) (sym e)
      ∙ sum_by-set (share c owner) c.files (n - 1) s old (slice_get_within c.files (n - 1) old at)

  covered : (r : QuotaRow) → charge c r.owner ≤ r.usage → sum_by (share c r.owner) (set c.files (n - 1) s) ≤ r.usage
  covered r h = let e = moved r.owner in let f = less r.owner in omega (arith, e, f, h)

-- an owner is charged
pub charged_low : (c : Cat) (o : Uic) (k : ℕ) → Low c → Low (charged c o k)
charged_low c o k l = record {
  factor_from = l.factor_from;
  factor_to = l.factor_to;
  numbers = l.numbers;
  sizes = l.sizes;
  owners = λ i d lt. has_row-map (raised o k) keeps c.quota (get_or c.files i d) (l.owners i d lt);
  usage = All-map (IsCovered (charged c o k)) (raised o k) c.quota (λ i d lt. row (get_or c.quota i d) (l.usage i d lt));
} where
  keeps : (r : QuotaRow) → (raised o k r).owner ≡ r.owner
  keeps r = elim (r.owner.0 == o.0) as (λ (b : Bool). (cond b (record r { usage = r.usage + k }) r).owner ≡ r.owner) [ true ↦ refl | false ↦ refl ]

  by_owner : (b : Bool) (r : QuotaRow) → charge c r.owner ≤ r.usage → charge c (cond b (record r { usage = r.usage + k }) r).owner ≤ (cond b (record r { usage = r.usage + k }) r).usage
  by_owner true r h = omega (arith, h)
  by_owner false r h = h

  row : (r : QuotaRow) → charge c r.owner ≤ r.usage → charge (charged c o k) (raised o k r).owner ≤ (raised o k r).usage
  row r h = by_owner (r.owner.0 == o.0) r h
