use Rattle.std.proofs.Common.{◌+◌, ◌*◌, ◌≤◌, ◌<◌, ◌^◌, ◌==◌, ℕ, Bool, true, false, cond, length, get_or, arith}
use Rattle.std.specs.Prelude.{All}
use Rattle.std.proofs.lemmas.List.Sums.{sum_by-le}
use Rattle.plain_cat.specs.declared.ids.Uic.{Uic}
use Rattle.plain_cat.specs.declared.cat.Cat.{Cat}
use Rattle.plain_cat.specs.declared.cat.Slot.{Slot}
use Rattle.plain_cat.specs.declared.cat.Slot.TheVariants.{Used, Free}
use Rattle.plain_cat.specs.declared.cat.QuotaRow.{QuotaRow}
use Rattle.plain_rules.specs.Lookups.{clusters_in, file_most}
use Rattle.plain_rules.specs.Changes.{cost}
use Rattle.plain_rules.specs.Accounts.{share, charge, Accounted}

cond_le : (b : Bool) (x m : ℕ) → x ≤ m → cond b x 0 ≤ m
cond_le true x m h = h
cond_le false x m h = omega arith

pub product_le : (a b : ℕ) → a ≤ 16 → b ≤ file_most → a * b ≤ 16 * file_most
product_le a b h k = grind arith

share_le : (c : Cat) (owner : Uic) (s : Slot) → c.factor * clusters_in s ≤ 65536 → share c owner s ≤ 65537
share_le c owner (Free seq) h = omega arith
share_le c owner (Used f) h = cond_le (owner.0 == f.owner.0) (cost c f.clusters) 65537 (omega arith)

-- what an owner's files cost is far below 2 ^ 32
pub charge_le : (c : Cat) (owner : Uic) → Accounted c → charge c owner ≤ 268439552
charge_le c owner a =
    let each : All (λ (s : Slot). share c owner s ≤ 65537) c.files = λ k d h. share_le c owner (get_or c.files k d) (a.sizes k d h) in
    let sum : charge c owner ≤ length c.files * 65537 = sum_by-le (share c owner) 65537 c.files each in
    omega (arith, sum, a.numbers)

-- and so is each usage
pub usage_room : (c : Cat) (n : ℕ) → Accounted c → n ≤ 100000 → All (λ (r : QuotaRow). r.usage + n < 2 ^ 32) c.quota
usage_room c n a h k d lt =
    let below : (get_or c.quota k d).usage ≤ charge c (get_or c.quota k d).owner + 1000000 = (a.usage k d lt).1 in
    omega (arith, below, charge_le c (get_or c.quota k d).owner a)

-- a file of a size that is allowed can be charged
pub cost_room : (c : Cat) (n : ℕ) → Accounted c → n ≤ file_most → All (λ (r : QuotaRow). r.usage + cost c n < 2 ^ 32) c.quota
cost_room c n a h = usage_room c (cost c n) a (omega (arith, product_le c.factor n a.factor_to h))

pub growth_room : (c : Cat) (n : ℕ) → Accounted c → n ≤ file_most → All (λ (r : QuotaRow). r.usage + c.factor * n < 2 ^ 32) c.quota
growth_room c n a h = usage_room c (c.factor * n) a (omega (arith, product_le c.factor n a.factor_to h))
