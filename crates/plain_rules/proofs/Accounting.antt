use Rattle.std.proofs.Common.{◌≡◌, ◌==◌, ◌+◌, ◌-◌, ◌*◌, ◌≤◌, ◌∙◌, ℕ, Bool, true, false, cond, List, [], ◌∷◌, Option, Some, is_some, map, slice_get, slice_set, set, get_or, refl, sym, ap, subst, arith}
use Rattle.std.specs.List.{sum_by}
use Rattle.std.proofs.lemmas.List.{length-set, map-id}
use Rattle.std.proofs.lemmas.List.Sums.{sum_by-set}
use Rattle.std.proofs.lemmas.List.Elements.{All-set, All-map}
use Rattle.std.proofs.lemmas.Option.{slice_get_within, get_or_from_slice_get}
use Rattle.plain_cat.specs.declared.ids.Uic.{Uic}
use Rattle.plain_cat.specs.declared.cat.Cat.{Cat}
use Rattle.plain_cat.specs.declared.cat.Slot.{Slot}
use Rattle.plain_cat.specs.declared.cat.Slot.TheVariants.{Used, Free}
use Rattle.plain_cat.specs.declared.cat.QuotaRow.{QuotaRow}
use Rattle.plain_rules.specs.Lookups.{row_of, clusters_in}
use Rattle.plain_rules.specs.Changes.{raised, lowered, with_slot, charged, discharged}
use Rattle.plain_rules.specs.Accounts.{share, charge, HasRow, IsCharged, Accounted}

some_either : (b : Bool) (x y : QuotaRow) (o p : Option QuotaRow) → is_some o ≡ is_some p → is_some (cond b (Some x) o) ≡ is_some (cond b (Some y) p)
some_either true x y o p h = refl
some_either false x y o p h = h

-- rows that keep their owners are there for the same owners
pub row_some-map : (g : QuotaRow → QuotaRow) → ((r : QuotaRow) → (g r).owner ≡ r.owner) → (owner : Uic) (rows : List QuotaRow)
    → is_some (row_of owner (map g rows)) ≡ is_some (row_of owner rows)
row_some-map g keeps owner [] = refl
row_some-map g keeps owner (r ∷ rs) =
    ap (λ (u : Uic). is_some (cond (u.0 == owner.0) (Some (g r)) (row_of owner (map g rs)))) (keeps r)
    ∙ some_either (r.owner.0 == owner.0) (g r) r (row_of owner (map g rs)) (row_of owner rs) (row_some-map g keeps owner rs)

pub has_row-map : (g : QuotaRow → QuotaRow) → ((r : QuotaRow) → (g r).owner ≡ r.owner) → (rows : List QuotaRow) (s : Slot)
    → HasRow rows s → HasRow (map g rows) s
has_row-map g keeps rows (Free q) h = tt
has_row-map g keeps rows (Used f) h = row_some-map g keeps f.owner rows ∙ h

-- how a row follows the change of one slot
abbrev pub Follows : Cat → Slot → Slot → (QuotaRow → QuotaRow) → Type 0
Follows c old s g = (r : QuotaRow) (after : ℕ) → IsCharged c r → after + share c r.owner old ≡ charge c r.owner + share c r.owner s
    → (after ≤ (g r).usage) × ((g r).usage ≤ after + 1000000)

-- one slot changes, and the rows follow
pub slot_accounts : (c : Cat) (i : ℕ) (old s : Slot) (g : QuotaRow → QuotaRow) → Accounted c → slice_get c.files i ≡ Some old
    → c.factor * clusters_in s ≤ 65536 → ((r : QuotaRow) → (g r).owner ≡ r.owner) → HasRow c.quota s → Follows c old s g
    → Accounted (record c { files = slice_set c.files i s; quota = map g c.quota })
slot_accounts c i old s g a at size keeps row follows = record {
  factor_from = a.factor_from;
  factor_to = a.factor_to;
  numbers = rw (length-set c.files i s) a.numbers;
  sizes = All-set (λ (x : Slot). c.factor * clusters_in x ≤ 65536) c.files i s size a.sizes;
  owners = All-set (HasRow (map g c.quota)) c.files i s (has_row-map g keeps c.quota s row)
      (λ k d h. has_row-map g keeps c.quota (get_or c.files k d) (a.owners k d h));
  usage = All-map (IsCharged (record c { files = slice_set c.files i s; quota = map g c.quota })) g c.quota (λ k d h. charged_row (get_or c.quota k d) (a.usage k d h));
} where
  after : Uic → ℕ
  after owner = sum_by (share c owner) (set c.files i s)

  moved : (owner : Uic) → sum_by (share c owner) (set c.files i s) + share c owner old ≡ charge c owner + share c owner s
  moved owner =
      let e : get_or c.files i old ≡ old = get_or_from_slice_get c.files i old old at in
      ap (λ (x : Slot). sum_by (share c owner) (set c.files i s) + share c owner x) (sym e)
      ∙ sum_by-set (share c owner) c.files i s old (slice_get_within c.files i old at)

  charged_row : (r : QuotaRow) → IsCharged c r → IsCharged (record c { files = slice_set c.files i s; quota = map g c.quota }) (g r)
  charged_row r h =
      let P : Uic → Type 0 = λ u. (sum_by (share c u) (set c.files i s) ≤ (g r).usage) × ((g r).usage ≤ sum_by (share c u) (set c.files i s) + 1000000) in
      subst P (sym (keeps r)) (follows r (sum_by (share c r.owner) (set c.files i s)) h (moved r.owner))

pub raised-owner : (o : Uic) (k : ℕ) (r : QuotaRow) → (raised o k r).owner ≡ r.owner
raised-owner o k r = elim (r.owner.0 == o.0) as (λ (b : Bool). (cond b (record r { usage = r.usage + k }) r).owner ≡ r.owner) [ true ↦ refl | false ↦ refl ]

pub lowered-owner : (o : Uic) (k : ℕ) (r : QuotaRow) → (lowered o k r).owner ≡ r.owner
lowered-owner o k r = elim (r.owner.0 == o.0) as (λ (b : Bool). (cond b (record r { usage = r.usage - k }) r).owner ≡ r.owner) [ true ↦ refl | false ↦ refl ]

rises : (b : Bool) (r : QuotaRow) (k x after old new : ℕ) → x ≤ r.usage → r.usage ≤ x + 1000000 → after + old ≡ x + new → new ≡ old + cond b k 0
    → (after ≤ (cond b (record r { usage = r.usage + k }) r).usage) × ((cond b (record r { usage = r.usage + k }) r).usage ≤ after + 1000000)
rises true r k x after old new lo hi e n = (omega arith, omega arith)
rises false r k x after old new lo hi e n = (omega arith, omega arith)

falls : (b : Bool) (r : QuotaRow) (k x after old new : ℕ) → x ≤ r.usage → r.usage ≤ x + 1000000 → after + old ≡ x + new → old ≡ new + cond b k 0
    → (after ≤ (cond b (record r { usage = r.usage - k }) r).usage) × ((cond b (record r { usage = r.usage - k }) r).usage ≤ after + 1000000)
falls true r k x after old new lo hi e n = (omega arith, omega arith)
falls false r k x after old new lo hi e n = (omega arith, omega arith)

-- a file costs its owner k more
pub charge_accounts : (c : Cat) (n : ℕ) (old s : Slot) (o : Uic) (k : ℕ) → Accounted c → slice_get c.files (n - 1) ≡ Some old
    → c.factor * clusters_in s ≤ 65536 → HasRow c.quota s → ((p : Uic) → share c p s ≡ share c p old + cond (p.0 == o.0) k 0)
    → Accounted (with_slot (charged c o k) n s)
charge_accounts c n old s o k a at size row more =
    slot_accounts c (n - 1) old s (raised o k) a at size (raised-owner o k) row
    (λ r after h e. rises (r.owner.0 == o.0) r k (charge c r.owner) after (share c r.owner old) (share c r.owner s) h.0 h.1 e (more r.owner))

-- a file costs its owner k less
pub discharge_accounts : (c : Cat) (n : ℕ) (old s : Slot) (o : Uic) (k : ℕ) → Accounted c → slice_get c.files (n - 1) ≡ Some old
    → c.factor * clusters_in s ≤ 65536 → HasRow c.quota s → ((p : Uic) → share c p old ≡ share c p s + cond (p.0 == o.0) k 0)
    → Accounted (with_slot (discharged c o k) n s)
discharge_accounts c n old s o k a at size row less =
    slot_accounts c (n - 1) old s (lowered o k) a at size (lowered-owner o k) row
    (λ r after h e. falls (r.owner.0 == o.0) r k (charge c r.owner) after (share c r.owner old) (share c r.owner s) h.0 h.1 e (less r.owner))

-- a file costs its owner the same
pub same_accounts : (c : Cat) (n : ℕ) (old s : Slot) → Accounted c → slice_get c.files (n - 1) ≡ Some old → c.factor * clusters_in s ≤ 65536
    → HasRow c.quota s → ((p : Uic) → share c p s ≡ share c p old) → Accounted (with_slot c n s)
same_accounts c n old s a at size row same =
    let P : List QuotaRow → Type 0 = λ rows. Accounted (record c { files = slice_set c.files (n - 1) s; quota = rows }) in
    subst P (map-id c.quota) (slot_accounts c (n - 1) old s (λ r. r) a at size (λ r. refl) row
    (λ r after h e. let q : share c r.owner s ≡ share c r.owner old = same r.owner in (omega (arith, q, e, h.0), omega (arith, q, e, h.1))))
