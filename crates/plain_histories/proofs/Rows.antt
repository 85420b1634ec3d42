-- Rows that follow the change of a slot.
use Rattle.std.proofs.Common.{◌≡◌, ◌-◌, ◌+◌, ◌≤◌, ◌==◌, inl, inr, ℕ, Bool, true, false, cond, List, Some, map, slice_get, slice_set, set, get_or, refl, sym, ap, subst, ◌∙◌, arith}
use Rattle.std.specs.Prelude.{All}
use Rattle.std.specs.List.{sum_by}
use Rattle.std.proofs.lemmas.List.{map-id}
use Rattle.std.proofs.lemmas.List.Sums.{sum_by-set}
use Rattle.std.proofs.lemmas.List.Elements.{All-map}
use Rattle.std.proofs.lemmas.Option.{slice_get_within, get_or_from_slice_get}
use Rattle.plain_cat.specs.declared.ids.Uic.{Uic}
use Rattle.plain_cat.specs.declared.cat.Cat.{Cat}
use Rattle.plain_cat.specs.declared.cat.Slot.{Slot}
use Rattle.plain_cat.specs.declared.cat.QuotaRow.{QuotaRow}
use Rattle.plain_rules.specs.Lookups.{clusters_in, file_most}
use Rattle.plain_rules.specs.Changes.{raised, lowered, with_slot, charged, discharged}
use Rattle.plain_rules.specs.Accounts.{share, charge}
use Rattle.plain_histories.proofs.Lists.{same_or_other, set_else, set_there}
use Rattle.plain_rules.proofs.Accounting.{raised-owner, lowered-owner}

-- each usage is what the owner's files cost, or at most m blocks more
abbrev pub Within : Cat → ℕ → Type 0
Within c m = All (λ (r : QuotaRow). r.usage ≤ charge c r.owner + m) c.quota

pub wider : (c : Cat) (m n : ℕ) → m ≤ n → Within c m → Within c n
wider c m n le h k d lt = let e = h k d lt in omega (arith, e, le)

-- how a row follows the change of one slot
abbrev Follows : Cat → Slot → Slot → (QuotaRow → QuotaRow) → ℕ → ℕ → Type 0
Follows c old s g m n = (r : QuotaRow) (after : ℕ) → r.usage ≤ charge c r.owner + m → after + share c r.owner old ≡ charge c r.owner + share c r.owner s → (g r).usage ≤ after + n

slot_within : (c : Cat) (i : ℕ) (old s : Slot) (g : QuotaRow → QuotaRow) (m n : ℕ) → slice_get c.files i ≡ Some old → ((r : QuotaRow) → (g r).owner ≡ r.owner) → Follows c old s g m n
    → Within c m → Within (record c { files = slice_set c.files i s; quota = map g c.quota }) n
slot_within c i old s g m n at keeps follows h =
    All-map (λ (r : QuotaRow). r.usage ≤ charge (record c { files = slice_set c.files i s; quota = map g c.quota }) r.owner + n) g c.quota (λ k d lt. row (get_or c.quota k d) (h k d lt)) where
      moved : (owner : Uic) → sum_by (share c owner) (set c.files i s) + share c owner old ≡ charge c owner + share c owner s
      moved owner =
          let e : get_or c.files i old ≡ old = get_or_from_slice_get c.files i old old at in
          ap (λ (x : Slot). sum_by (share c owner) (set c.files i s) + share c owner x) (sym e)
          ∙ sum_by-set (share c owner) c.files i s old (slice_get_within c.files i old at)

      row : (r : QuotaRow) → r.usage ≤ charge c r.owner + m → (g r).usage ≤ sum_by (share c (g r).owner) (set c.files i s) + n
      row r near =
          let P : Uic → Type 0 = λ u. (g r).usage ≤ sum_by (share c u) (set c.files i s) + n in
          subst P (sym (keeps r)) (follows r (sum_by (share c r.owner) (set c.files i s)) near (moved r.owner))

rises : (b : Bool) (r : QuotaRow) (k x after old new m : ℕ) → r.usage ≤ x + m → after + old ≡ x + new → new ≡ old + cond b k 0 → (cond b (record r { usage = r.usage + k }) r).usage ≤ after + m
rises true r k x after old new m hi e n = omega arith
rises false r k x after old new m hi e n = omega arith

falls : (b : Bool) (r : QuotaRow) (k x after old new m : ℕ) → r.usage ≤ x + m → after + old ≡ x + new → old ≡ new + cond b k 0 → (cond b (record r { usage = r.usage - k }) r).usage ≤ after + m
falls true r k x after old new m hi e n = omega arith
falls false r k x after old new m hi e n = omega arith

stays : (b : Bool) (usage k x after old new m : ℕ) → usage ≤ x + m → after + old ≡ x + new → old ≡ new + cond b k 0 → usage ≤ after + (m + k)
stays true usage k x after old new m hi e n = omega arith
stays false usage k x after old new m hi e n = omega arith

-- a file costs its owner k more, who is charged
pub more_within : (c : Cat) (n : ℕ) (old s : Slot) (o : Uic) (k m : ℕ) → slice_get c.files (n - 1) ≡ Some old → ((p : Uic) → share c p s ≡ share c p old + cond (p.0 == o.0) k 0)
    → Within c m → Within (with_slot (charged c o k) n s) m
more_within c n old s o k m at more h = slot_within c (n - 1) old s (raised o k) m m at (raised-owner o k)
    (λ r after near e. rises (r.owner.0 == o.0) r k (charge c r.owner) after (share c r.owner old) (share c r.owner s) m near e (more r.owner)) h

-- a file costs its owner k less, who is charged less
pub less_within : (c : Cat) (n : ℕ) (old s : Slot) (o : Uic) (k m : ℕ) → slice_get c.files (n - 1) ≡ Some old → ((p : Uic) → share c p old ≡ share c p s + cond (p.0 == o.0) k 0)
    → Within c m → Within (with_slot (discharged c o k) n s) m
less_within c n old s o k m at less h = slot_within c (n - 1) old s (lowered o k) m m at (lowered-owner o k)
    (λ r after near e. falls (r.owner.0 == o.0) r k (charge c r.owner) after (share c r.owner old) (share c r.owner s) m near e (less r.owner)) h

-- a file costs its owner k less, who is still charged
pub left_within : (c : Cat) (n : ℕ) (old s : Slot) (o : Uic) (k m : ℕ) → slice_get c.files (n - 1) ≡ Some old → ((p : Uic) → share c p old ≡ share c p s + cond (p.0 == o.0) k 0)
    → Within c m → Within (with_slot c n s) (m + k)
left_within c n old s o k m at less h =
    let P : List QuotaRow → Type 0 = λ rows. Within (record c { files = slice_set c.files (n - 1) s; quota = rows }) (m + k) in
    subst P (map-id c.quota) (slot_within c (n - 1) old s (λ r. r) m (m + k) at (λ r. refl)
    (λ r after near e. stays (r.owner.0 == o.0) r.usage k (charge c r.owner) after (share c r.owner old) (share c r.owner s) m near e (less r.owner)) h)

-- a file costs its owner the same
pub same_within : (c : Cat) (n : ℕ) (old s : Slot) (m : ℕ) → slice_get c.files (n - 1) ≡ Some old → ((p : Uic) → share c p s ≡ share c p old) → Within c m → Within (with_slot c n s) m
same_within c n old s m at same h =
    let P : List QuotaRow → Type 0 = λ rows. Within (record c { files = slice_set c.files (n - 1) s; quota = rows }) m in
    subst P (map-id c.quota) (slot_within c (n - 1) old s (λ r. r) m m at (λ r. refl)
    (λ r after near e. let q : share c r.owner s ≡ share c r.owner old = same r.owner in omega (arith, q, e, near)) h)

-- an owner is charged, and nothing else
pub charged_within : (c : Cat) (o : Uic) (k m : ℕ) → Within c m → Within (charged c o k) (m + k)
charged_within c o k m h = All-map (λ (r : QuotaRow). r.usage ≤ charge (charged c o k) r.owner + (m + k)) (raised o k) c.quota (λ i d lt. row (get_or c.quota i d) (h i d lt)) where
  by_owner : (b : Bool) (r : QuotaRow) → r.usage ≤ charge c r.owner + m → (cond b (record r { usage = r.usage + k }) r).usage ≤ charge c (cond b (record r { usage = r.usage + k }) r).owner + (m + k)
  by_owner true r near = omega (arith, near)
  by_owner false r near = omega (arith, near)

  row : (r : QuotaRow) → r.usage ≤ charge c r.owner + m → (raised o k r).usage ≤ charge c (raised o k r).owner + (m + k)
  row r near = by_owner (r.owner.0 == o.0) r near

-- ---- small files

-- each slot above number 11 has at most file_most clusters
abbrev pub AreSmall : List Slot → Type 0
AreSmall xs = (j : ℕ) (s : Slot) → 11 ≤ j → slice_get xs j ≡ Some s → clusters_in s ≤ file_most

pub set_small : (xs : List Slot) (i : ℕ) (s : Slot) → (11 ≤ i → clusters_in s ≤ file_most) → AreSmall xs → AreSmall (slice_set xs i s)
set_small xs i s few small j t le at = elim (same_or_other i j) [ inl e ↦ here e | inr ne ↦ small j t le (sym (set_else xs i j s ne) ∙ at) ] where
  here : i ≡ j → clusters_in t ≤ file_most
  here e =
      let same : t ≡ s = set_there xs i s t (ap (slice_get (slice_set xs i s)) e ∙ at) in
      subst (λ (x : Slot). clusters_in x ≤ file_most) (sym same) (few (subst (λ (k : ℕ). 11 ≤ k) (sym e) le))

-- a slot that has no more clusters than before
pub less_small : (xs : List Slot) (i : ℕ) (old s : Slot) → slice_get xs i ≡ Some old → clusters_in s ≤ clusters_in old → AreSmall xs → AreSmall (slice_set xs i s)
less_small xs i old s at less small = set_small xs i s (λ le. let few = small i old le at in omega (arith, less, few)) small
