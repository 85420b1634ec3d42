-- Rows in order of owner, where the row of one owner changes.
use Rattle.std.proofs.Common.{◌≡◌, ℕ, Bool, true, false, List, [], ◌∷◌, Some, None, map, cond, refl, sym, ap, subst, ◌∙◌, inl, inr, ne_eqb, eq-eqb}
use Rattle.std.specs.Prelude.{◌==◌, nat_lt, if◌then◌else◌}
use Rattle.fx_quota.specs.declared.types.Row.{Row}
use Rattle.plain_cat.specs.declared.ids.Uic.{Uic}
use Rattle.plain_cat.specs.declared.cat.QuotaRow.{QuotaRow}
use Rattle.plain_rules.specs.Lookups.{row_of}
use Rattle.plain_rules.specs.Changes.{with_row}
use Rattle.vol_parts.specs.Catalogues.{quota_row, rows_sorted}
use Rattle.base_words.specs.Lists.{Has, Once}
use Rattle.vol_spell.specs.Rows.{IsRowChange, row_for}

-- ---- the row of an owner

has_uic : (rs : List Row) (r : Row) → Has rs r → Has (map (λ r. r.uic) rs) r.uic
has_uic [] r t = absurd t
has_uic (x ∷ rs) r (inl e) = inl (ap (λ y. y.uic) e)
has_uic (x ∷ rs) r (inr t) = inr (has_uic rs r t)

row-elsewhere : (owner : Uic) (row : QuotaRow) (rs : List QuotaRow) → (row.owner.0 == owner.0) ≡ false → row_of owner (with_row row rs) ≡ row_of owner rs
row-elsewhere owner row [] ne = rw ne refl
row-elsewhere owner row (r ∷ rs) ne = by (nat_lt row.owner.0 r.owner.0) refl (row-elsewhere owner row rs ne) where
  by : (b : Bool) → nat_lt row.owner.0 r.owner.0 ≡ b → row_of owner (with_row row rs) ≡ row_of owner rs → row_of owner (with_row row (r ∷ rs)) ≡ row_of owner (r ∷ rs)
  by true t ih = rw (t, ne) refl
  by false t ih = rw t (ap (λ o. cond (r.owner.0 == owner.0) (Some r) o) ih)

row-here : (owner : Uic) (row : QuotaRow) (rs : List QuotaRow) → (row.owner.0 == owner.0) ≡ true → row_of owner rs ≡ None → row_of owner (with_row row rs) ≡ Some row
row-here owner row [] is none = rw is refl
row-here owner row (r ∷ rs) is none = by (r.owner.0 == owner.0) refl none (row-here owner row rs is) where
  by : (b : Bool) → (r.owner.0 == owner.0) ≡ b → cond b (Some r) (row_of owner rs) ≡ None → (row_of owner rs ≡ None → row_of owner (with_row row rs) ≡ Some row) → row_of owner (with_row row (r ∷ rs)) ≡ Some row
  by true u e ih = absurd (let f : Some r ≡ None = e in cc)
  by false u e ih = order (nat_lt row.owner.0 r.owner.0) refl where
    order : (b : Bool) → nat_lt row.owner.0 r.owner.0 ≡ b → row_of owner (with_row row (r ∷ rs)) ≡ Some row
    order true t = rw (t, is) refl
    order false t = rw (t, u) (ih e)

pub row_of-none : (owner : Uic) (rs : List Row) → (Has (map (λ r. r.uic) rs) owner.0 → ⊥) → row_of owner (rows_sorted rs) ≡ None
row_of-none owner [] away = refl
row_of-none owner (r ∷ rs) away =
    let ne : (r.uic == owner.0) ≡ false = ne_eqb r.uic owner.0 (λ e. away (inl e)) in
    row-elsewhere owner (quota_row r) (rows_sorted rs) ne ∙ row_of-none owner rs (λ t. away (inr t))

-- a row of the list is the row of its owner, where each owner has one
pub row_of-sorted : (owner : Uic) (rs : List Row) (r : Row) → Once (map (λ r. r.uic) rs) → Has rs r → r.uic ≡ owner.0 → row_of owner (rows_sorted rs) ≡ Some (quota_row r)
row_of-sorted owner [] r once t e = absurd t
row_of-sorted owner (x ∷ rs) r once (inl same) e =
    let is : x.uic ≡ owner.0 = ap (λ y. y.uic) same ∙ e in
    let none : row_of owner (rows_sorted rs) ≡ None = row_of-none owner rs (λ t. once.0 (subst (λ (n : ℕ). Has (map (λ r. r.uic) rs) n) (sym is) t)) in
    row-here owner (quota_row x) (rows_sorted rs) (eq-eqb x.uic owner.0 is) none ∙ ap (λ y. Some (quota_row y)) same
row_of-sorted owner (x ∷ rs) r once (inr t) e =
    let ne : (x.uic == owner.0) ≡ false = ne_eqb x.uic owner.0 (λ f. once.0 (subst (λ (n : ℕ). Has (map (λ r. r.uic) rs) n) (e ∙ sym f) (has_uic rs r t))) in
    row-elsewhere owner (quota_row x) (rows_sorted rs) ne ∙ row_of-sorted owner rs r once.1 t e

-- the row of an owner who is among those of rows
pub of_uic : (rs : List Row) (n : ℕ) → Has (map (λ r. r.uic) rs) n → (r : Row) × Has rs r × (r.uic ≡ n)
of_uic [] n t = absurd t
of_uic (x ∷ rs) n (inl e) = (x, inl refl, e)
of_uic (x ∷ rs) n (inr t) = let r = of_uic rs n t in (r.0, inr r.1, r.2)

-- an owner without a row is that of none of the rows
pub untold_away : (owner : Uic) (rs : List Row) → Once (map (λ r. r.uic) rs) → row_of owner (rows_sorted rs) ≡ None → Has (map (λ r. r.uic) rs) owner.0 → ⊥
untold_away owner rs once none t =
    let r = of_uic rs owner.0 t in
    let f : None ≡ Some (quota_row r.0) = sym none ∙ row_of-sorted owner rs r.0 once r.1 r.2 in
    absurd (cc)

-- ---- a change of rows

module _ (change : Row → Row) (rows : QuotaRow → QuotaRow) (is : IsRowChange change rows) where
  quota-owner : (r : QuotaRow) → (rows r).owner.0 ≡ r.owner.0
  quota-owner r = ap (λ (q : QuotaRow). q.owner.0) (sym (is.same (row_for r))) ∙ is.owner (row_for r)

  with_row-mapped : (row : QuotaRow) (rs : List QuotaRow) → with_row (rows row) (map rows rs) ≡ map rows (with_row row rs)
  with_row-mapped row [] = refl
  with_row-mapped row (r ∷ rs) = by (nat_lt row.owner.0 r.owner.0) refl (with_row-mapped row rs) where
    by : (b : Bool) → nat_lt row.owner.0 r.owner.0 ≡ b → with_row (rows row) (map rows rs) ≡ map rows (with_row row rs) → with_row (rows row) (map rows (r ∷ rs)) ≡ map rows (with_row row (r ∷ rs))
    by true t ih =
        let u : nat_lt (rows row).owner.0 (rows r).owner.0 ≡ true = ap (λ n. nat_lt n (rows r).owner.0) (quota-owner row) ∙ ap (nat_lt row.owner.0) (quota-owner r) ∙ t in
        rw (u, t) refl
    by false t ih =
        let u : nat_lt (rows row).owner.0 (rows r).owner.0 ≡ false = ap (λ n. nat_lt n (rows r).owner.0) (quota-owner row) ∙ ap (nat_lt row.owner.0) (quota-owner r) ∙ t in
        rw (u, t) (ap (λ l. rows r ∷ l) ih)

  -- the order is the same
  pub sorted-mapped : (rs : List Row) → rows_sorted (map change rs) ≡ map rows (rows_sorted rs)
  sorted-mapped [] = refl
  sorted-mapped (r ∷ rs) =
      ap (λ q. with_row q (rows_sorted (map change rs))) (is.same r) ∙ ap (with_row (rows (quota_row r))) (sorted-mapped rs) ∙ with_row-mapped (quota_row r) (rows_sorted rs)

  -- the owners are the same
  pub owners-mapped : (rs : List Row) → map (λ r. r.uic) (map change rs) ≡ map (λ r. r.uic) rs
  owners-mapped [] = refl
  owners-mapped (r ∷ rs) = ap (λ n. n ∷ map (λ r. r.uic) (map change rs)) (is.owner r) ∙ ap (λ l. r.uic ∷ l) (owners-mapped rs)

-- ---- a change of one owner's row

-- rows with the row of one owner changed, on the volume and in a catalogue
abbrev pub row_changed : Uic → (Row → Row) → Row → Row
row_changed owner change r = if r.uic == owner.0 then change r else r

abbrev pub quota_changed : Uic → (QuotaRow → QuotaRow) → QuotaRow → QuotaRow
quota_changed owner rows r = if r.owner.0 == owner.0 then rows r else r

module _ (owner : Uic) (change : Row → Row) (rows : QuotaRow → QuotaRow) (is : IsRowChange change rows) where
  pub changed-is : IsRowChange (row_changed owner change) (quota_changed owner rows)
  changed-is = record { owner = λ r. by_owner r (r.uic == owner.0); same = λ r. by_same r (r.uic == owner.0) } where
    by_owner : (r : Row) (b : Bool) → (cond b (change r) r).uic ≡ r.uic
    by_owner r true = is.owner r
    by_owner r false = refl

    by_same : (r : Row) (b : Bool) → quota_row (cond b (change r) r) ≡ cond b (rows (quota_row r)) (quota_row r)
    by_same r true = is.same r
    by_same r false = refl

  -- the order is the same
  pub sorted-changed : (rs : List Row) → rows_sorted (map (row_changed owner change) rs) ≡ map (quota_changed owner rows) (rows_sorted rs)
  sorted-changed rs = sorted-mapped (row_changed owner change) (quota_changed owner rows) changed-is rs

  -- rows of which none is the owner's stay
  pub unchanged : (rs : List Row) → (Has (map (λ r. r.uic) rs) owner.0 → ⊥) → map (row_changed owner change) rs ≡ rs
  unchanged [] away = refl
  unchanged (r ∷ rs) away =
      let ne : (r.uic == owner.0) ≡ false = ne_eqb r.uic owner.0 (λ e. away (inl e)) in
      let stays : row_changed owner change r ≡ r = ap (λ b. cond b (change r) r) ne in
      ap (λ x. x ∷ map (row_changed owner change) rs) stays ∙ ap (λ l. r ∷ l) (unchanged rs (λ t. away (inr t)))
