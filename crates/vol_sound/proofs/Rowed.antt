-- Each owner of a file has a row in the catalogue that mending gets from a repair.
use Rattle.std.proofs.Common.{◌≡◌, ◌∙◌, ◌-◌, ℕ, zero, suc, Bool, true, false, List, [], ◌∷◌, Some, None, length, map, take, slice_get, refl, sym, ap, cond}
use Rattle.std.specs.Prelude.{◌==◌, ◌||◌, nat_lt}
use Rattle.std.specs.List.{list_any}
use Rattle.fx_quota.specs.declared.types.Row.{Row}
use Rattle.plain_cat.specs.declared.cat.Cat.{Cat}
use Rattle.plain_cat.specs.declared.cat.File.{File}
use Rattle.plain_cat.specs.declared.cat.Slot.{Slot}
use Rattle.plain_cat.specs.declared.cat.Slot.TheVariants.{Used, Free}
use Rattle.plain_cat.specs.declared.cat.QuotaRow.{QuotaRow}
use Rattle.plain_rules.specs.Lookups.{file_at, file_in}
use Rattle.plain_rules.specs.Changes.{with_row}
use Rattle.vol_parts.specs.Volumes.{Volume, active_rows}
use Rattle.vol_parts.specs.Catalogues.{quota_row, rows_sorted}
use Rattle.vol_init.specs.Layouts.{system_owner}
use Rattle.vol_sound.specs.Begun.{first_rows, system_row, with_system_row, most_rows, begun_rows, begun, has_row, owned, with_owners, without_own, without_loops, patched}

-- ---- rows

or_swap : (a b c : Bool) → (a || (b || c)) ≡ (b || (a || c))
or_swap true true c = refl
or_swap true false c = refl
or_swap false true c = refl
or_swap false false c = refl

any_with : (p : QuotaRow → Bool) (r : QuotaRow) (rs : List QuotaRow) → list_any p (with_row r rs) ≡ (p r || list_any p rs)
any_with p r [] = refl
any_with p r (x ∷ rs) = by_order (nat_lt r.owner.0 x.owner.0) (any_with p r rs) where
  by_order : (t : Bool) → list_any p (with_row r rs) ≡ (p r || list_any p rs) → list_any p (cond t (r ∷ x ∷ rs) (x ∷ with_row r rs)) ≡ (p r || (p x || list_any p rs))
  by_order true rest = refl
  by_order false rest = ap (λ b. p x || b) rest ∙ or_swap (p x) (p r) (list_any p rs)

-- an owner has a row in order exactly where there is one
any_sorted : (uic : ℕ) (rs : List Row) → list_any (λ (r : QuotaRow). r.owner.0 == uic) (rows_sorted rs) ≡ list_any (λ (r : Row). r.uic == uic) rs
any_sorted uic [] = refl
any_sorted uic (r ∷ rs) = any_with (λ (x : QuotaRow). x.owner.0 == uic) (quota_row r) (rows_sorted rs) ∙ ap (λ b. (r.uic == uic) || b) (any_sorted uic rs)

-- [1,1] has one
system_has : (most : ℕ) (rs : List Row) → list_any (λ (r : Row). r.uic == system_owner) (with_system_row most rs) ≡ true
system_has most rs = by_any (list_any (λ (r : Row). r.uic == system_owner) rs) refl where
  by_any : (t : Bool) → list_any (λ (r : Row). r.uic == system_owner) rs ≡ t
      → list_any (λ (r : Row). r.uic == system_owner) (cond t rs (system_row ∷ cond (nat_lt (length rs) most) rs (take (most - 1) rs))) ≡ true
  by_any true e = e
  by_any false e = refl

system_rowed : (v : Volume) → has_row (begun v) system_owner ≡ true
unfolding begun begun_rows
system_rowed v = any_sorted system_owner (begun_rows v) ∙ system_has (most_rows v) (first_rows (active_rows v))

-- ---- owners

owned_at : (c : Cat) (ss : List Slot) (i : ℕ) (f : File) → file_in (slice_get (map (owned c) ss) i) ≡ Some f → has_row c system_owner ≡ true → has_row c f.owner.0 ≡ true
owned_at c [] i f e s = absurd (let z : None ≡ Some f = e in cc)
owned_at c (Free seq ∷ ss) zero f e s = absurd (let z : None ≡ Some f = e in cc)
owned_at c (Used g ∷ ss) zero f e s = by_row (has_row c g.owner.0) refl e where
  by_row : (t : Bool) → has_row c g.owner.0 ≡ t → file_in (Some (cond t (Used g) (Used (record g { owner = record { 0 = system_owner } })))) ≡ Some f → has_row c f.owner.0 ≡ true
  by_row true u x = let same : g ≡ f = (let z : Some g ≡ Some f = x in cc) in ap (λ (h : File). has_row c h.owner.0) (sym same) ∙ u
  by_row false u x =
      let same : record g { owner = record { 0 = system_owner } } ≡ f = (let z : Some (record g { owner = record { 0 = system_owner } }) ≡ Some f = x in cc) in
      ap (λ (h : File). has_row c h.owner.0) (sym same) ∙ s
owned_at c (s ∷ ss) (suc i) f e h = owned_at c ss i f e h

owned_file : (c : Cat) (n : ℕ) (f : File) → file_at (with_owners c) n ≡ Some f → has_row c system_owner ≡ true → has_row c f.owner.0 ≡ true
unfolding with_owners
owned_file c n f e s = by_number (n == 0) e where
  by_number : (t : Bool) → file_in (cond t None (slice_get (map (owned c) c.files) (n - 1))) ≡ Some f → has_row c f.owner.0 ≡ true
  by_number true x = absurd (let z : None ≡ Some f = x in cc)
  by_number false x = owned_at c c.files (n - 1) f x s

pub each_rowed : (v : Volume) (n : ℕ) (f : File) → file_at (patched v) n ≡ Some f → has_row (patched v) f.owner.0 ≡ true
unfolding patched with_owners without_loops without_own
each_rowed v n f e = owned_file (without_loops (without_own (begun v))) n f e (system_rowed v)
