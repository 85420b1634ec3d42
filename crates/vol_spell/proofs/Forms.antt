-- The catalogue that blocks spell has its one form.
use Rattle.std.proofs.Common.{◌≡◌, ◌==◌, ◌&&◌, ◌+◌, ◌-◌, ◌∙◌, inl, inr, ℕ, Bool, true, false, cond, List, [], ◌∷◌, Some, None, length, map, get_or, slice_get, nat_lt, refl, sym, ap, subst, arith}
use Rattle.std.specs.Prelude.{Result, Ok, Err}
use Rattle.std.specs.List.{list_all}
use Rattle.std.proofs.lemmas.Bool.Decides.{nat_tests}
use Rattle.std.proofs.lemmas.List.{length-map}
use Rattle.std.proofs.lemmas.Option.{slice_get-get_or}
use Rattle.base_words.specs.Fields.{Block}
use Rattle.fx_home.specs.declared.home.Home.{Home}
use Rattle.fx_home.specs.declared.home.HomeFault.{HomeFault}
use Rattle.fx_home.specs.Homes.{home_read}
use Rattle.fx_header.specs.declared.slot.Hdr.{Hdr}
use Rattle.fx_header.specs.declared.slot.Slot.{Slot as Head}
use Rattle.fx_header.specs.declared.slot.Slot.TheVariants as head
use Rattle.fx_header.specs.declared.slot.HeaderFault.{HeaderFault}
use Rattle.fx_dir.specs.declared.RawEnt.{RawEnt}
use Rattle.fx_dir.specs.declared.DirFault.{DirFault}
use Rattle.fx_dir.specs.Entries.{lower as raw_lower, before as raw_before, rises as raw_rises}
use Rattle.fx_dir.specs.Directory.{directory}
use Rattle.fx_dir.proofs.Based.{read-order}
use Rattle.fx_quota.specs.declared.types.Row.{Row}
use Rattle.plain_cat.specs.declared.ids.Uic.{Uic}
use Rattle.plain_cat.specs.declared.cat.Cat.{Cat}
use Rattle.plain_cat.specs.declared.cat.QuotaRow.{QuotaRow}
use Rattle.plain_rules.specs.Lookups.{row_of}
use Rattle.plain_rules.specs.Directories.{lower, before}
use Rattle.plain_rules.specs.Changes.{with_row}
use Rattle.plain_rules.specs.OneForm.{rises, owners_rise, HasOrder}
use Rattle.plain_rules.proofs.Ordered.{rows_with, none_either}
use Rattle.vol_spell.specs.declared.owner.Owner.TheVariants.{Leaked}
use Rattle.base_words.specs.Lists.{Has, Once}
use Rattle.vol_spell.specs.Counts.{is_same_owner}
use Rattle.vol_parts.specs.Catalogues.{plain_entry, plain_entries, entries_in, slot_with, quota_row, rows_sorted, catalogue}
use Rattle.vol_parts.specs.Findings.{home_at, IsCatalogueBy}
use Rattle.vol_spell.specs.Reading.{IsFileNumber, told_of, body_blocks, rows_told}
use Rattle.vol_spell.specs.Forms.{SpeltHasOneForm, ReadHasOneForm}
use Rattle.vol_spell.proofs.Accepted.{catalogue_is_spelt}

-- ---- entries

lower_plain : (xs ys : List ℕ) → lower xs ys ≡ raw_lower xs ys
lower_plain [] [] = refl
lower_plain [] (y ∷ ys) = refl
lower_plain (x ∷ xs) [] = refl
lower_plain (x ∷ xs) (y ∷ ys) = rw (lower_plain xs ys)

before_plain : (a b : RawEnt) → before (plain_entry a) (plain_entry b) ≡ raw_before a b
unfolding before raw_before
before_plain a b = rw (lower_plain a.name b.name)

all_plain : (e : RawEnt) (es : List RawEnt) → list_all (before (plain_entry e)) (map plain_entry es) ≡ list_all (raw_before e) es
all_plain e [] = refl
all_plain e (x ∷ es) = ap (λ t. t && list_all (before (plain_entry e)) (map plain_entry es)) (before_plain e x) ∙ ap (λ t. raw_before e x && t) (all_plain e es)

rises_plain : (es : List RawEnt) → rises (map plain_entry es) ≡ raw_rises es
rises_plain [] = refl
rises_plain (e ∷ es) = ap (λ t. t && rises (map plain_entry es)) (all_plain e es) ∙ ap (λ t. list_all (raw_before e) es && t) (rises_plain es)

-- what is read of a directory is in order
read_rises : (blocks : List Block) (r : Result (List RawEnt) DirFault) → directory blocks ≡ r → rises (plain_entries r) ≡ true
read_rises blocks (Ok es) is = rises_plain es ∙ read-order blocks es is
read_rises blocks (Err fault) is = refl

in_order : (f : Hdr) (blocks : List Block) → rises (entries_in f blocks) ≡ true
in_order f blocks = step f.dir where
  step : (b : Bool) → rises (cond b (plain_entries (directory blocks)) []) ≡ true
  step true = read_rises blocks (directory blocks) refl
  step false = refl

slot_order : (factor n : ℕ) (h : Result Head HeaderFault) (blocks : List Block) → HasOrder (slot_with factor n h blocks)
slot_order factor n (Ok (head.Used f)) blocks = in_order f blocks
slot_order factor n (Ok (head.Free seq)) blocks = tt
slot_order factor n (Err fault) blocks = tt

none_with : (owner : Uic) (row : QuotaRow) (rows : List QuotaRow) → (row.owner.0 == owner.0) ≡ false → row_of owner rows ≡ None → row_of owner (with_row row rows) ≡ None
none_with owner row [] other none = ap (λ t. cond t (Some row) None) other
none_with owner row (r ∷ rs) other none =
    let p = none_either (r.owner.0 == owner.0) r (row_of owner rs) none in step (nat_lt row.owner.0 r.owner.0) p.0 (none_with owner row rs other p.1) where
      step : (b : Bool) → (r.owner.0 == owner.0) ≡ false → row_of owner (with_row row rs) ≡ None → row_of owner (cond b (row ∷ r ∷ rs) (r ∷ with_row row rs)) ≡ None
      step true apart more = ap (λ t. cond t (Some row) (row_of owner (r ∷ rs))) other ∙ none
      step false apart more = ap (λ t. cond t (Some r) (row_of owner (with_row row rs))) apart ∙ more

apart : (x y : ℕ) → (x ≡ y → ⊥) → (x == y) ≡ false
apart x y differs = decide (x == y) refl where
  decide : (b : Bool) → b ≡ (x == y) → b ≡ false
  decide true e = absurd (differs (grind (arith, nat_tests)))
  decide false e = refl

no_row : (owner : ℕ) (rs : List Row) → (Has (map (λ (r : Row). r.uic) rs) owner → ⊥) → row_of (record { 0 = owner }) (rows_sorted rs) ≡ None
no_row owner [] none = refl
no_row owner (r ∷ rs) none =
    none_with (record { 0 = owner }) (quota_row r) (rows_sorted rs) (apart r.uic owner (λ e. none (inl e))) (no_row owner rs (λ h. none (inr h)))

sorted_rise : (rs : List Row) → Once (map (λ (r : Row). r.uic) rs) → owners_rise (rows_sorted rs) ≡ true
sorted_rise [] once = refl
sorted_rise (r ∷ rs) once = rows_with (quota_row r) (rows_sorted rs) (no_row r.uic rs once.0) (sorted_rise rs once.1)

-- ---- the whole

pub spelt_form : SpeltHasOneForm
spelt_form g bs own c s opens = record {
  entries = λ k d lt.
      let back : k + 1 - 1 ≡ k = omega arith in
      let slots : length c.files ≡ g.files = s.counts.slots in
      let number : IsFileNumber g (k + 1) = record { from = omega arith; to = omega (arith, lt, slots) } in
      let at : slice_get c.files (k + 1 - 1) ≡ Some (get_or c.files k d) = ap (slice_get c.files) back ∙ slice_get-get_or c.files k d lt in
      let told = s.files (k + 1) (get_or c.files k d) number at in
      let t = told_of g bs (k + 1) in
      subst HasOrder told.slot (slot_order g.cluster (k + 1) t.head (body_blocks bs (k + 1) t));
  rows = ap owners_rise s.rows.quota ∙ sorted_rise (rows_told g bs) s.rows.once;
  opens = opens;
  flags = ap length s.owners.leaked_numbers ∙ length-map own.numbers (is_same_owner Leaked) ∙ s.counts.numbers ∙ sym s.counts.slots;
}

pub read_form : ReadHasOneForm
unfolding catalogue
read_form bs c from to whole at =
    let spelt = catalogue_is_spelt bs c from to whole at in
    spelt_form _ bs _ c spelt.spelt (by_home (home_read (home_at bs)) at.told) where
      by_home : (r : Result Home HomeFault) → IsCatalogueBy bs r c → length c.opens ≡ 64
      by_home (Err fault) told = absurd told
      by_home (Ok home) told = ap (λ (x : Cat). length x.opens) told
