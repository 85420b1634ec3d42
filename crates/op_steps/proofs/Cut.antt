-- What the header of a file with fewer clusters tells.
use Rattle.std.proofs.Common.{◌≡◌, ◌∙◌, ◌≤◌, ◌<◌, ◌+◌, ◌-◌, ◌*◌, ◌/◌, ◌++◌, nat_lt, ℕ, Bool, true, false, min, cond, List, length, take, refl, sym, ap, arith}
use Rattle.std.specs.Prelude.{◌==◌, nat_le}
use Rattle.std.proofs.Math.Nat.{mul-div_cancel_left}
use Rattle.std.proofs.lemmas.Bool.Decides.{nat_tests}
use Rattle.std.proofs.lemmas.List.{take_at, take-append-le, take-take, take_all, length-take}
use Rattle.base_words.specs.Fields.{Block}
use Rattle.fx_header.specs.declared.slot.Hdr.{Hdr}
use Rattle.vol_parts.specs.declared.geometry.Geometry.{Geometry}
use Rattle.vol_parts.specs.Catalogues.{is_structure, file_of}
use Rattle.vol_spell.proofs.Shown.{shown_by}

-- ---- what shows

-- of the first blocks those below a mark that is lowered are the first of those below it
shown_cut : (mark keep : ℕ) (front behind : List Block) → length front ≡ keep → shown_by (min mark (keep + 1)) front ≡ take keep (shown_by mark (front ++ behind))
shown_cut mark keep front behind len = by_test (mark == 0) refl where
  by_place : (t : Bool) → nat_le mark (keep + 1) ≡ t → 1 ≤ mark → take (min mark (keep + 1) - 1) front ≡ take keep (take (mark - 1) (front ++ behind))
  by_place true e low =
      let le : mark ≤ keep + 1 = grind (arith, nat_tests) in
      let same : min mark (keep + 1) - 1 ≡ mark - 1 = omega arith in
      let count = length-take (mark - 1) front in
      ap (λ k. take k front) same ∙ sym (ap (take keep) (take-append-le (mark - 1) front behind (omega arith)) ∙ take_all keep (take (mark - 1) front) (omega arith))
  by_place false e low =
      let lt : keep + 1 < mark = grind (arith, nat_tests) in
      let same : min mark (keep + 1) - 1 ≡ keep = omega arith in
      ap (λ k. take k front) same ∙ take_all keep front (omega arith) ∙ sym (take-take keep (mark - 1) (front ++ behind) (omega arith) ∙ take_at front behind keep len)

  by_test : (t : Bool) → (mark == 0) ≡ t → shown_by (min mark (keep + 1)) front ≡ take keep (cond t (front ++ behind) (take (mark - 1) (front ++ behind)))
  by_test true e =
      let none : mark ≡ 0 = grind (arith, nat_tests) in
      let least : min mark (keep + 1) ≡ 0 = omega arith in
      ap (λ m. shown_by m front) least ∙ sym (take_at front behind keep len)
  by_test false e =
      let low : 1 ≤ mark = grind (arith, nat_tests) in
      let more : 1 ≤ min mark (keep + 1) = omega arith in
      let some : (min mark (keep + 1) == 0) ≡ false = some_more (min mark (keep + 1)) more in
      ap (λ s. cond s front (take (min mark (keep + 1) - 1) front)) some ∙ by_place (nat_le mark (keep + 1)) refl low where
        some_more : (m : ℕ) → 1 ≤ m → (m == 0) ≡ false
        some_more m h = grind (arith, nat_tests)

-- the fields with the first blocks alone
abbrev pub lowered_fields : Hdr → ℕ → Hdr
lowered_fields h blocks = record h { end = min h.end (blocks + 1); byte = cond (nat_lt (blocks + 1) h.end) 0 h.byte; mark = min h.mark (blocks + 1) }

-- and with their number
abbrev pub cut_fields : Hdr → ℕ → Hdr
cut_fields h blocks = record (lowered_fields h blocks) { blocks = blocks }

-- what a header with fewer clusters tells of a file that is no directory
pub cut_told : (g : Geometry) (factor n : ℕ) (h : Hdr) (kept : ℕ) (front behind : List Block) → factor ≡ g.cluster → 1 ≤ g.cluster → is_structure n ≡ false → h.dir ≡ false → length front ≡ g.cluster * kept
    → file_of g.cluster n (cut_fields h (g.cluster * kept)) front
    ≡ record (file_of g.cluster n h (front ++ behind)) {
      clusters = kept;
      mark = min h.mark (factor * kept + 1);
      end = min h.end (factor * kept + 1);
      byte = cond (nat_lt (factor * kept + 1) h.end) 0 h.byte;
      written = take (factor * kept) (file_of g.cluster n h (front ++ behind)).written;
    }
cut_told g factor n h kept front behind same low plain dir len =
    let all : g.cluster * kept / g.cluster ≡ kept = mul-div_cancel_left kept low in
    let shows : shown_by (min h.mark (g.cluster * kept + 1)) front ≡ take (g.cluster * kept) (shown_by h.mark (front ++ behind)) = shown_cut h.mark (g.cluster * kept) front behind len in
    rw (same, all, dir, plain, shows) refl
