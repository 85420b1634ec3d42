-- What the header of a file with more clusters tells.
use Rattle.std.proofs.Common.{◌≡◌, ◌∙◌, ◌≤◌, ◌+◌, ◌-◌, ◌*◌, ◌/◌, ◌++◌, ℕ, Bool, true, false, List, length, take, refl, sym, ap, arith, cond}
use Rattle.std.specs.Prelude.{◌==◌}
use Rattle.std.proofs.Math.Nat.{mul-div_cancel_left}
use Rattle.std.proofs.lemmas.Bool.Decides.{nat_tests}
use Rattle.std.proofs.lemmas.List.{take_at, take-append-le}
use Rattle.base_words.specs.Fields.{Block}
use Rattle.fx_header.specs.declared.slot.Hdr.{Hdr}
use Rattle.vol_parts.specs.declared.geometry.Geometry.{Geometry}
use Rattle.vol_parts.specs.Catalogues.{is_structure, file_of}
use Rattle.vol_spell.proofs.Shown.{shown_by}

-- the mark of a file of so many blocks that gets more
abbrev pub mark_for : ℕ → ℕ → ℕ
mark_for blocks mark = cond (mark == 0) (blocks + 1) mark

-- it is at most one block behind them
pub mark_low : (blocks mark : ℕ) → mark ≤ blocks + 1 → mark_for blocks mark ≤ blocks + 1
mark_low blocks mark within = by_test (mark == 0) where
  by_test : (t : Bool) → cond t (blocks + 1) mark ≤ blocks + 1
  by_test true = omega arith
  by_test false = within

-- blocks behind the old ones do not show
shown_grown : (mark blocks : ℕ) (old more : List Block) → length old ≡ blocks → mark ≤ blocks + 1 → shown_by (mark_for blocks mark) (old ++ more) ≡ shown_by mark old
shown_grown mark blocks old more len within = by_test (mark == 0) refl where
  by_test : (t : Bool) → (mark == 0) ≡ t → cond (cond t (blocks + 1) mark == 0) (old ++ more) (take (cond t (blocks + 1) mark - 1) (old ++ more)) ≡ cond t old (take (mark - 1) old)
  by_test true e =
      let one : (blocks + 1 == 0) ≡ false = grind (arith, nat_tests) in
      let count : blocks + 1 - 1 ≡ blocks = omega arith in
      ap (λ s. cond s (old ++ more) (take (blocks + 1 - 1) (old ++ more))) one ∙ ap (λ k. take k (old ++ more)) count ∙ take_at old more blocks len
  by_test false e = ap (λ s. cond s (old ++ more) (take (mark - 1) (old ++ more))) e ∙ take-append-le (mark - 1) old more (omega arith)

-- ---- the file

-- what a header with more clusters tells of a file that is no directory
pub grown_told : (g : Geometry) (factor n : ℕ) (h : Hdr) (k more : ℕ) (old behind : List Block) → factor ≡ g.cluster → 1 ≤ g.cluster → is_structure n ≡ false → h.dir ≡ false → h.blocks ≡ g.cluster * k → length old ≡ g.cluster * k → h.mark ≤ g.cluster * k + 1
    → file_of g.cluster n (record h { blocks = g.cluster * (k + more); mark = mark_for (g.cluster * k) h.mark }) (old ++ behind)
    ≡ record (file_of g.cluster n h old) { clusters = h.blocks / g.cluster + more; mark = mark_for (factor * (h.blocks / g.cluster)) h.mark }
grown_told g factor n h k more old behind same low plain dir blocks len within =
    let count : h.blocks / g.cluster ≡ k = ap (λ z. z / g.cluster) blocks ∙ mul-div_cancel_left k low in
    let all : g.cluster * (k + more) / g.cluster ≡ h.blocks / g.cluster + more = mul-div_cancel_left (k + more) low ∙ ap (λ z. z + more) (sym count) in
    let marks : mark_for (g.cluster * k) h.mark ≡ mark_for (factor * (h.blocks / g.cluster)) h.mark =
    ap (λ z. mark_for (g.cluster * z) h.mark) (sym count) ∙ ap (λ z. mark_for (z * (h.blocks / g.cluster)) h.mark) (sym same) in
    let shows : shown_by (mark_for (factor * (h.blocks / g.cluster)) h.mark) (old ++ behind) ≡ shown_by h.mark old =
    ap (λ m. shown_by m (old ++ behind)) (sym marks) ∙ shown_grown h.mark (g.cluster * k) old behind len within in
    rw (all, dir, plain, marks, shows) refl
