-- The files of a volume in which no fatal finding holds have all of their blocks.
use Rattle.std.proofs.Common.{◌≡◌, ◌∙◌, ◌<◌, ◌≤◌, ◌==◌, ℕ, Bool, true, false, not, Option, Some, None, length, inl, inr, refl, sym, ap, subst, cond}
use Rattle.std.proofs.lemmas.Bool.{cases_lt, eqb-true}
use Rattle.fx_header.specs.declared.slot.Hdr.{Hdr}
use Rattle.fx_header.specs.Pointers.{blocks_in}
use Rattle.vol_parts.specs.declared.finding.Finding.{Finding}
use Rattle.vol_parts.specs.declared.finding.Finding.TheVariants as finding
use Rattle.vol_parts.specs.Chains.{chain_of, is_broken, is_well_split}
use Rattle.vol_parts.specs.Fatal.{has_one_header, is_system_file, chain_test, chain_fault}
use Rattle.vol_parts.specs.Volumes.{Volume, IsNumber, factor, headers_of, fields, Told, told, runs, body}
use Rattle.vol_parts.proofs.Alone.{file_told}
use Rattle.vol_parts.proofs.Sizes.{length-body, blocks-size, system-one}
use Rattle.vol_analyze.proofs.Weakly.{IsWeak}

-- a chain that is not broken has the blocks that its first header says
unbroken : (a b : ℕ) → not (a == b) ≡ false → a ≡ b
unbroken a b e = by_test (a == b) refl e where
  by_test : (t : Bool) → (a == b) ≡ t → not t ≡ false → a ≡ b
  by_test true t h = eqb-true a b t
  by_test false t h = absurd (cc h)

module _ (v : Volume) (n : ℕ) (f : Hdr) (weak : IsWeak v) (number : IsNumber v n) (e : fields v n ≡ Some f) where
  system : n ≤ 11 → f.blocks ≡ length (body v n)
  system low = by_test (is_system_file v n) refl where
    by_test : (t : Bool) → is_system_file v n ≡ t → f.blocks ≡ length (body v n)
    by_test true t = blocks-size v n f (subst (λ (o : Option Hdr). has_one_header o (told v n) ≡ true) e (system-one v n t))
    by_test false t = absurd (weak.none (finding.SystemFile n) (number.from, low, t))

  other : 11 < n → f.blocks ≡ length (body v n)
  unfolding chain_fault runs
  other above = by_test (is_broken f (chain_of (headers_of v) n f)) refl where
    split : Option Finding
    split = cond (is_well_split (factor v) (chain_of (headers_of v) n f)) None (Some (finding.ChainSplit n))

    by_test : (t : Bool) → is_broken f (chain_of (headers_of v) n f) ≡ t → f.blocks ≡ length (body v n)
    by_test true t = absurd (weak.none (finding.ChainBroken n) (number, above, ap (chain_test v n) e ∙ ap (λ x. cond x (Some (finding.ChainBroken n)) split) t))
    by_test false t = sym (length-body v n ∙ (ap (λ (k : Told). blocks_in k.runs) (file_told v n f e) ∙ unbroken _ _ t))

  -- a file has as many blocks as its first header says
  pub file-whole : f.blocks ≡ length (body v n)
  file-whole = elim (cases_lt 11 n) [
    | inl above ↦ other above
    | inr low ↦ system low
  ]
