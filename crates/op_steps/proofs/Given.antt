-- The blocks that are written have the bits of what becomes free.
use Rattle.std.proofs.Common.{◌≡◌, ◌<◌, ◌≤◌, ◌-◌, ◌/◌, ◌%◌, ℕ, true, false, List, map, sym, ap, subst, ◌∙◌, inl, inr, arith}
use Rattle.base_words.specs.Fields.{Block, IsWholeBlock}
use Rattle.fx_bitmap.specs.Bits.{bit_at}
use Rattle.base_words.specs.Lists.{Has}
use Rattle.base_words.proofs.Listing.{has_or_not}
use Rattle.vol_parts.specs.declared.geometry.Geometry.{Geometry}
use Rattle.vol_spell.specs.Reading.{total_of}
use Rattle.vol_under.specs.Refilling.{AreGiven, AreNumbersGiven}
use Rattle.op_law.specs.Freeing.{with_free, without_numbers}
use Rattle.op_steps.proofs.Bits.{stays, is_put, kept, whole_put}
use Rattle.op_steps.proofs.Filters.{mapped, has_mapped}
use Rattle.base_words.proofs.Numbers.{same_cluster}

abbrev bit_of : ℕ → ℕ
bit_of q = q % 4096

abbrev place_of_number : ℕ → ℕ
place_of_number n = n - 1

pub are_given : (g : Geometry) (k : ℕ) (b : Block) (qs : List ℕ) → IsWholeBlock b → ((q : ℕ) → Has qs q → (q < total_of g) × (q / 4096 ≡ k)) → AreGiven g k qs b (with_free b qs)
unfolding with_free
are_given g k b qs whole inside = record {
  whole = whole_put true bit_of qs b whole;
  inside = inside;
  bits = λ q lt e. (
    (λ set. elim (has_or_not qs q) [
      | inl t ↦ inr t
      | inr none ↦ inl (sym (kept true bit_of qs b (q % 4096) (omega arith) (λ p t same. none (subst (λ (x : ℕ). Has qs x) (sym (same_cluster k q p e (inside p t).1 same)) t))) ∙ set)
    ]),
    (λ was. elim was [
      | inl set ↦ stays true bit_of qs b (q % 4096) (omega arith) set
      | inr t ↦ is_put true bit_of qs b q (omega arith) t
    ]),
  );
}

pub numbers_given : (g : Geometry) (b : Block) (ns : List ℕ) → g.files ≤ 4096 → IsWholeBlock b → AreNumbersGiven g (map (λ n. n - 1) ns) b (without_numbers b ns)
unfolding without_numbers
numbers_given g b ns fit whole = record {
  whole = whole_put false place_of_number ns b whole;
  bits = λ i lt. let low : i < 4096 = omega arith in (
    (λ clear. elim (has_or_not (map (λ n. n - 1) ns) i) [
      | inl t ↦ inr t
      | inr none ↦ inl (sym (kept false place_of_number ns b i low (λ n t same. none (subst (λ (x : ℕ). Has (map (λ m. m - 1) ns) x) (sym same) (has_mapped (λ m. m - 1) ns n t)))) ∙ clear)
    ]),
    (λ was. elim was [
      | inl clear ↦ stays false place_of_number ns b i low clear
      | inr t ↦ let m = mapped (λ n. n - 1) ns i t in let e : m.0 - 1 ≡ i = m.2 in
          let at : m.0 - 1 < 4096 = omega arith in
          ap (λ j. bit_at (without_numbers b ns) j) (sym e) ∙ is_put false place_of_number ns b m.0 at m.1
    ]),
  );
}
