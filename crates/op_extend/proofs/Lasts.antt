-- The last of the headers that were seen, by its place in the list.
use Rattle.std.proofs.Common.{◌≡◌, ◌∙◌, ◌-◌, ℕ, suc, List, [], ◌∷◌, Option, Some, None, length, slice_get, refl, sym, ap, arith}
use Rattle.base_words.specs.Fields.{Block}
use Rattle.vol_parts.specs.declared.geometry.Geometry.{Geometry}
use Rattle.op_law.specs.Headers.{slot_at, last_header}

pub last_is : (g : Geometry) (n : ℕ) (b : Block) (rest : List (ℕ × Block)) (x : ℕ × Block) → slice_get rest (length rest - 1) ≡ Some x → last_header g n b rest ≡ (slot_at g x.0, x.1)
last_is g n b [] x at = absurd (let e : ◌≡◌ {A = Option (ℕ × Block)} None (Some x) = at in cc)
last_is g n b (y ∷ []) x at = let e : ◌≡◌ {A = Option (ℕ × Block)} (Some y) (Some x) = at in let same : y ≡ x = cc in rw same refl
last_is g n b (y ∷ z ∷ rest) x at =
    let one : suc (length rest) - 1 ≡ length rest = omega arith in
    let two : suc (suc (length rest)) - 1 ≡ suc (length rest) = omega arith in
    last_is g (slot_at g y.0) y.1 (z ∷ rest) x (ap (slice_get (z ∷ rest)) one ∙ sym (ap (slice_get (y ∷ z ∷ rest)) two) ∙ at)
