-- Slots that are set twice, or in another order, and the channels that have a file open.
use Rattle.std.proofs.Common.{◌≡◌, ◌≤◌, ◌-◌, ℕ, zero, suc, List, [], ◌∷◌, Some, ◌++◌, length, take, slice_set, refl, ap, arith}
use Rattle.base_words.specs.Fields.{Block}
use Rattle.plain_cat.specs.declared.cat.Cat.{Cat}
use Rattle.plain_cat.specs.declared.cat.File.{File}
use Rattle.plain_cat.specs.declared.cat.Slot.{Slot}
use Rattle.plain_cat.specs.declared.cat.Slot.TheVariants as slot
use Rattle.plain_rules.specs.Lookups.{file_at}
use Rattle.plain_rules.specs.Changes.{with_slot}
use Rattle.plain_rules.proofs.Standing.{stands_at}
use Rattle.op_law.specs.declared.need.PlanWrite.{PlanWrite}
use Rattle.op_steps.specs.Chained.{after_writes}
use Rattle.base_words.proofs.Listing.{set_same}

set_apart : {A : Type 0} (xs : List A) (i j : ℕ) (a b : A) → (i ≡ j → ⊥) → slice_set (slice_set xs i a) j b ≡ slice_set (slice_set xs j b) i a
set_apart [] i j a b ne = refl
set_apart (x ∷ xs) zero zero a b ne = absurd (ne refl)
set_apart (x ∷ xs) zero (suc j) a b ne = refl
set_apart (x ∷ xs) (suc i) zero a b ne = refl
set_apart (x ∷ xs) (suc i) (suc j) a b ne = ap (λ ys. x ∷ ys) (set_apart xs i j a b (λ e. ne (omega arith)))

-- two slots may be written in either order
pub slots_apart : (c : Cat) (m n : ℕ) (a b : Slot) → 1 ≤ m → 1 ≤ n → (m ≡ n → ⊥) → with_slot (with_slot c m a) n b ≡ with_slot (with_slot c n b) m a
slots_apart c m n a b low from ne = ap (λ (ss : List Slot). record c { files = ss }) (set_apart c.files (m - 1) (n - 1) a b (λ e. ne (omega arith)))

-- a file that is written where it stands already
pub slot_same : (c : Cat) (n : ℕ) (f : File) → file_at c n ≡ Some f → with_slot c n (slot.Used f) ≡ c
slot_same c n f at = ap (λ (ss : List Slot). record c { files = ss }) (set_same c.files (n - 1) (slot.Used f) (stands_at c n f at))

-- ---- writes

-- the blocks after writes behind writes
pub after_both : (us vs : List PlanWrite) (bs : List Block) → after_writes (us ++ vs) bs ≡ after_writes vs (after_writes us bs)
after_both [] vs bs = refl
after_both (u ∷ us) vs bs = after_both us vs (slice_set bs u.lbn u.block)

pub first_writes : (us vs : List PlanWrite) → take (length us) (us ++ vs) ≡ us
first_writes [] vs = refl
first_writes (u ∷ us) vs = ap (λ ws. u ∷ ws) (first_writes us vs)

-- ---- opens
