-- Blocks that a lock guards stand after writes under other locks.
use Rattle.std.proofs.Common.{◌≡◌, ◌≢◌, ℕ, List, [], ◌∷◌, Some, map, refl, sym, ap, subst, ◌∙◌, inl, inr}
use Rattle.std.specs.Prelude.{slice_index_or}
use Rattle.base_words.specs.Fields.{Block}
use Rattle.lock_db.specs.declared.name.LockName.{LockName}
use Rattle.lock_db.specs.declared.name.LockName.TheVariants.{S}
use Rattle.base_words.specs.Lists.{Has}
use Rattle.vol_spell.specs.Owners.{Owners}
use Rattle.base_words.proofs.ListWrites.{get-written_else, stands_still}
use Rattle.vol_spell.proofs.Placing.{blocks_kept}
use Rattle.vol_parts.specs.declared.geometry.Geometry.{Geometry}
use Rattle.vol_spell.specs.Reading.{IsFileNumber, header_place, header_block, told_of, body_places, body_blocks}
use Rattle.vol_spell.proofs.Parts.{told as file_told, slot_number}
use Rattle.vol_spell.proofs.Frames.{told_kept}
use Rattle.vol_under.specs.Guards.{Lock, Stock, guard_of}
use Rattle.vol_under.specs.UnderWay.{bare}
use Rattle.op_law.specs.declared.need.PlanWrite.{PlanWrite}
use Rattle.op_law.specs.Laws.{planned}
use Rattle.op_steps.specs.Chained.{TouchedBy, after_writes}
use Rattle.op_steps.specs.Standing.{AreBeside, OtherLocksStand, OtherFilesStand}
use Rattle.op_steps.proofs.Named.{touched_by, guarded}

module _ (node : ℕ) (locks : List LockName) (g : Geometry) (own : Owners) (ws : List PlanWrite) (name : LockName) (is : AreBeside node locks g own ws name) where
  untouched : (l : ℕ) → guard_of g own l ≡ Some (Lock name) → TouchedBy ws l → ⊥
  untouched l guard t =
      let r = touched_by ws l t in
      let w : PlanWrite = r.0 in
      let here : guard_of g own w.lbn ≡ Some (Lock name) = ap (guard_of g own) r.2 ∙ guard in
      elim (is.named w r.1).guards [
        | inl e ↦ (let both : Some (Lock w.lock) ≡ Some (Lock name) = sym e ∙ here in let same : w.lock ≡ name = cc in is.beside (subst (λ (n : LockName). Has is.names n) same (is.under w r.1)))
        | inr e ↦ absurd (let both : Some (Stock node) ≡ Some (Lock name) = sym e ∙ here in cc)
      ]

pub other_locks_stand : OtherLocksStand
other_locks_stand node locks g own ws name is = record {
  untouched = untouched node locks g own ws name is;
  one = λ bs l guard. get-written_else (bare (map planned ws)) bs l (untouched node locks g own ws name is l guard);
  many = λ bs ls all. blocks_kept (bare (map planned ws)) bs ls (λ l t u. untouched node locks g own ws name is l (all l u) t);
  seen = λ bs ss all stands. stands_still (bare (map planned ws)) bs ss (λ l t u. untouched node locks g own ws name is l (all l u) t) stands;
}

pub other_files_stand : OtherFilesStand
other_files_stand node locks g base own c ws n s is beside =
    let after : List Block = after_writes ws base in
    let still = other_locks_stand node locks g own ws (S n) (beside n (inl refl)) in
    let by = guarded g base own c s in
    let head : header_block g after n ≡ header_block g base n =
    ap (λ (ys : List Block). slice_index_or ys 0 []) (still.many base (header_place g n ∷ []) (λ l t. elim t [ inl e ↦ ap (guard_of g own) (sym e) ∙ by.header n is | inr f ↦ absurd f ])) in
    let there : (m : ℕ) → Has (n ∷ (told_of g base n).slots) m → IsFileNumber g m = λ m u. elim u [ inl e ↦ subst (IsFileNumber g) e is | inr v ↦ slot_number g base own c s n m is v ] in
    let apart : (l : ℕ) → TouchedBy ws l → (m : ℕ) → Has (n ∷ (told_of g base n).slots) m → header_place g m ≢ l =
    λ l t m u e. (other_locks_stand node locks g own ws (S m) (beside m u)).untouched l (ap (guard_of g own) (sym e) ∙ by.header m (there m u)) t in
    let told : told_of g after n ≡ told_of g base n = told_kept g (bare (map planned ws)) base n (file_told g base own c s n is).size apart in
    record { header = head; told = told; body = ap (body_blocks after n) told ∙ still.many base (body_places n (told_of g base n)) (λ l t. by.body n l is t) }
