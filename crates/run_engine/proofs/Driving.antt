-- What the image tells over turns.
use Rattle.std.proofs.Common.{◌≡◌, ◌⊎◌, List, Option, Some, None, refl, sym, ap, subst, ◌∙◌, inl, inr}
use Rattle.base_words.specs.Fields.{Block}
use Rattle.core_state.specs.Images.{IsTorn}
use Rattle.blk_drive.specs.Telling.{IsTold}
use Rattle.blk_drive.specs.Telling.{told_as}

-- it tells what it told, where its blocks are the same
pub told_same : (t : Option (List Block)) (bs : List Block) → IsTold t bs → t ≡ told_as t bs
told_same None bs h = refl
told_same (Some x) bs h = ap Some (sym h)

is_told : (t u : Option (List Block)) (bs : List Block) → u ≡ told_as t bs → IsTold u bs
is_told None u bs e = subst (λ x. IsTold x bs) (sym e) tt
is_told (Some x) u bs e = subst (λ y. IsTold y bs) (sym e) refl

as_before : (t u : Option (List Block)) (bs cs : List Block) → u ≡ told_as t bs → told_as u cs ≡ told_as t cs
as_before None u bs cs e = ap (λ x. told_as x cs) e
as_before (Some x) u bs cs e = ap (λ y. told_as y cs) e

-- one step more
pub told_on : (P : Type 0) (t u v : Option (List Block)) (bs cs : List Block) → u ≡ told_as t bs → (IsTold u bs → (v ≡ told_as u cs) ⊎ P) → (v ≡ told_as t cs) ⊎ P
told_on P t u v bs cs e step = by (step (is_told t u bs e)) where
  by : (v ≡ told_as u cs) ⊎ P → (v ≡ told_as t cs) ⊎ P
  by (inl f) = inl (f ∙ as_before t u bs cs e)
  by (inr p) = inr p

-- where the fault did not come
pub told_well : (P : Type 0) (t u : Option (List Block)) → (t ≡ u) ⊎ P → (P → ⊥) → t ≡ u
told_well P t u (inl e) none = e
told_well P t u (inr p) none = absurd (none p)

-- what a turn leaves where its write fails, after turns that went well
pub torn_on : (t u v : Option (List Block)) (bs before after : List Block) → u ≡ told_as t bs → (IsTold u bs → IsTorn u v before after) → IsTorn t v before after
torn_on t u v bs before after e torn = by (torn (is_told t u bs e)) where
  by : IsTorn u v before after → IsTorn t v before after
  by (inl f) = inl (f ∙ as_before t u bs before e)
  by (inr f) = inr (f ∙ as_before t u bs after e)
