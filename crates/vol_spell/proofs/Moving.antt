-- Owners that move.
use Rattle.std.proofs.Common.{◌≡◌, ◌⊎◌, ℕ, List, Option, Some, slice_get, refl, sym, subst, ◌∙◌, inl, inr}
use Rattle.vol_spell.specs.declared.owner.Owner.{Owner}
use Rattle.vol_spell.specs.declared.owner.Owner.TheVariants.{Outside}
use Rattle.vol_spell.specs.Owners.{Moves}
use Rattle.vol_spell.specs.OwnerLaws.{OwnerStays, MovesCompose, MovesGrow, OutStays}

pub owner_stays : (P : Option Owner → Type 0) → OwnerStays P
owner_stays P xs ys o moves not q = elim (moves.each q) [
  | inl e ↦ ((λ h. sym e ∙ h), (λ h. e ∙ h))
  | inr m ↦ ((λ h. absurd (not (subst P h m.1))), (λ h. absurd (not (subst P h m.0))))
]

pub still : (P : Option Owner → Type 0) (xs : List Owner) → Moves P xs xs
still P xs = record { count = refl; each = λ q. inl refl }

pub chain : (P : Option Owner → Type 0) (xs ys zs : List Owner) → Moves P xs ys → Moves P ys zs → Moves P xs zs
chain P xs ys zs a b = record { count = b.count ∙ a.count; each = λ q. one q (a.each q) (b.each q) } where
  one : (q : ℕ) → (slice_get ys q ≡ slice_get xs q) ⊎ (P (slice_get xs q) × P (slice_get ys q)) → (slice_get zs q ≡ slice_get ys q) ⊎ (P (slice_get ys q) × P (slice_get zs q))
      → (slice_get zs q ≡ slice_get xs q) ⊎ (P (slice_get xs q) × P (slice_get zs q))
  one q (inl e) (inl f) = inl (f ∙ e)
  one q (inl e) (inr m) = inr (subst P e m.0, m.1)
  one q (inr m) (inl f) = inr (m.0, subst P (sym f) m.1)
  one q (inr m) (inr k) = inr (m.0, k.1)

pub moves_compose : (P : Option Owner → Type 0) → MovesCompose P
moves_compose P = record {
  still = λ own. record { clusters = still P own.clusters; numbers = still P own.numbers };
  chain = λ own mid new a b. record { clusters = chain P own.clusters mid.clusters new.clusters a.clusters b.clusters; numbers = chain P own.numbers mid.numbers new.numbers a.numbers b.numbers };
}

pub grown : (P R : Option Owner → Type 0) (xs ys : List Owner) → ((o : Option Owner) → P o → R o) → Moves P xs ys → Moves R xs ys
grown P R xs ys wider m = record { count = m.count; each = λ q. elim (m.each q) [ inl e ↦ inl e | inr h ↦ inr (wider (slice_get xs q) h.0, wider (slice_get ys q) h.1) ] }

pub moves_grow : (P R : Option Owner → Type 0) → MovesGrow P R
moves_grow P R wider own new m = record { clusters = grown P R own.clusters new.clusters wider m.clusters; numbers = grown P R own.numbers new.numbers wider m.numbers }

pub out_stays : (P : Option Owner → Type 0) → OutStays P
out_stays P m xs ys took stock moves not out =
    record {
      all = λ q. let s = owner_stays P xs ys (Some (Outside m)) moves not q in ((λ e. (out.all q).0 (s.0 e)), (λ t. s.1 ((out.all q).1 t)));
      once = out.once;
    }
