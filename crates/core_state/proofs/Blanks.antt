-- The slots of numbers outside stay free, as bitmaps are written, and as the writes of a plan are committed.
use Rattle.std.proofs.Common.{◌≡◌, ◌≢◌, ◌-◌, ℕ, List, [], Option, Some, None, map, slice_get, slice_set, refl, sym, ap, subst, ◌∙◌, inl, inr, get_or-set_other}
use Rattle.base_words.specs.Fields.{Block}
use Rattle.lock_db.specs.declared.name.LockName.{LockName}
use Rattle.plain_cat.specs.declared.cat.Cat.{Cat}
use Rattle.base_words.specs.Lists.{Has, written}
use Rattle.base_words.proofs.Listing.{same_or_not, once_apart}
use Rattle.vol_spell.specs.declared.owner.Owner.{Owner}
use Rattle.vol_spell.specs.declared.owner.Owner.TheVariants.{Free, InFile, Outside, Leaked}
use Rattle.vol_spell.specs.Owners.{Owners, OwnersMove, IsSpaceMove, IsDeathMove, Things, nothing, Outs}
use Rattle.vol_parts.specs.declared.geometry.Geometry.{Geometry}
use Rattle.vol_parts.specs.declared.geometry.Part.TheVariants.{Header, IndexBitmap, Storage}
use Rattle.vol_parts.specs.Parts.{part_of}
use Rattle.vol_spell.specs.Reading.{IsFileNumber, header_place, header_block}
use Rattle.vol_spell.specs.Spelling.{IsBlank, AreBlank, Spells}
use Rattle.vol_spell.proofs.Parts.{part_there}
use Rattle.vol_under.specs.Guards.{IsCommandMove}
use Rattle.vol_under.specs.UnderWay.{bare}
use Rattle.vol_under.specs.Keeping.{IsBitmap}
use Rattle.op_law.specs.declared.need.PlanWrite.{PlanWrite}
use Rattle.op_law.specs.Laws.{planned, MayFill, Empty, OfFile, Given, LeavesSlots}
use Rattle.core_state.proofs.Heads.{head_after}

-- ---- nothing is outside

pub nothing_blank : (g : Geometry) (bs : List Block) (own : Owners) → ((n : ℕ) → Outs n own nothing nothing) → AreBlank g bs own
nothing_blank g bs own none m node is now = absurd (elim (((none node).numbers.all (m - 1)).0 now) [ inl f ↦ f | inr f ↦ f ])

-- ---- a write of a bitmap

-- a block of a bitmap is no header slot
not_bitmap : (g : Geometry) (bs : List Block) (own : Owners) (c : Cat) (l m : ℕ) → Spells g bs own c → IsFileNumber g m → IsBitmap g l → header_place g m ≢ l
not_bitmap g bs own c l m s is bitmap e =
    let header : part_of g l ≡ Some (Header m) = ap (part_of g) (sym e) ∙ part_there g bs own c s (Header m) is in
    elim bitmap [
      | inl index ↦ absurd (let f : Some (Header m) ≡ Some IndexBitmap = sym header ∙ index in cc)
      | inr storage ↦ absurd (let f : Some (Header m) ≡ Some (Storage storage.0) = sym header ∙ storage.1 in cc)
    ]

-- what goes outside by it was free before, and its slot with it
pub bits_blank : (g : Geometry) (n : ℕ) (base : List Block) (own new : Owners) (c : Cat) (l : ℕ) (b : Block) → Spells g base own c → IsBitmap g l → OwnersMove (IsSpaceMove n) own new → AreBlank g base own → AreBlank g (slice_set base l b) new
bits_blank g n base own new c l b s bitmap moves blank m node is now =
    subst (λ (x : Block). IsBlank x) (sym (get_or-set_other base l (header_place g m) b [] (not_bitmap g base own c l m s is bitmap))) was where
      by_owner : (o : Option Owner) → slice_get own.numbers (m - 1) ≡ o → IsSpaceMove n o → IsBlank (header_block g base m)
      by_owner None e p = absurd p
      by_owner (Some Free) e p = s.slots.blank m is e
      by_owner (Some (InFile i)) e p = absurd p
      by_owner (Some (Outside k)) e p = blank m k is e
      by_owner (Some Leaked) e p = absurd p

      was : IsBlank (header_block g base m)
      was = elim (moves.numbers.each (m - 1)) [
        | inl e ↦ blank m node is (sym e ∙ now)
        | inr p ↦ by_owner (slice_get own.numbers (m - 1)) refl p.0
      ]

-- ---- the writes of a plan

-- a number was outside before, and was not given to the command
abbrev pub WasOutside : Owners → Things → ℕ → Type 0
WasOutside own took i = ((k : ℕ) × (slice_get own.numbers i ≡ Some (Outside k))) × (Has took.numbers i → ⊥)

-- so it is with all that is outside by these owners
abbrev pub WereOutside : Owners → Owners → Things → Type 0
WereOutside own new took = (i node : ℕ) → slice_get new.numbers i ≡ Some (Outside node) → WasOutside own took i

same_node : (n m : ℕ) → Some (Outside n) ≡ Some (Outside m) → n ≡ m
same_node n m e = cc

module _ (n : ℕ) (locks : List LockName) (own new : Owners) (took stock : Things) (outs : Outs n own took stock) (moves : OwnersMove (IsCommandMove n locks) own new) where
  -- what another node has outside it had before
  others_were : (i node : ℕ) → node ≢ n → slice_get new.numbers i ≡ Some (Outside node) → WasOutside own took i
  others_were i node ne now = elim (moves.numbers.each i) [
    | inl e ↦ still (sym e ∙ now)
    | inr p ↦ absurd (ne (subst (IsCommandMove n locks) now p.1))
  ] where
    still : slice_get own.numbers i ≡ Some (Outside node) → WasOutside own took i
    still e = ((node, e), λ h. absurd (ne (same_node node n (sym e ∙ (outs.numbers.all i).1 (inl h)))))

  -- after a plan that leaves its node's stock, and nothing else, outside at the node
  pub plan_outside : (left : Things) → Outs n new nothing left → left.numbers ≡ stock.numbers → WereOutside own new took
  plan_outside left outs_then same i node now = elim (same_or_not node n) [
    | inl e ↦ mine (now ∙ ap (λ k. Some (Outside k)) e)
    | inr ne ↦ others_were i node ne now
  ] where
    mine : slice_get new.numbers i ≡ Some (Outside n) → WasOutside own took i
    mine now = elim ((outs_then.numbers.all i).0 now) [
      | inl none ↦ absurd none
      | inr h ↦
          let there : Has stock.numbers i = subst (λ (is : List ℕ). Has is i) same h in
          ((n, (outs.numbers.all i).1 (inr there)), λ k. once_apart took.numbers stock.numbers outs.numbers.once i k there)
    ]

  -- after the first writes of a plan, where its node dies and has nothing outside any more
  pub death_outside : (after : Owners) → OwnersMove (IsDeathMove n) new after → Outs n after nothing nothing → WereOutside own after took
  death_outside after deaths none i node now = elim (same_or_not node n) [
    | inl e ↦ absurd (elim ((none.numbers.all i).0 (now ∙ ap (λ k. Some (Outside k)) e)) [ inl f ↦ f | inr f ↦ f ])
    | inr ne ↦ elim (deaths.numbers.each i) [
      | inl e ↦ others_were i node ne (sym e ∙ now)
      | inr p ↦ absurd (ne (subst (IsDeathMove n) now p.1))
    ]
  ]

-- writes that fill no other slots but those of files, and those of numbers that were given to the command
pub writes_blank : (g : Geometry) (base : List Block) (own new : Owners) (c : Cat) (took : Things) (ws : List PlanWrite) → Spells g base own c → LeavesSlots g own took ws → WereOutside own new took → AreBlank g base own
    → AreBlank g (written (bare (map planned ws)) base) new
writes_blank g base own new c took ws s fill were blank m node is now = elim (head_after g ws base m) [
  | inl e ↦ subst (λ (x : Block). IsBlank x) (sym e) (blank m was.0.0 is was.0.1)
  | inr h ↦ subst (λ (x : Block). IsBlank x) (sym h.3) (by_fill h.0.block (fill h.0 h.1 m (ap (part_of g) h.2 ∙ part_there g base own c s (Header m) is)))
] where
  was : WasOutside own took (m - 1)
  was = were (m - 1) node now

  by_fill : (b : Block) → MayFill own took m b → IsBlank b
  by_fill b (Empty e) = e
  by_fill b (OfFile i e) = absurd (let f : Some (InFile i) ≡ Some (Outside was.0.0) = sym e ∙ was.0.1 in cc)
  by_fill b (Given h) = absurd (was.1 h)
