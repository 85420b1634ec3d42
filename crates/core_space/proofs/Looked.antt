-- The blocks that a search looks at.
use Rattle.std.proofs.Common.{◌≡◌, ◌<◌, ◌+◌, ◌++◌, ℕ, zero, suc, Bool, true, false, List, [], ◌∷◌, Some, None, length, slice_get, refl, ap, subst, ◌∙◌, inl, inr, arith}
use Rattle.std.specs.List.{range_with_len, zip}
use Rattle.base_words.specs.Fields.{Block}
use Rattle.lock_db.specs.declared.name.LockName.TheVariants.{V}
use Rattle.plain_cat.specs.declared.cat.Cat.{Cat}
use Rattle.base_words.proofs.Listing.{has_mapped}
use Rattle.vol_spell.specs.declared.owner.Owner.TheVariants.{InFile}
use Rattle.base_words.specs.Lists.{Has}
use Rattle.vol_spell.specs.Owners.{Owners}
use Rattle.vol_spell.proofs.Placing.{has_ranged}
use Rattle.vol_parts.specs.declared.geometry.Geometry.{Geometry}
use Rattle.vol_parts.specs.declared.geometry.Part.TheVariants.{IndexBitmap, Storage}
use Rattle.vol_parts.specs.Parts.{storage_blocks}
use Rattle.vol_spell.specs.Reading.{total_of, owner_at}
use Rattle.vol_spell.specs.Places.{place_of}
use Rattle.vol_spell.specs.Spelling.{Spells}
use Rattle.vol_spell.proofs.Parts.{part_there, part_owner}
use Rattle.vol_spell.proofs.Frames.{on_volume}
use Rattle.vol_under.specs.Guards.{Lock, guard_of, guard_by}
use Rattle.vol_under.specs.Keeping.{IsBitmap}
use Rattle.core_space.specs.Searching.{cluster_places, places}
use Rattle.core_space.specs.Taking.{PlacesLie, LookedGrows}

-- ---- where they lie

-- what is to be shown of a place
record Lies (g : Geometry) (base : List Block) (own : Owners) (l : ℕ) : Type 0 where
  inside : l < length base
  bitmap : IsBitmap g l
  guard : guard_of g own l ≡ Some (Lock V)

index_lies : (g : Geometry) (base : List Block) (own : Owners) (c : Cat) → Spells g base own c → Lies g base own (place_of g IndexBitmap)
index_lies g base own c s =
    let l = place_of g IndexBitmap in
    let part = part_there g base own c s IndexBitmap tt in
    record {
      inside = on_volume g base own c s l (InFile 1) (part_owner g base own c s l IndexBitmap part);
      bitmap = inl part;
      guard = ap (λ p. guard_by p (owner_at g own l)) part;
    }

storage_lies : (g : Geometry) (base : List Block) (own : Owners) (c : Cat) (k : ℕ) → Spells g base own c → k < storage_blocks (total_of g) → Lies g base own (place_of g (Storage k))
storage_lies g base own c k s lt =
    let l = place_of g (Storage k) in
    let part = part_there g base own c s (Storage k) lt in
    record {
      inside = on_volume g base own c s l (InFile 2) (part_owner g base own c s l (Storage k) part);
      bitmap = inr (k, part);
      guard = ap (λ p. guard_by p (owner_at g own l)) part;
    }

clusters_lie : (g : Geometry) (clusters l : ℕ) (base : List Block) (own : Owners) (c : Cat) → Has (cluster_places g clusters) l → Spells g base own c → Lies g base own l
clusters_lie g zero l base own c t s = absurd t
clusters_lie g (suc more) l base own c t s =
    let m = has_mapped (λ j. place_of g (Storage j)) (range_with_len 0 (storage_blocks (total_of g))) l t in
    let r = has_ranged 0 (storage_blocks (total_of g)) m.0 m.1 in
    let hi : m.0 < 0 + storage_blocks (total_of g) = r.1 in
    subst (λ (x : ℕ). Lies g base own x) m.2 (storage_lies g base own c m.0 s (omega arith))

lies : (g : Geometry) (clusters : ℕ) (number : Bool) (l : ℕ) (base : List Block) (own : Owners) (c : Cat) → Has (places g clusters number) l → Spells g base own c → Lies g base own l
lies g clusters false l base own c t s = clusters_lie g clusters l base own c t s
lies g clusters true l base own c (inl e) s = subst (λ (x : ℕ). Lies g base own x) e (index_lies g base own c s)
lies g clusters true l base own c (inr t) s = clusters_lie g clusters l base own c t s

pub places_lie : PlacesLie
places_lie g clusters number l base own c t s = let h = lies g clusters number l base own c t s in (h.inside, h.bitmap, h.guard)

-- ---- one more

zip_more : (ls : List ℕ) (bs : List Block) (l : ℕ) (b : Block) → slice_get ls (length bs) ≡ Some l → zip ls (bs ++ b ∷ []) ≡ zip ls bs ++ (l, b) ∷ []
zip_more [] bs l b e = absurd (let f : None ≡ Some l = e in cc)
zip_more (k ∷ ls) [] l b e =
    let same : k ≡ l = (let f : Some k ≡ Some l = e in cc) in
    ap (λ (x : ℕ × Block). x ∷ zip ls []) (ap (λ (x : ℕ). let y : ℕ × Block = (x, b) in y) same) ∙ ap (λ (xs : List (ℕ × Block)). (l, b) ∷ xs) (zip_none ls) where
      zip_none : (ls : List ℕ) → let none : List Block = [] in zip ls none ≡ []
      zip_none [] = refl
      zip_none (k ∷ ls) = refl
zip_more (k ∷ ls) (c ∷ bs) l b e = ap (λ (xs : List (ℕ × Block)). (k, c) ∷ xs) (zip_more ls bs l b e)

pub looked_grows : LookedGrows
looked_grows g clusters number bs lbn b e = zip_more (places g clusters number) bs lbn b e
