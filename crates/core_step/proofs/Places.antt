-- The bitmap blocks in which a stock has its bits.
use Rattle.std.proofs.Common.{◌≡◌, ◌+◌, ◌/◌, ◌<◌, ◌≤◌, ◌-◌, ◌∙◌, ℕ, Bool, true, List, [], ◌∷◌, cond, inl, inr, refl, sym, ap, arith}
use Rattle.std.specs.Prelude.{◌==◌, not, filter}
use Rattle.std.proofs.lemmas.Bool.Decides.{nat_tests}
use Rattle.base_words.specs.Lists.{Has}
use Rattle.vol_parts.specs.declared.geometry.Geometry.{Geometry}
use Rattle.vol_parts.specs.declared.geometry.Part.TheVariants.{IndexBitmap, Storage}
use Rattle.vol_spell.specs.Places.{place_of}
use Rattle.extent_cache.specs.Stock.{is_covered}
use Rattle.core_state.specs.Stocks.{has_bit_at}
use Rattle.core_step.specs.Spaces.{IsBitmapPlace}
use Rattle.core_step.specs.Spaces as place

all_stay : (p : ℕ → Bool) (cs : List ℕ) → ((c : ℕ) → Has cs c → p c ≡ true) → cs ≡ filter p cs
all_stay p [] all = refl
all_stay p (c ∷ cs) all = ap (λ l. c ∷ l) (all_stay p cs (λ d h. all d (inr h))) ∙ sym (ap (λ b. cond b (c ∷ filter p cs) (filter p cs)) (all c (inl refl)))

-- no cluster of the stock has its bit in the index-file bitmap
pub index_keeps : (g : Geometry) (cs : List ℕ) (lbn : ℕ) → lbn ≡ place_of g IndexBitmap → IsBitmapPlace g cs lbn → cs ≡ filter (λ c. not (has_bit_at g lbn c)) cs
index_keeps g cs lbn e (place.Index f none) = all_stay (λ c. not (has_bit_at g lbn c)) cs (λ c h. ap not (none c h))
index_keeps g cs lbn e (place.InStorage k lt f other) = absurd (other e)

same_block : (b q k : ℕ) → (b + 1 + q == b + 1 + k) ≡ (q == k)
same_block b q k = grind (arith, nat_tests)

storage_filter : (g : Geometry) (cs : List ℕ) (lbn k : ℕ) → lbn ≡ place_of g (Storage k) → filter (λ c. not (is_covered k c)) cs ≡ filter (λ c. not (has_bit_at g lbn c)) cs
storage_filter g cs lbn k e = ap (λ (p : ℕ → Bool). filter p cs) (λ i c. not ((sym (same_block g.bitmap_lbn (c / 4096) k) ∙ ap (λ l. place_of g (Storage (c / 4096)) == l) (sym e)) i))

-- of a block of the storage bitmap, those that it covers go
pub storage_keeps : (g : Geometry) (cs : List ℕ) (lbn k : ℕ) → k ≡ lbn - g.bitmap_lbn - 1 → (lbn ≡ place_of g IndexBitmap → ⊥) → IsBitmapPlace g cs lbn → filter (λ c. not (is_covered k c)) cs ≡ filter (λ c. not (has_bit_at g lbn c)) cs
storage_keeps g cs lbn k is other (place.Index f none) = absurd (other f)
storage_keeps g cs lbn k is other (place.InStorage j lt f apart) = storage_filter g cs lbn k (let same : k ≡ j = omega arith in f ∙ ap (λ i. place_of g (Storage i)) (sym same))

pub storage_block : (g : Geometry) (cs : List ℕ) (lbn k : ℕ) → k ≡ lbn - g.bitmap_lbn - 1 → (lbn ≡ place_of g IndexBitmap → ⊥) → IsBitmapPlace g cs lbn → (k < 16) × (g.bitmap_lbn + 1 ≤ lbn)
storage_block g cs lbn k is other (place.Index f none) = absurd (other f)
storage_block g cs lbn k is other (place.InStorage j lt f apart) = (omega arith, omega arith)
