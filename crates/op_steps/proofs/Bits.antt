-- A block in which bits were put one after another.
use Rattle.std.proofs.Common.{◌≡◌, ◌≢◌, ◌<◌, ℕ, Bool, true, false, List, [], ◌∷◌, refl, ap, subst, ◌∙◌, inl, inr, arith, if◌then◌else◌}
use Rattle.std.specs.List.{fold}
use Rattle.std.proofs.lemmas.Bool.Decides.{nat_tests}
use Rattle.base_words.specs.Fields.{Block, IsWholeBlock}
use Rattle.fx_bitmap.specs.Bits.{bit_at, is_among, bits_put}
use Rattle.vol_parts.proofs.Tables.{whole_bits}
use Rattle.base_words.specs.Lists.{Has}
use Rattle.base_words.proofs.Listing.{same_or_not}
use Rattle.fx_bitmap.proofs.BitRuns.{bits_put_at}

-- one bit that was put, and the others
put_here : (b : Block) (i : ℕ) (value : Bool) → i < 4096 → bit_at (bits_put b i 1 value) i ≡ value
put_here b i value h =
    let here : is_among i 1 i ≡ true = grind (arith, nat_tests) in
    bits_put_at b i 1 i value h ∙ ap (λ (t : Bool). if t then value else bit_at b i) here

put_there : (b : Block) (i j : ℕ) (value : Bool) → j < 4096 → j ≢ i → bit_at (bits_put b i 1 value) j ≡ bit_at b j
put_there b i j value h ne =
    let there : is_among i 1 j ≡ false = grind (arith, nat_tests) in
    bits_put_at b i 1 j value h ∙ ap (λ (t : Bool). if t then value else bit_at b j) there

-- the bits at the places of these are put to a value, one after another
module _ (value : Bool) (place : ℕ → ℕ) where
  abbrev pub all_put : Block → List ℕ → Block
  all_put b qs = fold (λ c q. bits_put c (place q) 1 value) b qs

  put_stays : (b : Block) (i j : ℕ) → j < 4096 → bit_at b j ≡ value → bit_at (bits_put b i 1 value) j ≡ value
  put_stays b i j h e = elim (same_or_not j i) [
    | inl same ↦ ap (λ k. bit_at (bits_put b i 1 value) k) same ∙ put_here b i value (subst (λ (k : ℕ). k < 4096) same h)
    | inr ne ↦ put_there b i j value h ne ∙ e
  ]

  -- a bit of this value keeps it
  pub stays : (qs : List ℕ) (b : Block) (i : ℕ) → i < 4096 → bit_at b i ≡ value → bit_at (all_put b qs) i ≡ value
  stays [] b i h e = e
  stays (q ∷ qs) b i h e = stays qs (bits_put b (place q) 1 value) i h (put_stays b (place q) i h e)

  -- each of these bits has it
  pub is_put : (qs : List ℕ) (b : Block) (q : ℕ) → place q < 4096 → Has qs q → bit_at (all_put b qs) (place q) ≡ value
  is_put [] b q lt t = absurd t
  is_put (p ∷ qs) b q lt (inl e) =
      stays qs (bits_put b (place p) 1 value) (place q) lt
      (ap (λ k. bit_at (bits_put b (place k) 1 value) (place q)) e ∙ put_here b (place q) value lt)
  is_put (p ∷ qs) b q lt (inr t) = is_put qs (bits_put b (place p) 1 value) q lt t

  -- the others are as they were
  pub kept : (qs : List ℕ) (b : Block) (i : ℕ) → i < 4096 → ((q : ℕ) → Has qs q → i ≢ place q) → bit_at (all_put b qs) i ≡ bit_at b i
  kept [] b i h apart = refl
  kept (q ∷ qs) b i h apart =
      kept qs (bits_put b (place q) 1 value) i h (λ p t. apart p (inr t)) ∙ put_there b (place q) i value h (apart q (inl refl))

  pub whole_put : (qs : List ℕ) (b : Block) → IsWholeBlock b → IsWholeBlock (all_put b qs)
  whole_put [] b w = w
  whole_put (q ∷ qs) b w = whole_put qs (bits_put b (place q) 1 value) (whole_bits b (place q) 1 value)
