-- The bits of a block in which some were changed.
use Rattle.std.proofs.Common.{◌≡◌, ◌≢◌, ◌<◌, ◌%◌, ℕ, Bool, true, false, List, [], ◌∷◌, refl, ap, subst, ◌∙◌, inl, inr, arith, if◌then◌else◌}
use Rattle.std.proofs.lemmas.Bool.Decides.{nat_tests}
use Rattle.base_words.specs.Fields.{Block, IsWholeBlock}
use Rattle.fx_bitmap.specs.Bits.{bit_at, is_among, bits_put}
use Rattle.vol_parts.proofs.Tables.{whole_bits}
use Rattle.base_words.specs.Lists.{Has}
use Rattle.base_words.proofs.Listing.{same_or_not}
use Rattle.core_space.specs.Searching.{with_taken}
use Rattle.fx_bitmap.proofs.BitRuns.{bits_put_at}

-- one bit that was changed, and the others
pub put_here : (b : Block) (i : ℕ) (value : Bool) → i < 4096 → bit_at (bits_put b i 1 value) i ≡ value
put_here b i value h =
    let here : is_among i 1 i ≡ true = grind (arith, nat_tests) in
    bits_put_at b i 1 i value h ∙ ap (λ (t : Bool). if t then value else bit_at b i) here

pub put_there : (b : Block) (i j : ℕ) (value : Bool) → j < 4096 → j ≢ i → bit_at (bits_put b i 1 value) j ≡ bit_at b j
put_there b i j value h ne =
    let there : is_among i 1 j ≡ false = grind (arith, nat_tests) in
    bits_put_at b i 1 j value h ∙ ap (λ (t : Bool). if t then value else bit_at b j) there

-- a bit that is clear stays clear
put_clear : (b : Block) (i j : ℕ) → j < 4096 → bit_at b j ≡ false → bit_at (bits_put b i 1 false) j ≡ false
put_clear b i j h e = elim (same_or_not j i) [
  | inl same ↦ ap (λ k. bit_at (bits_put b i 1 false) k) same ∙ put_here b i false (subst (λ (k : ℕ). k < 4096) same h)
  | inr ne ↦ put_there b i j false h ne ∙ e
]

pub stays_clear : (qs : List ℕ) (b : Block) (i : ℕ) → i < 4096 → bit_at b i ≡ false → bit_at (with_taken b qs) i ≡ false
unfolding with_taken
stays_clear [] b i h e = e
stays_clear (q ∷ qs) b i h e = stays_clear qs (bits_put b (q % 4096) 1 false) i h (put_clear b (q % 4096) i h e)

pub cleared : (qs : List ℕ) (b : Block) (q : ℕ) → Has qs q → bit_at (with_taken b qs) (q % 4096) ≡ false
unfolding with_taken
cleared [] b q t = absurd t
cleared (p ∷ qs) b q (inl e) =
    let lt : q % 4096 < 4096 = omega arith in
    stays_clear qs (bits_put b (p % 4096) 1 false) (q % 4096) lt
    (ap (λ k. bit_at (bits_put b (k % 4096) 1 false) (q % 4096)) e ∙ put_here b (q % 4096) false lt)
cleared (p ∷ qs) b q (inr t) = cleared qs (bits_put b (p % 4096) 1 false) q t

pub kept : (qs : List ℕ) (b : Block) (i : ℕ) → i < 4096 → ((q : ℕ) → Has qs q → i ≢ q % 4096) → bit_at (with_taken b qs) i ≡ bit_at b i
unfolding with_taken
kept [] b i h apart = refl
kept (q ∷ qs) b i h apart =
    kept qs (bits_put b (q % 4096) 1 false) i h (λ p t. apart p (inr t)) ∙ put_there b (q % 4096) i false h (apart q (inl refl))

-- a bit that is set was set
was_set : (x y : Bool) → (y ≡ false → x ≡ false) → x ≡ true → y ≡ true
was_set x true f e = refl
was_set x false f e = absurd (let g : x ≡ false = f refl in cc)

pub set_before : (qs : List ℕ) (b : Block) (i : ℕ) → i < 4096 → bit_at (with_taken b qs) i ≡ true → bit_at b i ≡ true
set_before qs b i h e = was_set (bit_at (with_taken b qs) i) (bit_at b i) (stays_clear qs b i h) e

-- a block in which bits were changed is whole
pub whole_taken : (qs : List ℕ) (q : ℕ) (b : Block) → IsWholeBlock (with_taken b (q ∷ qs))
unfolding with_taken
whole_taken [] q b = whole_bits b (q % 4096) 1 false
whole_taken (p ∷ qs) q b = whole_taken qs p (bits_put b (q % 4096) 1 false)
