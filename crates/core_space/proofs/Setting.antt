-- The bits of a block in which some were set or cleared, one after another.
use Rattle.std.proofs.Common.{◌≡◌, ◌≢◌, ◌<◌, ◌≤◌, ◌-◌, ◌/◌, ◌%◌, ◌⊎◌, ℕ, Bool, true, false, List, [], ◌∷◌, refl, sym, ap, subst, ◌∙◌, inl, inr, arith}
use Rattle.std.specs.Prelude.{◌↔◌}
use Rattle.std.specs.List.{fold}
use Rattle.base_words.specs.Fields.{Block, IsWholeBlock}
use Rattle.fx_bitmap.specs.Bits.{bit_at, bits_put}
use Rattle.vol_parts.proofs.Tables.{whole_bits}
use Rattle.base_words.proofs.Listing.{has_map, has_mapped}
use Rattle.base_words.specs.Lists.{Has, Once}
use Rattle.base_words.proofs.Listing.{same_or_not, has_or_not}
use Rattle.vol_parts.specs.declared.geometry.Geometry.{Geometry}
use Rattle.vol_under.specs.Refilling.{AreNumbersTaken, AreNumbersGiven, AreGiven, LieIn}
use Rattle.core_space.proofs.BitRuns.{put_here, put_there}
use Rattle.core_space.specs.Filling.{with_used}
use Rattle.op_law.specs.Freeing.{with_free, without_numbers}
use Rattle.core_space.specs.Laws.{places_of}
use Rattle.base_words.proofs.Numbers.{same_cluster}

-- the block in which, for each of these, the bit at its place has a value
abbrev put_all : (ℕ → ℕ) → Bool → Block → List ℕ → Block
put_all f value b xs = fold (λ c x. bits_put c (f x) 1 value) b xs

-- a bit that has the value keeps it
stays_put : (f : ℕ → ℕ) (value : Bool) (xs : List ℕ) (b : Block) (i : ℕ) → i < 4096 → bit_at b i ≡ value → bit_at (put_all f value b xs) i ≡ value
stays_put f value [] b i h e = e
stays_put f value (x ∷ xs) b i h e = stays_put f value xs (bits_put b (f x) 1 value) i h (by_place (same_or_not i (f x))) where
  by_place : (i ≡ f x) ⊎ (i ≢ f x) → bit_at (bits_put b (f x) 1 value) i ≡ value
  by_place (inl same) = ap (λ k. bit_at (bits_put b (f x) 1 value) k) same ∙ put_here b (f x) value (subst (λ (k : ℕ). k < 4096) same h)
  by_place (inr ne) = put_there b (f x) i value h ne ∙ e

-- those that are put have it
is_put : (f : ℕ → ℕ) (value : Bool) (xs : List ℕ) (b : Block) (x : ℕ) → Has xs x → f x < 4096 → bit_at (put_all f value b xs) (f x) ≡ value
is_put f value [] b x t h = absurd t
is_put f value (y ∷ xs) b x (inl e) h = stays_put f value xs (bits_put b (f y) 1 value) (f x) h (ap (λ k. bit_at (bits_put b (f k) 1 value) (f x)) e ∙ put_here b (f x) value h)
is_put f value (y ∷ xs) b x (inr t) h = is_put f value xs (bits_put b (f y) 1 value) x t h

-- all others are as they were
others_stay : (f : ℕ → ℕ) (value : Bool) (xs : List ℕ) (b : Block) (i : ℕ) → i < 4096 → ((x : ℕ) → Has xs x → i ≢ f x) → bit_at (put_all f value b xs) i ≡ bit_at b i
others_stay f value [] b i h apart = refl
others_stay f value (x ∷ xs) b i h apart =
    others_stay f value xs (bits_put b (f x) 1 value) i h (λ y t. apart y (inr t)) ∙ put_there b (f x) i value h (apart x (inl refl))

whole_put : (f : ℕ → ℕ) (value : Bool) (xs : List ℕ) (x : ℕ) (b : Block) → IsWholeBlock (put_all f value b (x ∷ xs))
whole_put f value [] x b = whole_bits b (f x) 1 value
whole_put f value (y ∷ xs) x b = whole_put f value xs y (bits_put b (f x) 1 value)

-- ---- file numbers

at_place : (xs : List ℕ) (i : ℕ) → Has (places_of xs) i → (n : ℕ) × Has xs n × (n - 1 ≡ i)
at_place xs i t = has_mapped (λ n. n - 1) xs i t

not_at : (xs : List ℕ) (i : ℕ) → (Has (places_of xs) i → ⊥) → (n : ℕ) → Has xs n → i ≢ n - 1
not_at xs i away n t e = away (subst (λ (k : ℕ). Has (places_of xs) k) (sym e) (has_map (λ n. n - 1) xs n t))

bit_put_at : (value : Bool) (xs : List ℕ) (b : Block) (i : ℕ) → i < 4096 → Has (places_of xs) i → bit_at (put_all (λ n. n - 1) value b xs) i ≡ value
bit_put_at value xs b i h t =
    let n = at_place xs i t in
    subst (λ (k : ℕ). bit_at (put_all (λ n. n - 1) value b xs) k ≡ value) n.2 (is_put (λ n. n - 1) value xs b n.0 n.1 (subst (λ (k : ℕ). k < 4096) (sym n.2) h))

pub are_numbers_taken : (g : Geometry) (b : Block) (n : ℕ) (ns : List ℕ) → g.files ≤ 4096 → Once (places_of (n ∷ ns)) → ((i : ℕ) → Has (places_of (n ∷ ns)) i → (i < g.files) × (bit_at b i ≡ false)) → AreNumbersTaken g (places_of (n ∷ ns)) b (with_used b (n ∷ ns))
unfolding with_used
are_numbers_taken g b n ns fit once free = record {
  whole = whole_put (λ n. n - 1) true ns n b;
  once = once;
  inside = λ i t. (free i t).0;
  free = λ i t. (free i t).1;
  bits = λ i lt. bits i (omega arith) (has_or_not (places_of (n ∷ ns)) i);
} where
  bits : (i : ℕ) → i < 4096 → Has (places_of (n ∷ ns)) i ⊎ (Has (places_of (n ∷ ns)) i → ⊥) → (bit_at (put_all (λ n. n - 1) true b (n ∷ ns)) i ≡ false) ↔ ((bit_at b i ≡ false) × (Has (places_of (n ∷ ns)) i → ⊥))
  bits i lt (inl t) = (
    (λ f. absurd (let g : true ≡ false = sym (bit_put_at true (n ∷ ns) b i lt t) ∙ f in cc)),
    (λ p. absurd (p.1 t)),
  )
  bits i lt (inr away) = (
    (λ f. (sym (others_stay (λ n. n - 1) true (n ∷ ns) b i lt (not_at (n ∷ ns) i away)) ∙ f, away)),
    (λ p. others_stay (λ n. n - 1) true (n ∷ ns) b i lt (not_at (n ∷ ns) i away) ∙ p.0),
  )

-- ---- numbers that become free

pub are_numbers_given : (g : Geometry) (b : Block) (n : ℕ) (ns : List ℕ) → g.files ≤ 4096 → AreNumbersGiven g (places_of (n ∷ ns)) b (without_numbers b (n ∷ ns))
unfolding without_numbers
are_numbers_given g b n ns fit = record {
  whole = whole_put (λ n. n - 1) false ns n b;
  bits = λ i lt. bits i (omega arith) (has_or_not (places_of (n ∷ ns)) i);
} where
  bits : (i : ℕ) → i < 4096 → Has (places_of (n ∷ ns)) i ⊎ (Has (places_of (n ∷ ns)) i → ⊥) → (bit_at (put_all (λ n. n - 1) false b (n ∷ ns)) i ≡ false) ↔ ((bit_at b i ≡ false) ⊎ Has (places_of (n ∷ ns)) i)
  bits i lt (inl t) = ((λ f. inr t), (λ p. bit_put_at false (n ∷ ns) b i lt t))
  bits i lt (inr away) = (
    (λ f. inl (sym (others_stay (λ n. n - 1) false (n ∷ ns) b i lt (not_at (n ∷ ns) i away)) ∙ f)),
    (λ p. elim p [ inl f ↦ others_stay (λ n. n - 1) false (n ∷ ns) b i lt (not_at (n ∷ ns) i away) ∙ f | inr t ↦ absurd (away t) ]),
  )

pub are_given : (g : Geometry) (k : ℕ) (b : Block) (q : ℕ) (qs : List ℕ) → LieIn g k (q ∷ qs) → AreGiven g k (q ∷ qs) b (with_free b (q ∷ qs))
unfolding with_free
are_given g k b q qs inside = record {
  whole = whole_put (λ x. x % 4096) true qs q b;
  inside = inside;
  bits = λ p lt e. bits p e (has_or_not (q ∷ qs) p);
} where
  low : (p : ℕ) → p % 4096 < 4096
  low p = omega arith

  away_from : (p : ℕ) → p / 4096 ≡ k → (Has (q ∷ qs) p → ⊥) → (x : ℕ) → Has (q ∷ qs) x → p % 4096 ≢ x % 4096
  away_from p e away x t same = away (let P : ℕ → Type 0 = λ y. Has (q ∷ qs) y in subst P (sym (same_cluster k p x e (inside x t).1 same)) t)

  bits : (p : ℕ) → p / 4096 ≡ k → Has (q ∷ qs) p ⊎ (Has (q ∷ qs) p → ⊥) → (bit_at (put_all (λ x. x % 4096) true b (q ∷ qs)) (p % 4096) ≡ true) ↔ ((bit_at b (p % 4096) ≡ true) ⊎ Has (q ∷ qs) p)
  bits p e (inl t) = ((λ f. inr t), (λ f. is_put (λ x. x % 4096) true (q ∷ qs) b p t (low p)))
  bits p e (inr away) = (
    (λ f. inl (sym (others_stay (λ x. x % 4096) true (q ∷ qs) b (p % 4096) (low p) (away_from p e away)) ∙ f)),
    (λ f. elim f [ inl h ↦ others_stay (λ x. x % 4096) true (q ∷ qs) b (p % 4096) (low p) (away_from p e away) ∙ h | inr t ↦ absurd (away t) ]),
  )
