-- What is free in a block, and what is taken of it.
use Rattle.std.proofs.Common.{◌≡◌, ◌<◌, ◌≤◌, ◌+◌, ◌-◌, ◌*◌, ◌/◌, ◌%◌, ℕ, zero, suc, Bool, true, false, List, [], ◌∷◌, Some, None, length, refl, sym, ap, ◌∙◌, inl, inr, arith, cond}
use Rattle.std.specs.Prelude.{min, not, take, find}
use Rattle.std.specs.List.{range_with_len}
use Rattle.base_words.specs.Fields.{Block}
use Rattle.fx_bitmap.specs.Bits.{bit_at}
use Rattle.base_words.proofs.Listing.{has_filtered}
use Rattle.base_words.specs.Lists.{Has, Once}
use Rattle.base_words.proofs.Listing.{filtered}
use Rattle.vol_spell.proofs.Placing.{has_ranged}
use Rattle.vol_spell.proofs.Clusters.{once_range}
use Rattle.vol_parts.specs.declared.geometry.Geometry.{Geometry}
use Rattle.vol_spell.specs.Reading.{total_of}
use Rattle.core_space.specs.Searching.{free_number, clusters_in, free_in, taken_in}
use Rattle.op_law.proofs.Asking.{not_so}

pub has_taken : (n : ℕ) (xs : List ℕ) (x : ℕ) → Has (take n xs) x → Has xs x
has_taken zero xs x t = absurd t
has_taken (suc n) [] x t = absurd t
has_taken (suc n) (y ∷ xs) x (inl e) = inl e
has_taken (suc n) (y ∷ xs) x (inr t) = inr (has_taken n xs x t)

pub once_taken : (n : ℕ) (xs : List ℕ) → Once xs → Once (take n xs)
once_taken zero xs o = tt
once_taken (suc n) [] o = tt
once_taken (suc n) (y ∷ xs) o = ((λ t. o.0 (has_taken n xs y t)), once_taken n xs o.1)

-- a cluster that has its bit in block k
pub record LiesIn (g : Geometry) (k q : ℕ) : Type 0 where
  pub inside : q < total_of g
  pub block : q / 4096 ≡ k

pub lies_in : (g : Geometry) (k q : ℕ) → Has (clusters_in g k) q → LiesIn g k q
lies_in g k q t =
    let h = has_ranged (4096 * k) (min (4096 * k + 4096) (total_of g) - 4096 * k) q t in
    let lo : 4096 * k ≤ q = h.0 in
    let hi : q < 4096 * k + (min (4096 * k + 4096) (total_of g) - 4096 * k) = h.1 in
    record { inside = omega arith; block = omega arith }

pub has_free : (g : Geometry) (k : ℕ) (b : Block) (q : ℕ) → Has (free_in g k b) q → LiesIn g k q × (bit_at b (q % 4096) ≡ true)
unfolding free_in
has_free g k b q t =
    let h = has_filtered (λ q. bit_at b (q % 4096)) (clusters_in g k) q t in
    (lies_in g k q h.0, h.1)

pub once_free : (g : Geometry) (k : ℕ) (b : Block) → Once (free_in g k b)
unfolding free_in
once_free g k b = filtered.once (λ q. bit_at b (q % 4096)) (clusters_in g k) (once_range (4096 * k) (min (4096 * k + 4096) (total_of g) - 4096 * k))

pub has_taken_in : (g : Geometry) (wanted : ℕ) (before : List ℕ) (k : ℕ) (b : Block) (q : ℕ) → Has (taken_in g wanted before k b) q → LiesIn g k q × (bit_at b (q % 4096) ≡ true)
unfolding taken_in
has_taken_in g wanted before k b q t = has_free g k b q (has_taken (wanted - length before) (free_in g k b) q t)

pub once_taken_in : (g : Geometry) (wanted : ℕ) (before : List ℕ) (k : ℕ) (b : Block) → Once (taken_in g wanted before k b)
unfolding taken_in
once_taken_in g wanted before k b = once_taken (wanted - length before) (free_in g k b) (once_free g k b)

-- what a search for a number finds
pub found_passes : (p : ℕ → Bool) (xs : List ℕ) (n : ℕ) → find p xs ≡ Some n → Has xs n × (p n ≡ true)
found_passes p [] n e = absurd (let f : None ≡ Some n = e in cc)
found_passes p (x ∷ xs) n e = by_test (p x) refl e (λ f. found_passes p xs n f) where
  by_test : (b : Bool) → p x ≡ b → cond b (Some x) (find p xs) ≡ Some n → (find p xs ≡ Some n → Has xs n × (p n ≡ true)) → Has (x ∷ xs) n × (p n ≡ true)
  by_test true t f rest = let same : x ≡ n = (let h : Some x ≡ Some n = f in cc) in (inl same, ap p (sym same) ∙ t)
  by_test false t f rest = let r = rest f in (inr r.0, r.1)

pub record IsClearNumber (g : Geometry) (b : Block) (n : ℕ) : Type 0 where
  pub from : 1 ≤ n
  pub to : n ≤ g.files
  pub clear : bit_at b (n - 1) ≡ false

pub free_number_clear : (g : Geometry) (b : Block) (n : ℕ) → free_number g b ≡ Some n → IsClearNumber g b n
unfolding free_number
free_number_clear g b n e =
    let h = found_passes (λ n. not (bit_at b (n - 1))) (range_with_len 1 g.files) n e in
    let r = has_ranged 1 g.files n h.0 in
    let hi : n < 1 + g.files = r.1 in
    record { from = r.0; to = omega arith; clear = not_so (bit_at b (n - 1)) h.1 }
