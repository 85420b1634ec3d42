-- Clusters that become free.
use Rattle.base_words.specs.Fields.{Block}
use Rattle.std.proofs.Common.{List, true, ◌≡◌, ◌%◌, ◌++◌, ◌∷◌, [], ℕ}
use Rattle.fx_bitmap.specs.Bits.{bits_put}
use Rattle.std.proofs.lemmas.List.Sums.{fold-append}
use Rattle.op_law.specs.Freeing.{with_free}

pub freed_more : (b : Block) (qs : List ℕ) (q : ℕ) → with_free b (qs ++ q ∷ []) ≡ bits_put (with_free b qs) (q % 4096) 1 true
unfolding with_free
freed_more b qs q = fold-append (λ c p. bits_put c (p % 4096) 1 true) b qs (q ∷ [])
