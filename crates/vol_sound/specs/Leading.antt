-- Directories that entries lead back to.
use Rattle.std.specs.Prelude.{◌≡◌, ◌&&◌, ◌||◌, ◌↔◌, ℕ, Bool, true, List, [], ◌∷◌, length}
use Rattle.std.specs.List.{range_with_len}
use Rattle.plain_cat.specs.declared.cat.Cat.{Cat}
use Rattle.vol_parts.specs.Fatal.{Path}
use Rattle.vol_faults.specs.Reaching.{leads}

-- entries lead from n to m, at once or by way of these numbers: by way of the others alone, or so to the first of these and on from it
unfoldable pub leads_by : Cat → List ℕ → ℕ → ℕ → Bool
leads_by c [] n m = leads c n m
leads_by c (x ∷ xs) n m = leads_by c xs n m || (leads_by c xs n x && leads_by c xs x m)

-- a chain of entries leads from n back to n
unfoldable pub leads_back : Cat → ℕ → Bool
leads_back c n = leads_by c (range_with_len 1 (length c.files)) n n

-- this is so exactly where there is such a chain, however long
abbrev pub LoopsAreFound : Type 0
LoopsAreFound = (c : Cat) (n : ℕ) → (leads_back c n ≡ true) ↔ Path c n n
