-- The clusters of a file that a command has seen, and the runs that they are.
use Rattle.std.proofs.Common.{◌≡◌, ◌∙◌, ◌<◌, ◌≤◌, ◌+◌, ◌*◌, ◌/◌, ◌++◌, ℕ, List, [], ◌∷◌, map, take, drop, refl, sym, ap, arith, append_assoc}
use Rattle.std.specs.List.{range_with_len}
use Rattle.std.proofs.Math.Nat.{mul-le-mul_left, div-mul-le_self, mul-div_cancel}
use Rattle.std.proofs.lemmas.List.{map-append, take-map, drop-map}
use Rattle.fx_header.specs.declared.run.Run.{Run}
use Rattle.vol_parts.specs.declared.geometry.Geometry.{Geometry}
use Rattle.vol_parts.proofs.Ranges.{range-more}
use Rattle.vol_spell.specs.Reading.{clusters_of}
use Rattle.op_law.specs.Writing.{runs_for}

-- the runs of clusters in a row
pub runs_joined : (g : Geometry) (ps qs : List ℕ) → runs_for g (ps ++ qs) ≡ runs_for g ps ++ runs_for g qs
runs_joined g ps qs = map-append (λ (q : ℕ). record { lbn = q * g.cluster; count = g.cluster }) ps qs

-- one cluster more
pub one_run_more : (g : Geometry) (old : List Run) (a i : ℕ) → (old ++ runs_for g (range_with_len a i)) ++ record { lbn = (a + i) * g.cluster; count = g.cluster } ∷ [] ≡ old ++ runs_for g (range_with_len a (i + 1))
one_run_more g old a i =
    append_assoc old (runs_for g (range_with_len a i)) (record { lbn = (a + i) * g.cluster; count = g.cluster } ∷ [])
    ∙ ap (λ z. old ++ z) (sym (ap (runs_for g) (range-more a i (a + i) refl) ∙ runs_joined g (range_with_len a i) ((a + i) ∷ [])))

-- the clusters of one run more
pub run_more : (g : Geometry) (old : List Run) (r : Run) (rs : List Run)
    → (old ++ runs_for g (range_with_len (r.lbn / g.cluster) (r.count / g.cluster))) ++ runs_for g (clusters_of g.cluster rs) ≡ old ++ runs_for g (clusters_of g.cluster (r ∷ rs))
run_more g old r rs =
    let here = range_with_len (r.lbn / g.cluster) (r.count / g.cluster) in
    append_assoc old (runs_for g here) (runs_for g (clusters_of g.cluster rs)) ∙ ap (λ z. old ++ z) (sym (runs_joined g here (clusters_of g.cluster rs)))

-- a cluster of a run ends where the run does, or before
pub cluster_within : (lbn count w i : ℕ) → 1 ≤ w → i < count / w → lbn + count ≤ 65536 → (lbn / w + i) * w + w ≤ 65536
cluster_within lbn count w i low lt top =
    let a : lbn / w * w ≤ lbn = div-mul-le_self lbn w in
    let b : count / w * w ≤ count = div-mul-le_self count w in
    let up : w * (i + 1) ≤ w * (count / w) = mul-le-mul_left w (omega arith) in
    let turn : w * (count / w) ≡ count / w * w = omega arith in
    let all : (lbn / w + i) * w ≡ lbn / w * w + i * w = omega arith in
    let more : w * (i + 1) ≡ i * w + w = omega arith in
    omega arith

-- the runs of the first clusters, and of those behind them
pub taken : (g : Geometry) (k : ℕ) (qs : List ℕ) → take k (runs_for g qs) ≡ runs_for g (take k qs)
taken g k qs = take-map (λ (q : ℕ). record { lbn = q * g.cluster; count = g.cluster }) k qs

pub dropped : (g : Geometry) (k : ℕ) (qs : List ℕ) → drop k (runs_for g qs) ≡ runs_for g (drop k qs)
dropped g k qs = drop-map (λ (q : ℕ). record { lbn = q * g.cluster; count = g.cluster }) k qs

-- the cluster of each run
pub first_ones : (g : Geometry) (qs : List ℕ) → 1 ≤ g.cluster → map (λ (r : Run). r.lbn / g.cluster) (runs_for g qs) ≡ qs
first_ones g [] low = refl
first_ones g (q ∷ qs) low =
    ap (λ p. p ∷ map (λ (r : Run). r.lbn / g.cluster) (runs_for g qs)) (mul-div_cancel q low) ∙ ap (λ ps. q ∷ ps) (first_ones g qs low)

-- the runs of some clusters, and of others behind them
pub both_runs : (g : Geometry) (ps qs seen : List ℕ) (rs : List Run) → rs ≡ runs_for g ps → seen ≡ qs → rs ++ runs_for g seen ≡ runs_for g (ps ++ qs)
both_runs g ps qs seen rs first second = ap (λ (xs : List Run). xs ++ runs_for g seen) first ∙ ap (λ xs. runs_for g ps ++ runs_for g xs) second ∙ sym (runs_joined g ps qs)
