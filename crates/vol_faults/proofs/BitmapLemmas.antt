-- Where the storage bitmap and the quota blocks lie: BITMAP.SYS is one run inside the blocks, with room for a bit of each
-- cluster, and QUOTA.SYS is one.
use Rattle.std.proofs.Common.{◌≡◌, ◌+◌, ◌*◌, ◌/◌, ◌<◌, ◌≤◌, ◌&&◌, ℕ, [], ◌∷◌, List, true, Some, length, refl, arith, ap}
use Rattle.std.proofs.lemmas.Bool.{and_parts, leb-true, eqb-true}
use Rattle.fx_header.specs.declared.run.Run.{Run}
use Rattle.fx_home.specs.Homes.{IsWithinLimits}
use Rattle.vol_parts.specs.Conditions.{HasSystemFiles}
use Rattle.vol_parts.specs.Parts.{IsGeometry, storage_blocks}
use Rattle.vol_parts.specs.Volumes.{Volume, factor, total, runs, first_lbn, bitmap_lbn, quota_lbn, geometry_of, fields, told}
use Rattle.vol_parts.specs.Fatal.{in_whole_clusters, stated_clusters, is_stated_run, are_stated, has_one_header, is_system_file, is_system_header}
use Rattle.vol_faults.specs.Conditions.{IsSize}

-- one run, as it is stated
one-stated : (v : Volume) (n k : ℕ) (rs : List Run) → are_stated v n (Some k) rs ≡ true → (r : Run) × (rs ≡ r ∷ []) × (is_stated_run v n k r ≡ true)
one-stated v n k [] e = absurd (cc)
one-stated v n k (r ∷ []) e = (r, refl, e)
one-stated v n k (r ∷ q ∷ rs) e = absurd (cc)

bitmap-stated : (v : Volume) → HasSystemFiles v
    → are_stated v 2 (Some (in_whole_clusters (factor v) (1 + storage_blocks (total v)))) (runs v 2) ≡ true
unfolding is_system_file stated_clusters
bitmap-stated v s =
    let h : is_system_file v 2 ≡ true = s.sound 2 (omega arith) (omega arith) in
    let behind = (and_parts (is_system_header 2 (fields v 2)) (has_one_header (fields v 2) (told v 2) && are_stated v 2 (stated_clusters v 2) (runs v 2)) h).1 in
    (and_parts (has_one_header (fields v 2) (told v 2)) (are_stated v 2 (stated_clusters v 2) (runs v 2)) behind).1

-- so many clusters have room for so many blocks
room-in_whole_clusters : (factor blocks : ℕ) → 1 ≤ factor → blocks ≤ factor * in_whole_clusters factor blocks
room-in_whole_clusters factor blocks some = omega arith

-- a file of a stated size lies inside the blocks
stated-inside : (v : Volume) (n k j : ℕ) → are_stated v n (Some k) (runs v n) ≡ true → j < factor v * k → first_lbn (runs v n) + j < length v.blocks
stated-inside v n k j stated small =
    let w = one-stated v n k (runs v n) stated in
    let r : Run = w.0 in
    let parts = and_parts _ _ w.2 in
    let count : r.count ≡ factor v * k = eqb-true _ _ parts.0 in
    let end : r.lbn + r.count ≤ factor v * total v = leb-true _ _ (and_parts _ _ parts.1).0 in
    let first : first_lbn (runs v n) ≡ r.lbn = ap first_lbn w.1 in
    let whole : factor v * total v ≤ length v.blocks = omega arith in
    omega arith

pub bitmap-inside : (v : Volume) (j : ℕ) → 1 ≤ factor v → HasSystemFiles v → j ≤ storage_blocks (total v) → bitmap_lbn v + j < length v.blocks
bitmap-inside v j some s small =
    let k : ℕ = in_whole_clusters (factor v) (1 + storage_blocks (total v)) in
    let room : 1 + storage_blocks (total v) ≤ factor v * k = room-in_whole_clusters (factor v) (1 + storage_blocks (total v)) some in
    stated-inside v 2 k j (bitmap-stated v s) (omega arith)

-- the bit of each cluster lies inside the blocks
pub bitmap-cluster : (v : Volume) (q : ℕ) → 1 ≤ factor v → HasSystemFiles v → q < total v → bitmap_lbn v + 1 + q / 4096 < length v.blocks
bitmap-cluster v q some s small =
    let inside = bitmap-inside v (1 + q / 4096) some s (omega arith) in
    omega (arith, inside)

quota-stated : (v : Volume) → HasSystemFiles v → are_stated v 10 (Some 1) (runs v 10) ≡ true
unfolding is_system_file stated_clusters
quota-stated v s =
    let h : is_system_file v 10 ≡ true = s.sound 10 (omega arith) (omega arith) in
    let behind = (and_parts (is_system_header 10 (fields v 10)) (has_one_header (fields v 10) (told v 10) && are_stated v 10 (stated_clusters v 10) (runs v 10)) h).1 in
    (and_parts (has_one_header (fields v 10) (told v 10)) (are_stated v 10 (stated_clusters v 10) (runs v 10)) behind).1

quota-inside : (v : Volume) → 1 ≤ factor v → HasSystemFiles v → quota_lbn v < length v.blocks
quota-inside v some s =
    let h = stated-inside v 10 1 0 (quota-stated v s) (omega arith) in
    omega arith

-- where the fixed parts lie is within the limits of a volume
pub geometry-limits : (v : Volume) → IsWithinLimits v.home → IsSize (length v.blocks) → HasSystemFiles v → IsGeometry (geometry_of v)
geometry-limits v limits size s =
    let b = bitmap-inside v 0 limits.cluster_low s (omega arith) in
    record {
      blocks_from = size.from;
      blocks_to = size.to;
      cluster_from = limits.cluster_low;
      cluster_to = limits.cluster_high;
      files_from = limits.files_low;
      files_to = limits.files_high;
      bitmap = omega arith;
      quota = quota-inside v limits.cluster_low s;
    }
