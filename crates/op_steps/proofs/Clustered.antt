-- The clusters that were given, and the runs that they are.
use Rattle.std.proofs.Common.{◌≡◌, ◌<◌, ◌≤◌, ◌+◌, ◌*◌, ℕ, zero, suc, List, [], ◌∷◌, length, get_or, refl, arith, inl, inr, true}
use Rattle.std.specs.Prelude.{nat_le}
use Rattle.std.proofs.Math.Nat.{mul-le-mul_left, div-mul-le_self}
use Rattle.std.proofs.lemmas.Bool.Decides.{nat_tests}
use Rattle.base_words.specs.Fields.{Block}
use Rattle.fx_header.specs.Headers.{map_area}
use Rattle.fx_header.specs.Pointers.{blocks_in, map_words}
use Rattle.plain_rules.specs.Lookups.{header_most}
use Rattle.base_words.specs.Lists.{Has}
use Rattle.vol_parts.specs.declared.geometry.Geometry.{Geometry}
use Rattle.vol_parts.specs.Parts.{IsGeometry}
use Rattle.vol_spell.specs.Reading.{total_of}
use Rattle.op_law.specs.Writing.{runs_for}
use Rattle.op_steps.proofs.FileRuns.{short_words, blocks_for_runs}

-- each of them is listed
pub listed : (qs : List ℕ) (k d : ℕ) → k < length qs → Has qs (get_or qs k d)
listed [] k d lt = absurd (omega arith)
listed (q ∷ qs) zero d lt = inl refl
listed (q ∷ qs) (suc k) d lt = inr (listed qs k d (omega arith))

-- the blocks of a cluster of the volume end at or before LBN 65,536
pub cluster_ends : (g : Geometry) (q : ℕ) → IsGeometry g → q < total_of g → q * g.cluster + g.cluster ≤ 65536
cluster_ends g q geo lt =
    let up : g.cluster * (q + 1) ≤ g.cluster * total_of g = mul-le-mul_left g.cluster (omega arith) in
    let all : total_of g * g.cluster ≤ g.blocks = div-mul-le_self g.blocks g.cluster in
    let top = geo.blocks_to in
    omega arith

-- the clusters of one header have few blocks, and pointers to them few bytes
pub few_blocks : (g : Geometry) (qs : List ℕ) → IsGeometry g → length qs ≤ header_most → blocks_in (runs_for g qs) ≤ 65536
few_blocks g qs geo few =
    let e = blocks_for_runs g qs in
    let top = geo.cluster_to in
    let up : g.cluster * length qs ≤ g.cluster * header_most = mul-le-mul_left g.cluster few in
    omega arith

pub few_words : (g : Geometry) (qs : List ℕ) (b : Block) → IsGeometry g → length qs ≤ header_most → ((q : ℕ) → Has qs q → q < total_of g) → map_area b ≡ 155 → nat_le (length (map_words (runs_for g qs))) (2 * map_area b) ≡ true
few_words g qs b geo few within area =
    let e = short_words g geo.cluster_from qs within geo.cluster_to geo.blocks_to in
    grind (arith, nat_tests)
