-- A virtual block that is one of a file's blocks.
use Rattle.std.proofs.Common.{◌≡◌, ◌≤◌, ◌*◌, ◌/◌, ◌==◌, ℕ, false, arith}
use Rattle.std.specs.Prelude.{◌||◌, nat_lt}
use Rattle.std.proofs.Math.Nat.{mul-div-le}
use Rattle.std.proofs.lemmas.Bool.Decides.{nat_tests}
use Rattle.fx_header.specs.declared.slot.Hdr.{Hdr}
use Rattle.base_words.specs.Fields.{Block}
use Rattle.vol_parts.specs.declared.geometry.Geometry.{Geometry}
use Rattle.op_law.specs.Channels.{is_outside_file}
use Rattle.op_law.specs.Refusing.{seen_file}

-- it is from 1 on, and not past the last one
pub in_range : (vbn limit : ℕ) → ((vbn == 0) || nat_lt limit vbn) ≡ false → (1 ≤ vbn) × (vbn ≤ limit)
in_range vbn limit e = (grind (arith, nat_tests), grind (arith, nat_tests))

-- so it is one of the blocks that the first header says
pub is_within : (g : Geometry) (n : ℕ) (b : Block) (h : Hdr) (vbn : ℕ) → is_outside_file g (seen_file g n b h).file vbn ≡ false → (1 ≤ vbn) × (vbn ≤ h.blocks)
is_within g n b h vbn inside =
    let r = in_range vbn (g.cluster * (h.blocks / g.cluster)) inside in
    let low = r.0 in
    let le = r.1 in
    let most : g.cluster * (h.blocks / g.cluster) ≤ h.blocks = mul-div-le h.blocks g.cluster in
    (low, omega arith)

-- and the other way, where the blocks are those of whole clusters
pub not_outside : (g : Geometry) (n : ℕ) (b : Block) (h : Hdr) (vbn : ℕ) → h.blocks / g.cluster * g.cluster ≡ h.blocks → 1 ≤ vbn → vbn ≤ h.blocks → is_outside_file g (seen_file g n b h).file vbn ≡ false
not_outside g n b h vbn whole from to =
    let turned : g.cluster * (h.blocks / g.cluster) ≡ h.blocks / g.cluster * g.cluster = omega arith in
    let le : vbn ≤ g.cluster * (h.blocks / g.cluster) = omega arith in
    tests vbn (g.cluster * (h.blocks / g.cluster)) from le where
      tests : (vbn limit : ℕ) → 1 ≤ vbn → vbn ≤ limit → ((vbn == 0) || nat_lt limit vbn) ≡ false
      tests vbn limit from le = grind (arith, nat_tests)
