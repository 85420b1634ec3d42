-- The version of a new entry.
use Rattle.std.proofs.Common.{◌≡◌, ◌≤◌, ◌+◌, ℕ, Bool, true, false, cond, List, refl, arith}
use Rattle.std.specs.Prelude.{◌==◌, ◌&&◌, nat_le}
use Rattle.std.proofs.lemmas.Bool.Decides.{nat_tests}
use Rattle.plain_cat.specs.declared.entries.DirEnt.{DirEnt}
use Rattle.plain_rules.specs.Lookups.{highest}
use Rattle.plain_rules.specs.Directories.{new_version, is_last_version}

-- a new version is one that an entry may have
pub version_from : (ver : ℕ) (es : List DirEnt) → 1 ≤ new_version ver es
version_from ver es = by_test (ver == 0) refl where
  by_test : (t : Bool) → (ver == 0) ≡ t → 1 ≤ cond t (highest es + 1) ver
  by_test true e = omega arith
  by_test false e = grind (arith, nat_tests)

pub version_to : (ver : ℕ) (es : List DirEnt) → ver ≤ 32767 → is_last_version ver es ≡ false → new_version ver es ≤ 32767
version_to ver es to last = by_test (ver == 0) last where
  by_test : (t : Bool) → (t && nat_le 32767 (highest es)) ≡ false → cond t (highest es + 1) ver ≤ 32767
  by_test true e = grind (arith, nat_tests)
  by_test false e = to
