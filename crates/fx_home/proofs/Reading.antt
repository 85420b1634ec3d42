-- What a home block that is read says.
use Rattle.std.proofs.Common.{◌≡◌, List, ℕ, true, nat_le, Ok, refl}
use Rattle.std.proofs.lemmas.Bool.{and_parts, leb-true}
use Rattle.base_words.specs.Fields.{field}
use Rattle.fx_home.specs.Homes.{IsWithinLimits, has_format, has_level, has_sum1, has_cluster, has_files, has_layout, home_in, home_read}
use Rattle.base_words.specs.Fields.{has_sum as has_sum2}

-- the tests of the cluster factor and of the number of files are the limits
pub home_in-within : (b : List ℕ) → has_cluster b ≡ true → has_files b ≡ true → IsWithinLimits (home_in b)
unfolding has_cluster has_files home_in
home_in-within b cluster files =
    let c = and_parts (nat_le 1 (field b 14 2)) (nat_le (field b 14 2) 16) cluster in
    let f = and_parts (nat_le 32 (field b 28 4)) (nat_le (field b 28 4) 4096) files in
    record {
      cluster_low = leb-true 1 (field b 14 2) c.0;
      cluster_high = leb-true (field b 14 2) 16 c.1;
      files_low = leb-true 32 (field b 28 4) f.0;
      files_high = leb-true (field b 28 4) 4096 f.1;
    }

-- every test of a home block holds
pub record Passes (b : List ℕ) : Type 0 where
  pub format : has_format b ≡ true
  pub level : has_level b ≡ true
  pub sum1 : has_sum1 b ≡ true
  pub sum2 : has_sum2 b ≡ true
  pub cluster : has_cluster b ≡ true
  pub files : has_files b ≡ true
  pub layout : has_layout b ≡ true

-- then it is read
pub home_read-passes : (b : List ℕ) → Passes b → home_read b ≡ Ok (home_in b)
unfolding home_read
home_read-passes b p = rw (p.format, p.level, p.sum1, p.sum2, p.cluster, p.files, p.layout) refl
