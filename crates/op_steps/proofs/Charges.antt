-- The rows of quota blocks in order, and the write of an owner's row.
use Rattle.std.proofs.Common.{◌≡◌, ◌<◌, ◌≤◌, ◌+◌, ◌/◌, ◌%◌, ◌∙◌, ℕ, zero, suc, Bool, true, false, cond, List, [], ◌∷◌, Option, Some, None, length, get_or, slice_get, slice_index_or, nat_lt, refl, sym, ap, arith}
use Rattle.std.specs.Prelude.{◌==◌, bit_or}
use Rattle.std.specs.List.{range_with_len, position, position_or_len}
use Rattle.std.specs.Int.{byte_at, bytes_low_first}
use Rattle.std.proofs.lemmas.Bool.Decides.{nat_tests}
use Rattle.std.proofs.lemmas.List.FromFn.{length-range_with_len, get_or-range_with_len}
use Rattle.std.proofs.lemmas.List.Sums.{position_or_len_is}
use Rattle.std.proofs.lemmas.Option.{slice_get-get_or, slice_get_past}
use Rattle.base_words.specs.Fields.{Block, put, put_field}
use Rattle.base_words.specs.Tables.{laid}
use Rattle.fx_quota.specs.declared.types.Row.{Row}
use Rattle.fx_quota.specs.Rows.{row_in, row_at, row_put, row_start, flags_at}
use Rattle.lock_db.specs.declared.name.LockName.TheVariants.{Q}
use Rattle.plain_cat.specs.declared.ids.Uic.{Uic}
use Rattle.plain_cat.specs.declared.history.Stage.{Stage}
use Rattle.vol_parts.specs.declared.geometry.Geometry.{Geometry}
use Rattle.vol_parts.specs.declared.geometry.Part.TheVariants.{Quota}
use Rattle.vol_spell.specs.Reading.{quota_places}
use Rattle.vol_spell.specs.Places.{place_of}
use Rattle.op_law.specs.Writing.{Held, write_at}
use Rattle.op_law.specs.Quotas.{row_place, row_write, changed_write, owner_write, row_charged}
use Rattle.vol_spell.specs.Rows.{block_with}
use Rattle.vol_spell.specs.Rows.{is_row_of}
use Rattle.op_law.specs.Behind.{blocks_alone}

-- ---- the first that passes

module _ (p : ℕ → Bool) (n : ℕ) where
  counts : length (range_with_len 0 n) ≡ n
  counts = length-range_with_len 0 n

  at : (k : ℕ) → k < n → get_or (range_with_len 0 n) k 0 ≡ k
  at k lt = get_or-range_with_len 0 n k 0 lt ∙ (let e : 0 + k ≡ k = omega arith in e)

  pub first_place : (j : ℕ) → j < n → ((k : ℕ) → k < j → p k ≡ false) → p j ≡ true → position p (range_with_len 0 n) ≡ Some j
  first_place j lt before here =
      let len = counts in
      let e : position_or_len p (range_with_len 0 n) ≡ j = position_or_len_is p (range_with_len 0 n) j 0 (omega arith) (λ k l. ap p (at k (omega arith)) ∙ before k l) (λ l. ap p (at j lt) ∙ here) in
      let t : nat_lt j (length (range_with_len 0 n)) ≡ true = grind (arith, nat_tests) in
      ap (λ x. cond (nat_lt x (length (range_with_len 0 n))) (Some x) None) e ∙ ap (λ b. cond b (Some j) None) t

  pub no_place : ((k : ℕ) → k < n → p k ≡ false) → position p (range_with_len 0 n) ≡ None
  no_place before =
      let len = counts in
      let e : position_or_len p (range_with_len 0 n) ≡ n = position_or_len_is p (range_with_len 0 n) n 0 (omega arith) (λ k l. ap p (at k l) ∙ before k l) (λ l. absurd (omega arith)) in
      let t : nat_lt n (length (range_with_len 0 n)) ≡ false = grind (arith, nat_tests) in
      ap (λ x. cond (nat_lt x (length (range_with_len 0 n))) (Some x) None) e ∙ ap (λ b. cond b (Some n) None) t

-- ---- where the quota blocks stand

pub quota_place : (g : Geometry) (k : ℕ) → k < g.cluster → slice_get (quota_places g) k ≡ Some (g.quota_lbn + k)
quota_place g k lt =
    let len = length-range_with_len g.quota_lbn g.cluster in
    slice_get-get_or (quota_places g) k 0 (omega arith) ∙ ap (λ x. Some x) (get_or-range_with_len g.quota_lbn g.cluster k 0 lt)

pub no_quota_place : (g : Geometry) (k : ℕ) → g.cluster ≤ k → slice_get (quota_places g) k ≡ None
no_quota_place g k le = let len = length-range_with_len g.quota_lbn g.cluster in slice_get_past (quota_places g) k (omega arith)

-- ---- a row

-- the four bytes of a number are those of its lowest 32 bits
wrapped_bytes : (x : ℕ) → bytes_low_first 0 4 (x % 4294967296) ≡ bytes_low_first 0 4 x
wrapped_bytes x =
    let a : byte_at 0 (x % 4294967296) ≡ byte_at 0 x = omega arith in
    let b : byte_at 1 (x % 4294967296) ≡ byte_at 1 x = omega arith in
    let c : byte_at 2 (x % 4294967296) ≡ byte_at 2 x = omega arith in
    let d : byte_at 3 (x % 4294967296) ≡ byte_at 3 x = omega arith in
    λ i. a i ∷ b i ∷ c i ∷ d i ∷ []

-- a row is written with k more, in 32 bits
pub charged_so : (b : Block) (i k : ℕ) (r : Row) → row_put b i (record r { usage = (r.usage + k) % 4294967296 }) ≡ row_put b i (row_charged k r)
unfolding row_put
charged_so b i k r =
    let u = r.usage + k in
    ap (λ (bytes : List ℕ). laid ((row_start i + 12, 4, r.quota) ∷ (row_start i + 16, 4, r.over) ∷ [])
    (put (put_field (put_field b (row_start i) 4 (bit_or (flags_at b i) 1)) (row_start i + 4) 4 r.uic) (row_start i + 8) bytes)) (wrapped_bytes u)

-- the row that is read is the one that stands there
pub row_is : (b : Block) (i : ℕ) (r : Row) → row_at b i ≡ Some r → r ≡ row_in b i
unfolding row_at
row_is b i r f = by_flag (flags_at b i % 2 == 1) f where
  by_flag : (t : Bool) → cond t (Some (row_in b i)) None ≡ Some r → r ≡ row_in b i
  by_flag true h = cc
  by_flag false h = absurd (let none : ◌≡◌ {A = Option Row} None (Some r) = h in cc)

-- the block of row j among those alone
pub block_is : (quota : List (ℕ × Block)) (n : ℕ) → slice_index_or (blocks_alone quota) n [] ≡ (slice_index_or quota n (0, [])).1
block_is [] n = refl
block_is (b ∷ quota) zero = refl
block_is (b ∷ quota) (suc n) = block_is quota n

-- ---- the write of an owner's row

pub owner_has : (g : Geometry) (qs : List Block) (owner : Uic) (change : Row → Row) (s : Stage) (out : Held) (j : ℕ) (r : Row) → row_place (is_row_of owner) qs ≡ Some j
    → row_put (block_with qs j) (j % 16) r ≡ row_put (block_with qs j) (j % 16) (change (row_in (block_with qs j) (j % 16))) → row_write g qs j r s out ∷ [] ≡ owner_write g qs owner change s out
unfolding owner_write
owner_has g qs owner change s out j r place same =
    ap (λ (b : Block). write_at Q (place_of g (Quota (j / 16))) b s out ∷ []) same ∙ ap (changed_write g qs change s out) (sym place)
