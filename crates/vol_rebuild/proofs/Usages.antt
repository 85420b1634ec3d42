-- The quota blocks, one by one.
use Rattle.std.proofs.Common.{◌≡◌, ◌≢◌, ◌≤◌, ◌<◌, ◌+◌, ◌*◌, ◌∙◌, ◌⊎◌, inl, inr, zero, suc, ℕ, List, [], ◌∷◌, Some, All, length, map, refl, sym, ap, subst, arith}
use Rattle.std.specs.Prelude.{slice_get, slice_set, slice_index_or}
use Rattle.std.proofs.lemmas.Bool.{cases_lt}
use Rattle.std.proofs.lemmas.List.Elements.{All-nil, All-cons}
use Rattle.base_words.specs.Fields.{Block, IsWholeBlock}
use Rattle.fx_quota.specs.declared.types.Row.{Row}
use Rattle.plain_cat.specs.declared.cat.Cat.{Cat}
use Rattle.plain_cat.specs.declared.cat.Slot.{Slot}
use Rattle.plain_cat.specs.declared.cat.QuotaRow.{QuotaRow}
use Rattle.plain_rules.specs.Lookups.{clusters_in}
use Rattle.plain_mends.proofs.Frames.{charge_same}
use Rattle.vol_parts.specs.declared.geometry.Geometry.{Geometry}
use Rattle.vol_parts.specs.declared.geometry.Part.TheVariants.{Quota}
use Rattle.vol_parts.specs.Volumes.{rows_in}
use Rattle.vol_spell.specs.Places.{place_of}
use Rattle.vol_analyze.specs.Conditions.{HasFileSizes}
use Rattle.vol_mends.specs.Told.{IsTold, LeadsTo, KeepsSingles}
use Rattle.vol_mends.specs.Clean.{KeepsClean}
use Rattle.vol_mends.specs.Rows.{sum_of, summed, quota_block, AreSums, UsageIsSet}
use Rattle.vol_mends.proofs.Summing.{rows_are_summed}
use Rattle.vol_rebuild.specs.Steps.{IsOfFiles, AreSummed}
use Rattle.vol_rebuild.specs.Sums.{AreRight, IsQuotaSet}
use Rattle.vol_rebuild.proofs.Reading.{few_files, sizes}

-- ---- blocks

index_here : (bs : List Block) (l : ℕ) (b d : Block) → l < length bs → slice_index_or (slice_set bs l b) l d ≡ b
index_here [] l b d lt = absurd (omega arith)
index_here (x ∷ bs) zero b d lt = refl
index_here (x ∷ bs) (suc l) b d lt = index_here bs l b d (omega arith)

index_else : (bs : List Block) (l m : ℕ) (b d : Block) → l ≢ m → slice_index_or (slice_set bs l b) m d ≡ slice_index_or bs m d
index_else [] l m b d other = refl
index_else (x ∷ bs) zero zero b d other = absurd (other refl)
index_else (x ∷ bs) zero (suc m) b d other = refl
index_else (x ∷ bs) (suc l) zero b d other = refl
index_else (x ∷ bs) (suc l) (suc m) b d other = index_else bs l m b d (λ e. other (ap suc e))

-- ---- rows

map_alike : (f h : Row → Row) (rs : List Row) → ((r : Row) → f r ≡ h r) → map f rs ≡ map h rs
map_alike f h [] same = refl
map_alike f h (r ∷ rs) same = (λ i. same r i ∷ map f rs) ∙ ap (λ ts. h r ∷ ts) (map_alike f h rs same)

all_right : (c : Cat) (rs : List Row) → All (λ (r : Row). r.usage ≡ sum_of c r) (map (summed c) rs)
all_right c [] = All-nil (λ (r : Row). r.usage ≡ sum_of c r)
all_right c (r ∷ rs) = All-cons (λ (r : Row). r.usage ≡ sum_of c r) (summed c r) (map (summed c) rs) refl (all_right c rs)

-- ---- a block that is read

pub rows_seen : (g : Geometry) (bs : List Block) (cat : Cat) (k : ℕ) (b old : Block) → slice_get bs (place_of g (Quota k)) ≡ Some old → rows_in b ≡ map (summed cat) (rows_in old) → rows_in b ≡ map (summed cat) (rows_in (quota_block g bs k))
rows_seen g bs cat k b old at rows = rows ∙ ap (λ (x : Block). map (summed cat) (rows_in x)) (seen bs (place_of g (Quota k)) at) where
  seen : (xs : List Block) (l : ℕ) → slice_get xs l ≡ Some old → old ≡ slice_index_or xs l []
  seen [] l e = absurd (cc e)
  seen (x ∷ xs) zero e = let same : x ≡ old = cc e in sym same
  seen (x ∷ xs) (suc l) e = seen xs l e

-- ---- files

pub few_of : (g : Geometry) (bs : List Block) (cat c : Cat) → IsOfFiles cat c → IsTold g bs c → length cat.files ≤ 4096
few_of g bs cat c o t = let k = few_files g bs c t in let e = ap length o.same in omega (arith, k, e)

pub sizes_of : (g : Geometry) (bs : List Block) (cat c : Cat) → IsOfFiles cat c → IsTold g bs c → HasFileSizes cat
sizes_of g bs cat c o t = record {
  sizes = subst (λ (ss : List Slot). All (λ (s : Slot). cat.factor * clusters_in s ≤ 65536) ss) o.same
      (subst (λ (k : ℕ). All (λ (s : Slot). k * clusters_in s ≤ 65536) c.files) o.factor (sizes g bs c t).sizes);
}

module _ (g : Geometry) (bs : List Block) (cat c : Cat) (k : ℕ) (b : Block) (o : IsOfFiles cat c) (t : IsTold g bs c) (block : k < g.cluster) (whole : IsWholeBlock b)
    (rows : rows_in b ≡ map (summed cat) (rows_in (quota_block g bs k))) where
  pub same_sum : (r : Row) → summed cat r ≡ summed c r
  same_sum r = ap (λ n. record r { usage = n }) (charge_same cat c (record { 0 = r.uic }) (sym o.same) (sym o.factor))

  pub rows_c : rows_in b ≡ map (summed c) (rows_in (quota_block g bs k))
  rows_c = rows ∙ map_alike (summed cat) (summed c) (rows_in (quota_block g bs k)) same_sum

  pub sums : AreSums g bs c k b
  sums = record { told = t; block = block; whole = whole; rows = rows_c }

  abbrev new : List Block
  new = slice_set bs (place_of g (Quota k)) b

  abbrev set : UsageIsSet g bs c new
  set = rows_are_summed.leads g bs c k b sums

  pub quota_within : place_of g (Quota k) < length bs
  quota_within = rows_are_summed.within g bs c k t block

  pub quota_leads : LeadsTo g bs c (record c { quota = map set.change c.quota }) new
  quota_leads = set.leads

  pub quota_set : IsQuotaSet g bs new c k
  quota_set = record {
    rows = map set.change c.quota;
    told = set.leads.told;
    here = subst (λ (x : Block). All (λ (r : Row). r.usage ≡ sum_of c r) (rows_in x)) (sym (index_here bs (place_of g (Quota k)) b [] quota_within))
        (subst (λ (rs : List Row). All (λ (r : Row). r.usage ≡ sum_of c r) rs) (sym rows_c) (all_right c (rows_in (quota_block g bs k))));
    elsewhere = λ j other. index_else bs (place_of g (Quota k)) (place_of g (Quota j)) b [] (λ e. other (omega (arith, e)));
    singles = set.singles;
    clean = set.clean;
  }

-- one block more is right
pub right_more : (g : Geometry) (bs new : List Block) (c d : Cat) (k : ℕ) → ((r : Row) → sum_of d r ≡ sum_of c r) → ((j : ℕ) → j < k → AreRight g bs c j) → IsQuotaSet g bs new d k → (j : ℕ) → j < k + 1 → AreRight g new c j
right_more g bs new c d k same before s j to = by_place (cases_lt j k) where
  other_sum : (rs : List Row) → All (λ (r : Row). r.usage ≡ sum_of d r) rs → All (λ (r : Row). r.usage ≡ sum_of c r) rs
  other_sum rs h = λ i x lt. h i x lt ∙ same (slice_index_or rs i x)

  by_place : (j < k) ⊎ (k ≤ j) → AreRight g new c j
  by_place (inl less) = subst (λ (b : Block). All (λ (r : Row). r.usage ≡ sum_of c r) (rows_in b)) (sym (s.elsewhere j (λ e. omega (arith, e, less)))) (before j less)
  by_place (inr here) = let e : j ≡ k = omega (arith, here, to) in subst (λ (i : ℕ). AreRight g new c i) (sym e) (other_sum (rows_in (quota_block g new k)) s.here)

-- ---- all of them

pub all_sums : (g : Geometry) (old new : List Block) (c : Cat) (rows : List QuotaRow) → IsTold g new (record c { quota = rows }) → ((j : ℕ) → j < g.cluster → AreRight g new c j) → KeepsSingles g old new → KeepsClean g old new → AreSummed g c old new
all_sums g old new c rows t right singles clean = record {
  rows = rows;
  told = t;
  usage = rows_are_summed.all g new (record c { quota = rows }) t right;
  singles = singles;
  clean = clean;
}
