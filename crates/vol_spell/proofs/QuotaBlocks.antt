-- The quota blocks of a volume.
use Rattle.std.proofs.Common.{◌≡◌, ◌+◌, ◌*◌, ◌/◌, ◌<◌, ℕ, zero, suc, List, [], length, sym, ap, subst, ◌∙◌, arith}
use Rattle.std.specs.Prelude.{slice_index_or}
use Rattle.std.specs.List.{range_with_len}
use Rattle.std.proofs.lemmas.Option.{slice_get-get_or}
use Rattle.std.proofs.lemmas.List.FromFn.{length-range_with_len}
use Rattle.base_words.specs.Fields.{Block, IsWholeBlock}
use Rattle.plain_cat.specs.declared.cat.Cat.{Cat}
use Rattle.vol_spell.specs.declared.owner.Owner.TheVariants.{InFile}
use Rattle.vol_spell.specs.Owners.{Owners}
use Rattle.vol_spell.specs.Spread.{blocks_at}
use Rattle.vol_spell.proofs.Placing.{length-blocks_at}
use Rattle.vol_parts.specs.declared.geometry.Geometry.{Geometry}
use Rattle.vol_parts.specs.declared.geometry.Part.TheVariants.{Quota}
use Rattle.vol_spell.specs.Reading.{quota_places}
use Rattle.vol_spell.specs.Spelling.{Spells}
use Rattle.vol_spell.proofs.Parts.{part_owned}
use Rattle.vol_spell.proofs.Frames.{on_volume}

index-ranged : (bs : List Block) (a n k : ℕ) → k < n → slice_index_or (blocks_at bs (range_with_len a n)) k [] ≡ slice_index_or bs (a + k) []
index-ranged bs a zero k lt = absurd (omega arith)
index-ranged bs a (suc n) zero lt = ap (λ l. slice_index_or bs l []) (let e : a ≡ a + 0 = omega arith in e)
index-ranged bs a (suc n) (suc k) lt = index-ranged bs (a + 1) n k (omega arith) ∙ ap (λ l. slice_index_or bs l []) (let e : a + 1 + k ≡ a + suc k = omega arith in e)

pub quota_count : (g : Geometry) (bs : List Block) → length (blocks_at bs (quota_places g)) ≡ g.cluster
quota_count g bs = length-blocks_at bs (quota_places g) ∙ length-range_with_len g.quota_lbn g.cluster

pub block_inside : (g : Geometry) (bs : List Block) (j : ℕ) → j < 16 * length (blocks_at bs (quota_places g)) → j / 16 < g.cluster
block_inside g bs j lt = let e = quota_count g bs in omega arith

pub quota_whole : (g : Geometry) (bs : List Block) (own : Owners) (x : Cat) (k : ℕ) → Spells g bs own x → k < g.cluster → IsWholeBlock (slice_index_or (blocks_at bs (quota_places g)) k [])
quota_whole g bs own x k s lt =
    let inside : g.quota_lbn + k < length bs = on_volume g bs own x s (g.quota_lbn + k) (InFile 10) (part_owned g bs own x s (Quota k) lt) in
    subst IsWholeBlock (sym (index-ranged bs g.quota_lbn g.cluster k lt)) (s.whole (g.quota_lbn + k) (slice_index_or bs (g.quota_lbn + k) []) (slice_get-get_or bs (g.quota_lbn + k) [] inside))
