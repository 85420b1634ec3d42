-- Once every node is over, the history is whole, and the drive spells the catalogue to which it leads.
use Rattle.std.proofs.Common.{◌≡◌, ◌<◌, ◌+◌, ◌/◌, ℕ, List, length, subst, arith}
use Rattle.base_words.specs.Fields.{Block}
use Rattle.plain_cat.specs.declared.cat.Cat.{Cat}
use Rattle.plain_rules.specs.Lookups.{free_clusters}
use Rattle.plain_rules.specs.Own.{Whole}
use Rattle.vol_spell.specs.declared.owner.Owner.TheVariants.{InFile}
use Rattle.vol_spell.specs.Owners.{Owners, nothing}
use Rattle.vol_parts.specs.declared.geometry.Geometry.{Geometry}
use Rattle.vol_parts.specs.declared.geometry.Part.TheVariants.{Storage}
use Rattle.vol_parts.specs.Parts.{storage_blocks}
use Rattle.vol_spell.specs.Reading.{total_of}
use Rattle.vol_spell.specs.Spelling.{Spells}
use Rattle.vol_spell.proofs.Parts.{part_owned}
use Rattle.vol_spell.proofs.Frames.{on_volume}
use Rattle.vol_under.specs.UnderWay.{resting}
use Rattle.vol_under.proofs.Short.{free_by_bits}
use Rattle.core_state.specs.Worlds.{Plain}
use Rattle.core_state.specs.Goods.{nodes_under, Good}
use Rattle.run_engine.proofs.Resting.{none_left, all_rest, drive_left}
use Rattle.core_state.specs.Ends.{AllOver}
use Rattle.run_engine.specs.Ended.{free_bits, HasEnded}

pub over_is_whole : (w : Plain) → Good w → AllOver w → Whole w.script w.history
over_is_whole w good over = (good.own, λ n alive. none_left w good over n alive)

-- where no node has anything under way, the drive spells the catalogue to which the history leads
pub rest_is_spelt : (w : Plain) → Good w → ((n : ℕ) → nodes_under w.locks w.nodes n ≡ resting nothing) → (c : Cat) × HasEnded w c
rest_is_spelt w good rests =
    let left = drive_left w good rests in (
      good.running.cat,
      record {
        replayed = good.running.replayed;
        drive = record { own = left.own; spelt = subst (λ (c : Cat). Spells w.geometry w.blocks left.own c) left.dies left.spelt; outs = left.outs };
      },
    )

pub over_is_spelt : (w : Plain) → Good w → AllOver w → (c : Cat) × HasEnded w c
over_is_spelt w good over = rest_is_spelt w good (all_rest w good over)

-- as many clusters are free as bits are set
pub free_is_bits : (w : Plain) (c : Cat) → HasEnded w c → free_clusters c ≡ free_bits w.geometry w.blocks
free_is_bits w c h = (free_by_bits w.geometry w.blocks h.drive.own c h.drive.spelt h.drive.outs).clusters

-- the bit of each cluster is on the volume
pub bit_there : (g : Geometry) (bs : List Block) (own : Owners) (c : Cat) → Spells g bs own c → (q : ℕ) → q < total_of g → g.bitmap_lbn + 1 + q / 4096 < length bs
bit_there g bs own c s q lt =
    let k : q / 4096 < storage_blocks (total_of g) = omega arith in
    on_volume g bs own c s (g.bitmap_lbn + 1 + q / 4096) (InFile 2) (part_owned g bs own c s (Storage (q / 4096)) k)
