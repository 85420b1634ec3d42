use Rattle.std.proofs.Common.{◌<◌, ◌+◌, ◌/◌, ◌∙◌, ℕ, List, length, sym, ap, subst}
use Rattle.base_words.specs.Fields.{Block}
use Rattle.fx_home.specs.Homes.{home_read}
use Rattle.vol_parts.specs.Findings.{home_at}
use Rattle.vol_faults.specs.Free.{IsGeometryBy}
use Rattle.vol_spell.specs.Reading.{total_of}
use Rattle.run_engine.specs.Ended.{free_bits}
use Rattle.run_engine.proofs.Rebuilding.{bits_there, free_told}
use Rattle.run_engine.proofs.mending.free_on_drive.Goals as goal

pub free_bits-requires-clause-there : goal.free_bits-requires-clause-there
free_bits-requires-clause-there g c =
    let k = c.geometry.result in
    let told = subst (λ (b : List Block). IsGeometryBy b (home_read (home_at b)) k) c.all.ensures c.geometry.ensures.told in
    subst (λ (b : List Block). (q : ℕ) → q < total_of k → k.bitmap_lbn + 1 + q / 4096 < length b) (sym c.all-2.ensures)
    (bits_there c.args.m.now.blocks k c.drive_is_whole.ensures.size c.drive_is_whole.ensures.whole told c.requires)

pub returns : goal.returns
returns g c =
    let k = c.geometry.result in
    let told = subst (λ (b : List Block). IsGeometryBy b (home_read (home_at b)) k) c.all.ensures c.geometry.ensures.told in
    λ x t. c.free_bits.ensures ∙ (ap (λ (b : List Block). free_bits k b) c.all-2.ensures ∙ sym (free_told c.args.m.now.blocks k c.drive_is_whole.ensures.size c.drive_is_whole.ensures.whole told x t))
