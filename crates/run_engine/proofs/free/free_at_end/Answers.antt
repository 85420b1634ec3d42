use Rattle.std.proofs.Common.{◌<◌, ◌+◌, ◌/◌, ℕ, List, length, sym, ap, subst, ◌∙◌}
use Rattle.base_words.specs.Fields.{Block}
use Rattle.vol_parts.specs.declared.geometry.Geometry.{Geometry}
use Rattle.vol_parts.specs.Parts.{IsGeometry}
use Rattle.vol_spell.specs.Reading.{total_of}
use Rattle.run_engine.specs.Ended.{free_bits}
use Rattle.run_engine.proofs.Ending.{over_is_spelt, free_is_bits, bit_there}
use Rattle.run_engine.proofs.free.free_at_end.Goals as goal

pub free_bits-requires-clause-geometry : goal.free_bits-requires-clause-geometry
free_bits-requires-clause-geometry g c =
    let e = over_is_spelt c.args.w.now.world c.keeps_the_rules.ensures.good c.requires in
    subst IsGeometry (sym (ap (λ h. h.world.geometry) c.w.view_is)) e.1.drive.spelt.counts.geometry

pub free_bits-requires-clause-there : goal.free_bits-requires-clause-there
free_bits-requires-clause-there g c =
    let w = c.args.w.now.world in
    let e = over_is_spelt w c.keeps_the_rules.ensures.good c.requires in
    let P : Geometry → Type 0 = λ k. (q : ℕ) → q < total_of k → k.bitmap_lbn + 1 + q / 4096 < length c.all.result.now in
    let R : List Block → Type 0 = λ bs. (q : ℕ) → q < total_of w.geometry → w.geometry.bitmap_lbn + 1 + q / 4096 < length bs in
    subst P (sym (ap (λ h. h.world.geometry) c.w.view_is))
    (subst R (sym (c.all.ensures ∙ ap (λ h. h.world.blocks) c.w.view_is)) (bit_there w.geometry w.blocks e.1.drive.own e.0 e.1.drive.spelt))

pub returns : goal.returns
returns g c =
    let w = c.args.w.now.world in
    let e = over_is_spelt w c.keeps_the_rules.ensures.good c.requires in
    let here = ap (λ (k : Geometry). free_bits k c.all.result.now) (ap (λ h. h.world.geometry) c.w.view_is) in
    let blocks = ap (λ (bs : List Block). free_bits w.geometry bs) (c.all.ensures ∙ ap (λ h. h.world.blocks) c.w.view_is) in
    (e.0, e.1, c.free_bits.ensures ∙ here ∙ blocks ∙ sym (free_is_bits w e.0 e.1))
